-- What `clap` read, as values of options.
use Rattle.std.specs.Prelude.{Option, option_map}
use Rattle.std.specs.Borrow.{Bor}
use Rattle.clap.specs.Walk.{first_of, rows_of}
use Rattle.clap.specs.Matches.{found_of}
use Rattle.clap.specs.declared.parser.matches.ArgMatches.{ArgMatches}
use Rattle.spec_requests.specs.Names.{Text, option_name}
use Rattle.spec_requests.specs.Options.{Values}

-- the text behind a reference, where there is one
abbrev pub text_in : Option (Bor Text) → Option Text
text_in = option_map (λ text. text.now)

-- the values of options and of the words of `gen`
unfoldable pub values_of : ArgMatches → Values
values_of matches option = first_of (option_name option) (rows_of (found_of matches))
