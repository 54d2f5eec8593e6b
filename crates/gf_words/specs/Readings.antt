-- What `clap` read of whole command lines, and the names of files in it.
use Rattle.std.specs.Prelude.{◌≡◌, false, List, [], codes, unwrap_or}
use Rattle.clap.specs.Walk.{all_of, rows_of}
use Rattle.clap.specs.Simple.{App, matches_of}
use Rattle.clap.specs.Matches.{found_of}
use Rattle.clap.specs.declared.parser.matches.ArgMatches.{ArgMatches}
use Rattle.clap.specs.declared.error.kind.ErrorKind.{ErrorKind}
use Rattle.clap.specs.declared.error.kind.ErrorKind.TheVariants.{OutOfMemory}
use Rattle.spec_requests.specs.declared.request.WordFault.{WordFault}
use Rattle.spec_requests.specs.declared.request.WordFault.TheVariants.{Memory, Words}
use Rattle.spec_requests.specs.Names.{Text}
use Rattle.spec_requests.specs.Commands.{is_refused}

-- the names of the files
unfoldable pub file_names_of : ArgMatches → List Text
file_names_of matches = unwrap_or (all_of (codes "FILE") (rows_of (found_of matches))) []

-- the matches are what the command reads in the words, and it reads them
pub record IsReading (command : App) (words : List Text) (matches : ArgMatches) : Type 0 where
  pub rows : rows_of (found_of matches) ≡ matches_of command words
  pub read : is_refused command words ≡ false

-- the fault of words that `clap` refuses with an error of this kind
abbrev pub word_fault : ErrorKind → WordFault
word_fault OutOfMemory = Memory
word_fault _ = Words
