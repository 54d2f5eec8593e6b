-- The commands as `clap` sees them, and what it reads in words.
use Rattle.std.specs.Prelude.{Bool, true, not, List, [], ◌∷◌, ◌++◌, map, Some, codes, unwrap_or}
use Rattle.clap.specs.Walk.{Rule, all_of, first_of, is_empty}
use Rattle.clap.specs.Simple.{App, matches_of, new_app, new_rule, on_top}
use Rattle.clap.specs.Faults.{fault_of}
use Rattle.clap.specs.declared.builder.action.ArgAction.TheVariants.{Append}
use Rattle.spec_requests.specs.declared.request.Named.{Named}
use Rattle.spec_requests.specs.declared.tables.CommandName.{CommandName}
use Rattle.spec_requests.specs.declared.tables.CommandName.TheVariants as command
use Rattle.spec_requests.specs.declared.tables.TheConstants.{FIND_OPTIONS, GEN_OPTIONS, GEN_WORDS, SCALAR_OPTIONS, SET_OPTIONS}
use Rattle.spec_requests.specs.Names.{Text, command_name, option_name}
use Rattle.spec_requests.specs.Options.{verify_options, Values}

-- `--name VALUE`, at most once
abbrev pub option_rule : Named → Rule
option_rule option = record (new_rule (option_name option)) { long = Some (option_name option) }

-- a word that has to be there
abbrev pub word_rule : Named → Rule
word_rule option = record (new_rule (option_name option)) { required = true }

-- one file or more
abbrev pub files_rule : Rule
files_rule = record (new_rule (codes "FILE")) { action = Some Append; required = true }

-- a command with these arguments, without a flag for help
abbrev pub command_with : Text → List Rule → App
command_with name rules = on_top (λ top. record top { rules = rules; disable_help_flag = true }) (new_app name)

-- the options of a command
abbrev pub options_of : CommandName → List Named
options_of command.Find = FIND_OPTIONS
options_of command.Cert = FIND_OPTIONS
options_of command.Verify = verify_options
options_of command.Check = []
options_of command.Gen = GEN_OPTIONS
options_of command.Set = SET_OPTIONS
options_of command.Scalar = SCALAR_OPTIONS

-- what follows them: the words of `gen`, nothing where no file is read, the files of all others
abbrev pub places_of : CommandName → List Rule
places_of command.Gen = map word_rule GEN_WORDS
places_of command.Scalar = []
places_of _ = files_rule ∷ []

-- the command of this name
unfoldable pub command_rules : CommandName → App
command_rules name = command_with (command_name name) (map option_rule (options_of name) ++ places_of name)

-- the command cannot be read from the words, of which the first is its name
unfoldable pub is_refused : App → List Text → Bool
is_refused command words = not (is_empty (fault_of command words))

-- the values that the words give options and words
unfoldable pub values_in : App → List Text → Values
values_in command words option = first_of (option_name option) (matches_of command words)

-- the files that the words name, in their order
unfoldable pub files_in : App → List Text → List Text
files_in command words = unwrap_or (all_of (codes "FILE") (matches_of command words)) []
