-- Commands under construction.
use Rattle.std.specs.Prelude.{Bool, true, false, List, [], ◌∷◌, ◌++◌}
use Rattle.clap.specs.Walk.{Rule}
use Rattle.clap.specs.Simple.{App, on_top}
use Rattle.spec_requests.specs.declared.request.Named.{Named}
use Rattle.spec_requests.specs.declared.request.Named.TheVariants as option
use Rattle.spec_requests.specs.declared.tables.CommandName.{CommandName}
use Rattle.spec_requests.specs.declared.tables.CommandName.TheVariants as command
use Rattle.spec_requests.specs.declared.tables.TheConstants.{GEN_WORDS}
use Rattle.spec_requests.specs.Commands.{option_rule, word_rule}
use Rattle.gf_words.specs.declared.commands.Role.{Role}
use Rattle.gf_words.specs.declared.commands.Role.TheVariants as role

-- the command with more arguments after those that it has
abbrev pub with_rules : List Rule → App → App
with_rules rules = on_top (λ top. record top { rules = top.rules ++ rules })

-- the argument that is given so
abbrev pub rule_of : Role → Named → Rule
rule_of role.Option = option_rule
rule_of role.Word = word_rule

-- the options of a command that stand behind those of a search
abbrev pub last_options : CommandName → List Named
last_options command.Verify = option.Cert ∷ []
last_options _ = []

-- files follow the options of the command
abbrev pub reads_files : CommandName → Bool
reads_files command.Gen = false
reads_files command.Scalar = false
reads_files _ = true

-- the words that follow the options of a command that reads no files
abbrev pub words_of : CommandName → List Named
words_of command.Gen = GEN_WORDS
words_of _ = []
