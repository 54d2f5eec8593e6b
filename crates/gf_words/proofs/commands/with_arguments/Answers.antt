use Rattle.std.proofs.Common.{◌≡◌, ◌∷◌, [], List, true, false, refl, sym, ◌∙◌, ap, map}
use Rattle.clap.specs.Walk.{Rule}
use Rattle.clap.specs.Simple.{app_of}
use Rattle.spec_requests.specs.declared.request.Named.{Named}
use Rattle.spec_requests.specs.declared.tables.CommandName.{CommandName}
use Rattle.spec_requests.specs.declared.tables.CommandName.TheVariants as command
use Rattle.spec_requests.specs.Commands.{files_rule, places_of, word_rule}
use Rattle.gf_words.specs.Commands.{reads_files, with_rules, words_of}
use Rattle.gf_words.proofs.Rules.{made_along}
use Rattle.gf_words.proofs.commands.with_arguments.Goals as goal

files_follow : (name : CommandName) → reads_files name ≡ true → files_rule ∷ [] ≡ places_of name
files_follow command.Gen reads = absurd (cc)
files_follow command.Scalar reads = absurd (cc)
files_follow _ reads = refl

words_follow : (name : CommandName) → reads_files name ≡ false → map word_rule (words_of name) ≡ places_of name
words_follow command.Gen reads = refl
words_follow command.Scalar reads = refl
words_follow _ reads = absurd (cc)

pub returns-then-reads_files : goal.returns-then-reads_files
returns-then-reads_files c =
    made_along app_of c.with_files.result _ _
    (ap (λ (rules : List Rule). with_rules rules (app_of c.args.command))
    (files_follow c.args.name (sym c.reads_files.ensures ∙ c.if-reads_files.true)))
    c.with_files.ensures

pub returns-else-reads_files : goal.returns-else-reads_files
returns-else-reads_files c =
    made_along app_of c.with_options.result _ _
    (ap (λ (rules : List Rule). with_rules rules (app_of c.args.command))
    (ap (λ (words : List Named). map word_rule words) c.fixed_words.ensures
    ∙ words_follow c.args.name (sym c.reads_files.ensures ∙ c.if-reads_files.false)))
    c.with_options.ensures
