use Rattle.std.proofs.Common.{◌≡◌, map, take}
use Rattle.clap.specs.Simple.{app_of}
use Rattle.gf_words.specs.Commands.{rule_of, with_rules}
use Rattle.gf_words.proofs.commands.with_options.Given as goal

abbrev pub invariant-loop-option : goal.invariant-loop-option
invariant-loop-option l =
    app_of l.command ≡ with_rules (map (rule_of l.role) (take l.option-index l.options)) (app_of l.fn.command)
