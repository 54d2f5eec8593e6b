use Rattle.clap.specs.Simple.{app_of}
use Rattle.spec_requests.specs.declared.request.Named.TheVariants.{Kind}
use Rattle.gf_words.specs.Commands.{rule_of}
use Rattle.gf_words.proofs.Rules.{rules_step}
use Rattle.gf_words.proofs.commands.with_options.Goals as goal

pub loop-option-preserved : goal.loop-option-preserved
loop-option-preserved c =
    rules_step (rule_of c.args.role) c.args.options.now c.loop-option.option-index Kind (app_of c.args.command) (app_of c.loop-option.command)
    (app_of c.in_ok-command.command) c.loop-option-test.true c.loop-option.invariant c.in_ok-command.ensures
