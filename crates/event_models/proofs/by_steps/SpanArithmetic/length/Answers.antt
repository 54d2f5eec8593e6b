use Rattle.event_models.proofs.Constants.{decimal_ordered}
use Rattle.event_models.proofs.Rules.{constant_made}
use Rattle.event_models.proofs.by_steps.SpanArithmetic.length.Goals as goal

pub length_interval-requires : goal.length_interval-requires
length_interval-requires c = c.listed_constants_are_within_limits.ensures.lengths _ c.args.km c.requires.part

pub returns : goal.returns
returns c =
    let t = c.args.self.now.times in
    constant_made t.first t.last t.ordered c.of_interval.result _ (decimal_ordered _ _ _) (rw c.length_interval.ensures.equals at c.of_interval.ensures)
