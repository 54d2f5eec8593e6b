use Rattle.std.proofs.Common.{◌∙◌, rules}
use Rattle.std.specs.Int.{int_min, int_max}
use Rattle.spec_intervals.specs.Interval.{meet_up}
use Rattle.spec_intervals.proofs.Rules.{meet-in_order}
use Rattle.ival_core.proofs.Aligning.{step-is, step-ordered}
use Rattle.ival_core.proofs.ival.intersection_with_coarser.Goals as goal

pub normalize_ends-requires-clause-ordered : goal.normalize_ends-requires-clause-ordered
normalize_ends-requires-clause-ordered c =
    step-ordered int_max int_min c.args.x c.args.y c.align_ends-at.result c.align_ends-at.ensures c.ordered_ends-lo.result.1 c.ordered_ends-hi.result.0 (search rules) (search rules) c.ordered_ends-lo.ensures.greater c.ordered_ends-hi.ensures.lesser (rw (c.align_ends-at.ensures.lower_lo, c.align_ends-at.ensures.lower_hi, c.align_ends-at.ensures.upper_lo, c.align_ends-at.ensures.upper_hi) (meet-in_order c.args.x c.args.y c.requires.order c.requires.overlap))

pub returns : goal.returns
unfolding meet_up
returns c =
    c.normalize_ends.ensures ∙ step-is int_max int_min c.args.x c.args.y c.align_ends-at.result c.align_ends-at.ensures c.ordered_ends-lo.result.1 c.ordered_ends-hi.result.0 (search rules) (search rules) c.ordered_ends-lo.ensures.greater c.ordered_ends-hi.ensures.lesser
