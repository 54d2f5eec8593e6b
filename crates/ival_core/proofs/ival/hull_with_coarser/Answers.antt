use Rattle.std.proofs.Common.{◌∙◌, rules}
use Rattle.std.specs.Int.{int_min, int_max}
use Rattle.spec_intervals.specs.Interval.{join_up}
use Rattle.ival_core.proofs.Aligning.{min_to_max, step-is, step-ordered}
use Rattle.ival_core.proofs.ival.hull_with_coarser.Goals as goal

pub normalize_ends-requires-clause-ordered : goal.normalize_ends-requires-clause-ordered
normalize_ends-requires-clause-ordered c =
    step-ordered int_min int_max c.args.x c.args.y c.align_ends-at.result c.align_ends-at.ensures c.ordered_ends-lo.result.0 c.ordered_ends-hi.result.1 (search rules) (search rules) c.ordered_ends-lo.ensures.lesser c.ordered_ends-hi.ensures.greater (min_to_max _ _ _ _ c.align_ends-at.ensures.lower_ordered)

pub returns : goal.returns
unfolding join_up
returns c =
    c.normalize_ends.ensures ∙ step-is int_min int_max c.args.x c.args.y c.align_ends-at.result c.align_ends-at.ensures c.ordered_ends-lo.result.0 c.ordered_ends-hi.result.1 (search rules) (search rules) c.ordered_ends-lo.ensures.lesser c.ordered_ends-hi.ensures.greater
