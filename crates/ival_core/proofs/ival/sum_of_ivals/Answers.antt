use Rattle.std.proofs.Common.{sym, ap, ◌∙◌}
use Rattle.spec_intervals.specs.Interval.{Interval}
use Rattle.ival_core.proofs.Chosen.{in_order, out_of_order, sum-zero, sum-other_zero, sum-upward, sum-downward}
use Rattle.ival_core.proofs.Passing.{compared}
use Rattle.ival_core.proofs.ival.sum_of_ivals.Goals as goal

pub sum_with_coarser-requires-clause-exponent : goal.sum_with_coarser-requires-clause-exponent
sum_with_coarser-requires-clause-exponent c = c.requires.exponent

pub sum_with_coarser-requires-clause-other_exponent : goal.sum_with_coarser-requires-clause-other_exponent
sum_with_coarser-requires-clause-other_exponent c = c.requires.other_exponent

pub sum_with_coarser-requires-else-x-y-clause-exponent : goal.sum_with_coarser-requires-else-x-y-clause-exponent
sum_with_coarser-requires-else-x-y-clause-exponent c = c.requires.other_exponent

pub sum_with_coarser-requires-else-x-y-clause-other_exponent : goal.sum_with_coarser-requires-else-x-y-clause-other_exponent
sum_with_coarser-requires-else-x-y-clause-other_exponent c = c.requires.exponent

pub sum_with_coarser-requires-clause-order : goal.sum_with_coarser-requires-clause-order
sum_with_coarser-requires-clause-order c =
    let same = compared _ _ c.args.x.s c.args.y.s (ap (λ (t : Interval). t.s) c.x.view_is) (ap (λ (t : Interval). t.s) c.y.view_is) c.requires.exponent c.requires.other_exponent in
    in_order c.args.x.s c.args.y.s (sym same ∙ c.if-x-y.true)

pub sum_with_coarser-requires-else-x-y-clause-order : goal.sum_with_coarser-requires-else-x-y-clause-order
sum_with_coarser-requires-else-x-y-clause-order c =
    let same = compared _ _ c.args.x.s c.args.y.s (ap (λ (t : Interval). t.s) c.x.view_is) (ap (λ (t : Interval). t.s) c.y.view_is) c.requires.exponent c.requires.other_exponent in
    out_of_order c.args.x.s c.args.y.s (sym same ∙ c.if-x-y.false)

pub returns-then-is_zero : goal.returns-then-is_zero
returns-then-is_zero c = sum-zero c.args.x c.args.y (sym c.is_zero.ensures ∙ c.if-is_zero.true)

pub returns-then-is_zero-2 : goal.returns-then-is_zero-2
returns-then-is_zero-2 c = sum-other_zero c.args.x c.args.y (sym c.is_zero.ensures ∙ c.if-is_zero.false) (sym c.is_zero-else-is_zero.ensures ∙ c.if-is_zero-2.true)

pub returns-then-x-y : goal.returns-then-x-y
returns-then-x-y c =
    let same = compared _ _ c.args.x.s c.args.y.s (ap (λ (t : Interval). t.s) c.x.view_is) (ap (λ (t : Interval). t.s) c.y.view_is) c.requires.exponent c.requires.other_exponent in
    c.sum_with_coarser.ensures ∙ sum-upward c.args.x c.args.y (sym c.is_zero.ensures ∙ c.if-is_zero.false) (sym c.is_zero-else-is_zero.ensures ∙ c.if-is_zero-2.false) (sym same ∙ c.if-x-y.true)

pub returns-else-x-y : goal.returns-else-x-y
returns-else-x-y c =
    let same = compared _ _ c.args.x.s c.args.y.s (ap (λ (t : Interval). t.s) c.x.view_is) (ap (λ (t : Interval). t.s) c.y.view_is) c.requires.exponent c.requires.other_exponent in
    c.sum_with_coarser-else-x-y.ensures ∙ sum-downward c.args.x c.args.y (sym c.is_zero.ensures ∙ c.if-is_zero.false) (sym c.is_zero-else-is_zero.ensures ∙ c.if-is_zero-2.false) (sym same ∙ c.if-x-y.false)
