use Rattle.std.proofs.Common.{◌≡◌, ◌∙◌, max, ap, unsigned_abs}
use Rattle.std.proofs.lemmas.Int.{to_z-of_z}
use Rattle.spec_intervals.specs.Interval.{end_limit}
use Rattle.ival_core.proofs.ends.least_shift.Goals as goal

pub leading_shift-requires-clause-is : goal.leading_shift-requires-clause-is
leading_shift-requires-clause-is c =
    let l = c.ranges.lo in
    let h = c.ranges.hi in
    let a : c.unsigned_abs.result ≡ unsigned_abs c.args.lo = simp to_z-of_z at c.unsigned_abs.ensures.value in
    let b : c.unsigned_abs-2.result ≡ unsigned_abs c.args.hi = simp to_z-of_z at c.unsigned_abs-2.ensures.value in
    let m : c.max.result ≡ max c.unsigned_abs.result c.unsigned_abs-2.result = c.max.ensures in
    let e : c.max-size.result ≡ max (max (unsigned_abs c.args.lo) (unsigned_abs c.args.hi)) end_limit = c.max-size.ensures ∙ ap (λ n. max n end_limit) (m ∙ (ap (λ n. max n c.unsigned_abs-2.result) a ∙ ap (max (unsigned_abs c.args.lo)) b)) in
    simp to_z-of_z e
