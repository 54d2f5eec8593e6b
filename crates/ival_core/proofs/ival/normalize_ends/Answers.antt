use Rattle.std.proofs.Common.{◌≡◌, ◌∙◌, ◌≤◌, max, arith, refl, w32, w64, ◌%◌, unsigned_abs}
use Rattle.std.proofs.lemmas.Int.{to_z-of_z}
use mir.Syntax.{w128}
use mir.Val.{SFits}
use Rattle.spec_intervals.specs.Interval.{settled, end_limit, narrow}
use Rattle.ival_core.proofs.Settling.{narrow-small}
use Rattle.ival_core.proofs.Passing.{exponent_kept, order_kept, wide_kept}
use Rattle.ival_core.proofs.ival.normalize_ends.Goals as goal

pub returns-then-is_end_magnitude : goal.returns-then-is_end_magnitude
returns-then-is_end_magnitude c =
    let l = c.ranges.lo in
    let h = c.ranges.hi in
    let s = c.ranges.s in
    let f : SFits w64 c.end_in_64_bits.result = record { sfits = c.end_in_64_bits.type_inv } in
    let g : SFits w64 c.end_in_64_bits-then-is_end_magnitude.result = record { sfits = c.end_in_64_bits-then-is_end_magnitude.type_inv } in
    let a : c.end_in_64_bits.result ≡ c.args.lo = simp to_z-of_z at c.end_in_64_bits.ensures in
    let b : c.end_in_64_bits-then-is_end_magnitude.result ≡ c.args.hi = simp to_z-of_z at c.end_in_64_bits-then-is_end_magnitude.ensures in
    let m : c.greater_magnitude-size.result ≡ max (unsigned_abs c.args.lo) (unsigned_abs c.args.hi) = simp to_z-of_z at c.greater_magnitude-size.ensures.equals in
    let t : c.greater_magnitude-size.result ≤ end_limit = c.if-is_end_magnitude.ensures.0 refl in
    let p : unsigned_abs c.args.lo ≤ end_limit = omega arith in
    let q : unsigned_abs c.args.hi ≤ end_limit = omega arith in
    let e : settled c.end_in_64_bits.result c.end_in_64_bits-then-is_end_magnitude.result c.args.s ≡ settled c.args.lo c.args.hi c.args.s = λ i. settled (a i) (b i) c.args.s in
    (simp to_z-of_z at c.ival_of_ends.ensures) ∙ (e ∙ narrow-small c.args.lo c.args.hi c.args.s p q)

pub greater_magnitude-size-requires-clause-lo_bound : goal.greater_magnitude-size-requires-clause-lo_bound
greater_magnitude-size-requires-clause-lo_bound c = wide_kept c.args.lo c.requires.lo_bound

pub greater_magnitude-size-requires-clause-hi_bound : goal.greater_magnitude-size-requires-clause-hi_bound
greater_magnitude-size-requires-clause-hi_bound c = wide_kept c.args.hi c.requires.hi_bound

pub halve_ends-requires-clause-exponent : goal.halve_ends-requires-clause-exponent
halve_ends-requires-clause-exponent c = exponent_kept c.args.s c.requires.exponent

pub greater_magnitude-size-requires-clause-ordered : goal.greater_magnitude-size-requires-clause-ordered
greater_magnitude-size-requires-clause-ordered c = order_kept c.args.lo c.args.hi c.requires.lo_bound c.requires.hi_bound c.requires.ordered

pub end_in_64_bits-requires : goal.end_in_64_bits-requires
end_in_64_bits-requires c =
    let g = c.greater_magnitude-size.ensures.equals in
    let t = c.if-is_end_magnitude.ensures.0 refl in
    omega arith

pub end_in_64_bits-requires-then-is_end_magnitude : goal.end_in_64_bits-requires-then-is_end_magnitude
end_in_64_bits-requires-then-is_end_magnitude c =
    let g = c.greater_magnitude-size.ensures.equals in
    let t = c.if-is_end_magnitude.ensures.0 refl in
    omega arith

pub leading_shift-requires-clause-ordered : goal.leading_shift-requires-clause-ordered
leading_shift-requires-clause-ordered c = order_kept c.args.lo c.args.hi c.requires.lo_bound c.requires.hi_bound c.requires.ordered

pub halve_ends-requires-clause-ordered : goal.halve_ends-requires-clause-ordered
halve_ends-requires-clause-ordered c = order_kept c.args.lo c.args.hi c.requires.lo_bound c.requires.hi_bound c.requires.ordered

pub halve_ends-requires-clause-above_least : goal.halve_ends-requires-clause-above_least
halve_ends-requires-clause-above_least c = let high = wide_kept c.args.hi c.requires.hi_bound in omega arith

pub halve_ends-requires-clause-least : goal.halve_ends-requires-clause-least
halve_ends-requires-clause-least c =
    let few = c.leading_shift.ensures.few c.greater_magnitude-size.ensures.bound in
    let whole : c.leading_shift.result % 64 ≡ c.leading_shift.result = omega (arith, few) in
    whole ∙ c.leading_shift.ensures.equals

pub halve_ends-requires-clause-few : goal.halve_ends-requires-clause-few
halve_ends-requires-clause-few c = omega arith

pub returns-else-is_end_magnitude : goal.returns-else-is_end_magnitude
returns-else-is_end_magnitude c = c.halve_ends.ensures ∙ λ i. narrow (to_z-of_z w128 c.args.lo c.ranges.lo i) (to_z-of_z w128 c.args.hi c.ranges.hi i) (to_z-of_z w32 c.args.s c.ranges.s i)
