use Rattle.std.proofs.Common.{◌≡◌, ◌^◌, ◌≤◌, ◌+ℤ◌, ◌≤ℤ◌, arith, pos, sym, subst, ℤ, unsigned_abs, to_z, of_z, w32, w64}
use Rattle.std.proofs.lemmas.Int.{ints, to_z-of_z}
use Rattle.spec_chebyshev.specs.Rows.{u_unit}
use Rattle.spec_motions.specs.Enclosures.{sum_exponent}
use Rattle.spec_covers.specs.Combining.{IsUpto, scaled_loss}
use Rattle.event_models.proofs.AxisValues.{bulk_small}
use Rattle.event_models.proofs.LostUnits.{units_enough}
use Rattle.event_models.proofs.values.lost_units.Goals as goal

kept : (z : ℤ) → unsigned_abs z ≤ 2 ^ 20 → to_z w32 (of_z w32 z) ≡ z
kept z small = omega (arith, ints, small)

pub returns-then-lowered-le14 : goal.returns-then-lowered-le14
returns-then-lowered-le14 c =
    let m = c.args.sum.now in
    let k = c.args.product.now in
    let e = c.greater_exponent-coarser.result in
    let own : to_z w32 (of_z w32 c.exponent.result) ≡ k.exponent = rw c.exponent.ensures.equals (kept k.exponent c.exponent.ensures.small.exponent) in
    let sum : to_z w32 (of_z w32 c.exponent-2.result) ≡ m.exponent = rw c.exponent-2.ensures.equals (kept m.exponent c.exponent-2.ensures.small.exponent) in
    let again : to_z w32 (of_z w32 c.exponent-3.result) ≡ k.exponent = rw c.exponent-3.ensures.equals (kept k.exponent c.exponent-3.ensures.small.exponent) in
    let coarser : to_z w32 (of_z w32 e) ≡ e = kept e c.greater_exponent-coarser.ensures.small in
    let seconds = to_z-of_z w64 c.args.seconds c.ranges.seconds in
    let long = c.requires.long in
    let above : sum_exponent u_unit ≤ℤ e = c.greater_exponent-coarser.ensures.second in
    let over : k.exponent ≤ℤ e = rw own at c.greater_exponent-coarser.ensures.first in
    let upto : m.exponent ≤ℤ (e +ℤ pos c.exponent_gap-raised.result) = rw (sum, coarser) at c.exponent_gap-raised.ensures.upto in
    let exact : e ≡ k.exponent +ℤ pos c.exponent_gap-lowered.result = (rw (again, coarser) at c.exponent_gap-lowered.ensures.exact) over in
    let is = rw seconds at c.velocity_loss.ensures in
    subst (λ u. IsUpto u k (scaled_loss (sum_exponent u_unit) m (unsigned_abs c.args.seconds))) (sym is)
    (units_enough m k (unsigned_abs c.args.seconds) c.exponent_gap-raised.result c.exponent_gap-lowered.result (sum_exponent u_unit) e (omega (arith, ints, long)) (bulk_small m c.error-error.ensures.small) above upto exact)
