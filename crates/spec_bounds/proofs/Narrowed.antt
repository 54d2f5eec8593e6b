-- What has its ends round those of another at one exponent includes it once both are narrowed, also after both are scaled.
use Rattle.std.proofs.Common.{◌≡◌, ℕ, ◌^◌, ◌<◌, arith, [], ◌∷◌, ℤ, pos, ◌*ℤ◌, inl}
use Rattle.spec_numbers.specs.Numbers.{floor_div, ceil_div}
use Rattle.spec_numbers.proofs.Ring.{v, k as lit, ◌⊗◌, ring}
use Rattle.spec_numbers.proofs.Order.{lin}
use Rattle.spec_numbers.proofs.Floor.{ordered_quotients}
use Rattle.spec_numbers.proofs.Integers.{doubled}
use Rattle.spec_intervals.specs.Interval.{interval, narrow, scale}
use Rattle.spec_chebyshev.specs.declared.ends.Ival62.{Ival62}
use Rattle.spec_chebyshev.specs.Rows.{ends}
use Rattle.spec_models.specs.Inclusion.{Includes, Spans}
use Rattle.spec_models.proofs.Inclusions.{Includes-narrow}
use Rattle.spec_bounds.proofs.Covers.{Covers, IsOrdered}
use Rattle.spec_bounds.proofs.Products.{floor_div-grows, ceil_div-grows}

-- in the same unit
Spans-covers : (f e : Ival62) (s : ℤ) → Covers f e → Spans (interval f.lo f.hi s) (interval e.lo e.hi s)
Spans-covers f e s h =
    let low = h.low in
    let high = h.high in
    let p = once f.lo in
    let q = once f.hi in
    record { gap = 0; exponent = omega (arith, lin); low = omega (arith, lin); high = omega (arith, lin) }
  where
    once : (z : ℤ) → z *ℤ pos (2 ^ 0) ≡ z
    once z = ring (z ∷ []) (v 0 ⊗ lit (pos 1)) (v 0) tt

pub Includes-narrowed : (f e : Ival62) (s : ℤ) → IsOrdered e → Covers f e → Includes (narrow f.lo f.hi s) (narrow e.lo e.hi s)
Includes-narrowed f e s ordered h = Includes-narrow (interval f.lo f.hi s) (interval e.lo e.hi s) ordered (inl (Spans-covers f e s h))

-- ---- 2 / length times the numbers, rounded outward
abbrev pub scaled : ℕ → Ival62 → Ival62
scaled length e = ends (floor_div (pos 2 *ℤ e.lo) length) (ceil_div (pos 2 *ℤ e.hi) length)

module _ (length : ℕ) (long : 0 < length) where
  pub scaled_ordered : (e : Ival62) → IsOrdered e → IsOrdered (scaled length e)
  scaled_ordered e h =
      let p = doubled e.lo in
      let q = doubled e.hi in
      ordered_quotients (pos 2 *ℤ e.lo) (pos 2 *ℤ e.hi) length long (omega (arith, lin))

  pub Covers-scaled : (f e : Ival62) → Covers f e → Covers (scaled length f) (scaled length e)
  Covers-scaled f e h =
      let low = h.low in
      let high = h.high in
      let ll = doubled f.lo in
      let lh = doubled f.hi in
      let hl = doubled e.lo in
      let hh = doubled e.hi in
      record {
        low = floor_div-grows (pos 2 *ℤ f.lo) (pos 2 *ℤ e.lo) length long (omega (arith, lin));
        high = ceil_div-grows (pos 2 *ℤ e.hi) (pos 2 *ℤ f.hi) length long (omega (arith, lin));
      }

  pub Includes-scale : (f e : Ival62) (s : ℤ) → IsOrdered e → Covers f e → Includes (scale f.lo f.hi s length) (scale e.lo e.hi s length)
  unfolding scale
  Includes-scale f e s ordered h = Includes-narrowed (scaled length f) (scaled length e) s (scaled_ordered e ordered) (Covers-scaled f e h)
