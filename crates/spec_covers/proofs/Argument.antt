-- The argument of a series at one time is near a model of two coefficients.
use Rattle.std.proofs.Common.{◌≡◌, ℕ, ◌^◌, ◌<◌, ◌≤◌, arith, [], ◌∷◌, ℤ, pos, ◌+ℤ◌, ◌-ℤ◌, ◌*ℤ◌, neg_ℤ, ◌≤ℤ◌, ◌<ℤ◌}
use Rattle.std.proofs.lemmas.Int.{ints}
use Rattle.spec_numbers.specs.Numbers.{floor_div, ceil_div}
use Rattle.spec_numbers.proofs.Ring.{v, k as lit, ◌⊕◌, ◌⊖◌, ◌⊗◌, minus, ring}
use Rattle.spec_numbers.proofs.Order.{lin, le-mul, le-mul_cancel}
use Rattle.spec_numbers.proofs.Floor.{floor_div-le, floor_div-lt, ceil_div-ge, ceil_div-lt}
use Rattle.spec_numbers.proofs.Whole.{nonneg-mul}
use Rattle.spec_chebyshev.specs.Differences.{IsArgument, Within}
use Rattle.spec_chebyshev.specs.Rows.{argument_of}
use Rattle.spec_chebyshev.proofs.Sizes.{Within-mul}
use Rattle.spec_models.specs.Ends.{in_units}
use Rattle.spec_ephemeris.specs.Series.{Series, argument_at}
use Rattle.spec_motions.specs.Enclosures.{arguments}
use Rattle.spec_models.specs.Models.{IsNear, Covers}
use Rattle.spec_covers.specs.Series.{argument_model, of_entry, place, middle_argument}
use Rattle.spec_covers.proofs.Units.{near_units}

-- with a = b / l and c = q / l rounded down, and w within one of (b + p) / l: w is within 3 of a + c p / q
module _ (p q b K a c w : ℤ) (l : ℕ) (is : IsArgument p q) (long : 0 < l)
    (a_low : (a *ℤ pos l) ≤ℤ (b *ℤ K)) (a_high : (b *ℤ K) <ℤ (a *ℤ pos l +ℤ pos l))
    (c_low : (c *ℤ pos l) ≤ℤ (q *ℤ K)) (c_high : (q *ℤ K) <ℤ (c *ℤ pos l +ℤ pos l))
    (w_low : ((b +ℤ p) *ℤ K -ℤ pos l) ≤ℤ (w *ℤ pos l)) (w_high : (w *ℤ pos l) ≤ℤ ((b +ℤ p) *ℤ K +ℤ pos l)) where
  q_nonneg : pos 0 ≤ℤ q
  q_nonneg = let first = is.positive in omega (arith, lin)

  -- how far p c is from p q / l, times l
  turn : Within (p *ℤ (q *ℤ K -ℤ c *ℤ pos l)) (q *ℤ pos l)
  turn = Within-mul p (q *ℤ K -ℤ c *ℤ pos l) q (pos l) q_nonneg (omega (arith, ints)) (record { low = is.low; high = is.high }) (record { low = omega (arith, ints, c_low); high = omega (arith, lin) })

  scaled_w : ((b +ℤ p) *ℤ K *ℤ q -ℤ pos l *ℤ q) ≤ℤ (w *ℤ pos l *ℤ q) × (w *ℤ pos l *ℤ q) ≤ℤ ((b +ℤ p) *ℤ K *ℤ q +ℤ pos l *ℤ q)
  scaled_w =
      let g = le-mul ((b +ℤ p) *ℤ K -ℤ pos l) (w *ℤ pos l) q q_nonneg w_low in
      let h = le-mul (w *ℤ pos l) ((b +ℤ p) *ℤ K +ℤ pos l) q q_nonneg w_high in
      let e = ring ((b +ℤ p) ∷ K ∷ pos l ∷ q ∷ []) ((v 0 ⊗ v 1 ⊖ v 2) ⊗ v 3) (v 0 ⊗ v 1 ⊗ v 3 ⊖ v 2 ⊗ v 3) tt in
      let f = ring ((b +ℤ p) ∷ K ∷ pos l ∷ q ∷ []) ((v 0 ⊗ v 1 ⊕ v 2) ⊗ v 3) (v 0 ⊗ v 1 ⊗ v 3 ⊕ v 2 ⊗ v 3) tt in
      (omega (arith, lin), omega (arith, lin))

  scaled_a : (a *ℤ pos l *ℤ q) ≤ℤ (b *ℤ K *ℤ q) × (b *ℤ K *ℤ q) ≤ℤ (a *ℤ pos l *ℤ q +ℤ pos l *ℤ q)
  scaled_a =
      let g = le-mul (a *ℤ pos l) (b *ℤ K) q q_nonneg a_low in
      let h = le-mul (b *ℤ K) (a *ℤ pos l +ℤ pos l) q q_nonneg (omega (arith, lin)) in
      let e = ring (a ∷ pos l ∷ q ∷ []) ((v 0 ⊗ v 1 ⊕ v 1) ⊗ v 2) (v 0 ⊗ v 1 ⊗ v 2 ⊕ v 1 ⊗ v 2) tt in
      (g, omega (arith, lin))

  -- all times l, then divided by it
  parts : (b +ℤ p) *ℤ K *ℤ q ≡ b *ℤ K *ℤ q +ℤ p *ℤ c *ℤ pos l +ℤ p *ℤ (q *ℤ K -ℤ c *ℤ pos l)
  parts = ring (b ∷ p ∷ K ∷ q ∷ c ∷ pos l ∷ []) ((v 0 ⊕ v 1) ⊗ v 2 ⊗ v 3) (v 0 ⊗ v 2 ⊗ v 3 ⊕ v 1 ⊗ v 4 ⊗ v 5 ⊕ v 1 ⊗ (v 3 ⊗ v 2 ⊖ v 4 ⊗ v 5)) tt

  near_low : (a *ℤ q +ℤ p *ℤ c -ℤ pos 3 *ℤ q) ≤ℤ (w *ℤ q)
  near_low =
      let s = scaled_w.0 in
      let t = scaled_a.0 in
      let u = turn.low in
      let y = nonneg-mul q (pos l) q_nonneg (omega (arith, ints)) in
      let x = parts in
      let e = ring (a ∷ q ∷ p ∷ c ∷ pos l ∷ []) ((v 0 ⊗ v 1 ⊕ v 2 ⊗ v 3 ⊖ lit (pos 3) ⊗ v 1) ⊗ v 4) (v 0 ⊗ v 4 ⊗ v 1 ⊕ v 2 ⊗ v 3 ⊗ v 4 ⊖ (v 4 ⊗ v 1 ⊕ v 4 ⊗ v 1 ⊕ v 4 ⊗ v 1)) tt in
      let f = ring (w ∷ q ∷ pos l ∷ []) (v 0 ⊗ v 1 ⊗ v 2) (v 0 ⊗ v 2 ⊗ v 1) tt in
      let g = ring (q ∷ pos l ∷ []) (v 0 ⊗ v 1) (v 1 ⊗ v 0) tt in
      le-mul_cancel (a *ℤ q +ℤ p *ℤ c -ℤ pos 3 *ℤ q) (w *ℤ q) l long (omega (arith, lin))

  near_high : (w *ℤ q) ≤ℤ (a *ℤ q +ℤ p *ℤ c +ℤ pos 3 *ℤ q)
  near_high =
      let s = scaled_w.1 in
      let t = scaled_a.1 in
      let u = turn.high in
      let x = parts in
      let e = ring (a ∷ q ∷ p ∷ c ∷ pos l ∷ []) ((v 0 ⊗ v 1 ⊕ v 2 ⊗ v 3 ⊕ lit (pos 3) ⊗ v 1) ⊗ v 4) (v 0 ⊗ v 4 ⊗ v 1 ⊕ v 2 ⊗ v 3 ⊗ v 4 ⊕ (v 4 ⊗ v 1 ⊕ v 4 ⊗ v 1 ⊕ v 4 ⊗ v 1)) tt in
      let f = ring (w ∷ q ∷ pos l ∷ []) (v 0 ⊗ v 1 ⊗ v 2) (v 0 ⊗ v 2 ⊗ v 1) tt in
      let g = ring (q ∷ pos l ∷ []) (v 0 ⊗ v 1) (v 1 ⊗ v 0) tt in
      le-mul_cancel (w *ℤ q) (a *ℤ q +ℤ p *ℤ c +ℤ pos 3 *ℤ q) l long (omega (arith, lin))

module _ (unit : ℕ) (p q b w : ℤ) (l : ℕ) (is : IsArgument p q) (long : 0 < l)
    (w_low : ((b +ℤ p) *ℤ pos (2 ^ 60) -ℤ pos l) ≤ℤ (w *ℤ pos l)) (w_high : (w *ℤ pos l) ≤ℤ ((b +ℤ p) *ℤ pos (2 ^ 60) +ℤ pos l)) where
  abbrev first : ℤ
  first = floor_div (b *ℤ pos (2 ^ 60)) l

  abbrev second : ℤ
  second = floor_div (q *ℤ pos (2 ^ 60)) l

  near_argument : IsNear (argument_model unit b q l) p q (in_units w (neg_ℤ (pos unit)))
  near_argument =
      let low = near_low p q b (pos (2 ^ 60)) first second w l is long (floor_div-le _ l long) (floor_div-lt _ l long) (floor_div-le _ l long) (floor_div-lt _ l long) w_low w_high in
      let high = near_high p q b (pos (2 ^ 60)) first second w l is long (floor_div-le _ l long) (floor_div-lt _ l long) (floor_div-le _ l long) (floor_div-lt _ l long) w_low w_high in
      let below = le-mul (first *ℤ q +ℤ p *ℤ second -ℤ pos 3 *ℤ q) (w *ℤ q) q (q_nonneg p q b (pos (2 ^ 60)) first second w l is long (floor_div-le _ l long) (floor_div-lt _ l long) (floor_div-le _ l long) (floor_div-lt _ l long) w_low w_high) low in
      let above = le-mul (w *ℤ q) (first *ℤ q +ℤ p *ℤ second +ℤ pos 3 *ℤ q) q (q_nonneg p q b (pos (2 ^ 60)) first second w l is long (floor_div-le _ l long) (floor_div-lt _ l long) (floor_div-le _ l long) (floor_div-lt _ l long) w_low w_high) high in
      let e = ring (first ∷ second ∷ p ∷ q ∷ [])
      (v 0 ⊗ (v 3 ⊗ (v 3 ⊗ lit (pos 1))) ⊕ v 2 ⊗ (v 1 ⊗ (v 3 ⊗ lit (pos 1)) ⊕ v 2 ⊗ lit (pos 0)) ⊕ minus (lit (pos 3)) ⊗ (v 3 ⊗ (v 3 ⊗ lit (pos 1))))
      ((v 0 ⊗ v 3 ⊕ v 2 ⊗ v 1 ⊖ lit (pos 3) ⊗ v 3) ⊗ v 3) tt in
      let f = ring (first ∷ second ∷ p ∷ q ∷ [])
      (v 0 ⊗ (v 3 ⊗ (v 3 ⊗ lit (pos 1))) ⊕ v 2 ⊗ (v 1 ⊗ (v 3 ⊗ lit (pos 1)) ⊕ v 2 ⊗ lit (pos 0)) ⊕ lit (pos 3) ⊗ (v 3 ⊗ (v 3 ⊗ lit (pos 1))))
      ((v 0 ⊗ v 3 ⊕ v 2 ⊗ v 1 ⊕ lit (pos 3) ⊗ v 3) ⊗ v 3) tt in
      let g = ring (w ∷ q ∷ []) (v 0 ⊗ (v 1 ⊗ (v 1 ⊗ lit (pos 1)))) (v 0 ⊗ v 1 ⊗ v 1) tt in
      near_units (argument_model unit b q l) p q is w (omega (arith, lin)) (omega (arith, lin))

-- the two ends of an argument
Covers-argument : (unit : ℕ) (p q b : ℤ) (l : ℕ) → IsArgument p q → 0 < l
    → Covers (argument_model unit b q l) p q (of_entry unit (argument_of (b +ℤ p) (b +ℤ p) (pos l)))
unfolding argument_of
Covers-argument unit p q b l is long =
    let u = (b +ℤ p) *ℤ pos (2 ^ 60) in
    let f0 = floor_div-le ((b +ℤ p) *ℤ pos (2 ^ 60)) l long in
    let f1 = floor_div-lt ((b +ℤ p) *ℤ pos (2 ^ 60)) l long in
    let c0 = ceil_div-ge ((b +ℤ p) *ℤ pos (2 ^ 60)) l long in
    let c1 = ceil_div-lt ((b +ℤ p) *ℤ pos (2 ^ 60)) l long in
    record {
      low = near_argument unit p q b (floor_div ((b +ℤ p) *ℤ pos (2 ^ 60)) l) l is long (omega (arith, lin)) (omega (arith, lin));
      high = near_argument unit p q b (ceil_div ((b +ℤ p) *ℤ pos (2 ^ 60)) l) l is long (omega (arith, lin)) (omega (arith, lin));
    }

-- ---- a time of the times from c to d
pub IsArgument-place : (c d t : ℤ) → c <ℤ d → c ≤ℤ t → t ≤ℤ d → IsArgument (place c d t) (d -ℤ c)
IsArgument-place c d t several after before = record { positive = omega (arith, ints); low = omega (arith, ints); high = omega (arith, ints) }

pub Covers-arguments : (s : Series) (c d t : ℤ) → c <ℤ d → c ≤ℤ t → t ≤ℤ d → (unit : ℕ) → 1 ≤ s.duration
    → Covers (argument_model unit (middle_argument s c d) (d -ℤ c) s.duration) (place c d t) (d -ℤ c) (of_entry unit (arguments s t t))
Covers-arguments s c d t several after before unit long =
    let e : middle_argument s c d +ℤ place c d t ≡ argument_at s t = omega (arith, ints) in
    rw e at (Covers-argument unit (place c d t) (d -ℤ c) (middle_argument s c d) s.duration (IsArgument-place c d t several after before) long)
