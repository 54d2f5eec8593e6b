-- The intervals of velocities and of changes hold the exact ones.
use Rattle.std.proofs.Common.{◌≡◌, ℕ, zero, suc, ◌+◌, ◌-◌, ◌*◌, ◌^◌, ◌<◌, ◌≤◌, arith, refl, sym, ap, ◌∙◌, subst, Bool, true, false, List, [], ◌∷◌, length, map, drop, All, ℤ, pos, negsuc, ◌+ℤ◌, ◌-ℤ◌, ◌*ℤ◌, ◌≤ℤ◌, ◌<ℤ◌}
use Rattle.std.proofs.lemmas.Int.{ints}
use lib.Signed.{lt_z}
use Rattle.spec_text.specs.declared.decimals.Decimal.{Decimal}
use Rattle.spec_numbers.specs.Numbers.{floor_div, ceil_div, power}
use Rattle.spec_intervals.specs.Interval.{scale}
use Rattle.spec_intervals.specs.Fraction.{Holds, fraction}
use Rattle.spec_chebyshev.specs.Polynomials.{cleared_t, cleared_u}
use Rattle.spec_numbers.proofs.Ring.{v, k as lit, ◌⊕◌, ◌⊖◌, ◌⊗◌, ring}
use Rattle.spec_numbers.proofs.Order.{lin, le-mul}
use Rattle.spec_numbers.proofs.Whole.{nonneg-mul}
use Rattle.spec_numbers.proofs.Floor.{floor_div-le, ceil_div-ge}
use Rattle.spec_intervals.proofs.Rules.{Holds-scale}
use Rattle.spec_chebyshev.specs.declared.ends.Ival62.{Ival62}
use Rattle.spec_chebyshev.specs.Differences.{difference_t, difference_u, IsArgument}
use Rattle.spec_chebyshev.specs.Rows.{ends, nothing, q_row, r_row, u_row, HoldsIn}
use Rattle.spec_chebyshev.proofs.Polynomials.{t_one_second, u_one_second}
use Rattle.spec_chebyshev.proofs.RowLaws.{HoldsIn-u, HoldsIn-q, HoldsIn-r}
use Rattle.spec_ephemeris.specs.Series.{Series, argument_at, cleared_sum, position}
use Rattle.spec_ephemeris.specs.Ephemeris.{IsBodyNumber}
use Rattle.spec_ephemeris.specs.Velocity.{cleared_slope, velocity}
use Rattle.spec_intervals.specs.Enclosure.{change}
use Rattle.spec_motions.specs.Sums.{coefficient, times, slope_row, slope_difference_row, sum_low, sum_high}
use Rattle.spec_motions.specs.Enclosures.{IsSeries, IsSpanOf, arguments, coefficients_of, position_step_over, velocity_over, velocity_step_over, position_step_interval, velocity_interval, velocity_step_interval}
use Rattle.spec_motions.proofs.ClearedSums.{cleared_sum-change, cleared_sum-times}
use Rattle.spec_motions.proofs.HeldSums.{HoldsIn-sum}
use Rattle.spec_motions.proofs.HeldSpans.{IsArgument-at, HoldsIn-at, Holds-units, HoldsIn-denominator}
use Rattle.spec_numbers.proofs.Naturals.{positive_product, positive_multiple}
use Rattle.spec_intervals.proofs.Compare.{Holds-same}
use Rattle.std.proofs.lemmas.List.Elements.{All-drop}

-- ---- rows of multiples
HoldsIn-times : (s k : ℕ) (e : Ival62) (n d l : ℤ) → pos 0 ≤ℤ l → HoldsIn s e n d → HoldsIn s (times k e) (l *ℤ (pos k *ℤ n)) (l *ℤ d)
HoldsIn-times s k e n d l l0 h =
    let m0 : pos 0 ≤ℤ (pos k *ℤ l) = nonneg-mul (pos k) l (omega (arith, ints)) l0 in
    let a = le-mul (e.lo *ℤ d) (n *ℤ pos (2 ^ s)) (pos k *ℤ l) m0 h.low in
    let b = le-mul (n *ℤ pos (2 ^ s)) (e.hi *ℤ d) (pos k *ℤ l) m0 h.high in
    let f : l *ℤ (pos k *ℤ n) *ℤ pos (2 ^ s) ≡ n *ℤ pos (2 ^ s) *ℤ (pos k *ℤ l) = ring (l ∷ pos k ∷ n ∷ pos (2 ^ s) ∷ []) (v 0 ⊗ (v 1 ⊗ v 2) ⊗ v 3) (v 2 ⊗ v 3 ⊗ (v 1 ⊗ v 0)) tt in
    record { low = rw (moved e.lo, f) a; high = rw (moved e.hi, f) b }
  where
    moved : (z : ℤ) → pos k *ℤ z *ℤ (l *ℤ d) ≡ z *ℤ d *ℤ (pos k *ℤ l)
    moved z = ring (pos k ∷ z ∷ l ∷ d ∷ []) (v 0 ⊗ v 1 ⊗ (v 2 ⊗ v 3)) (v 1 ⊗ v 3 ⊗ (v 0 ⊗ v 2)) tt

HoldsIn-nothing : (s : ℕ) (l d : ℤ) → HoldsIn s nothing (l *ℤ pos 0) d
HoldsIn-nothing s l d =
    let e : pos 0 *ℤ d ≡ pos 0 = ring (d ∷ []) (lit (pos 0) ⊗ v 0) (lit (pos 0)) tt in
    let f : l *ℤ pos 0 *ℤ pos (2 ^ s) ≡ pos 0 = ring (l ∷ pos (2 ^ s) ∷ []) (v 0 ⊗ lit (pos 0) ⊗ v 1) (lit (pos 0)) tt in
    record { low = rw (e, f) (omega (arith, lin)); high = rw (e, f) (omega (arith, lin)) }

-- ---- 2 / length times the numbers of an interval
HoldsIn-doubled : (s : ℕ) (e : Ival62) (n d : ℤ) (length : ℕ) → 0 < length → pos 0 ≤ℤ d → HoldsIn s e n d
    → HoldsIn s (ends (floor_div (pos 2 *ℤ e.lo) length) (ceil_div (pos 2 *ℤ e.hi) length)) (pos 2 *ℤ n) (d *ℤ pos length)
HoldsIn-doubled s e n d length l0 d0 h =
    let a = le-mul (floor_div (pos 2 *ℤ e.lo) length *ℤ pos length) (pos 2 *ℤ e.lo) d d0 (floor_div-le (pos 2 *ℤ e.lo) length l0) in
    let b = le-mul (pos 2 *ℤ e.hi) (ceil_div (pos 2 *ℤ e.hi) length *ℤ pos length) d d0 (ceil_div-ge (pos 2 *ℤ e.hi) length l0) in
    let low = h.low in
    let high = h.high in
    let f = moved (floor_div (pos 2 *ℤ e.lo) length) in
    let g = moved (ceil_div (pos 2 *ℤ e.hi) length) in
    let t = twice n (pos (2 ^ s)) in
    let tl = twice e.lo d in
    let th = twice e.hi d in
    record { low = omega (arith, lin); high = omega (arith, lin) }
  where
    moved : (z : ℤ) → z *ℤ (d *ℤ pos length) ≡ z *ℤ pos length *ℤ d
    moved z = ring (z ∷ d ∷ pos length ∷ []) (v 0 ⊗ (v 1 ⊗ v 2)) (v 0 ⊗ v 2 ⊗ v 1) tt

    twice : (z w : ℤ) → pos 2 *ℤ z *ℤ w ≡ z *ℤ w +ℤ z *ℤ w
    twice z w = ring (z ∷ w ∷ []) (lit (pos 2) ⊗ v 0 ⊗ v 1) (v 0 ⊗ v 1 ⊕ v 0 ⊗ v 1) tt

-- ---- lists from the second coefficient on
dropped : (cs : List Decimal) → drop 1 (map coefficient cs) ≡ map coefficient (drop 1 cs)
dropped [] = refl
dropped (c ∷ cs) = refl

counted : (cs : List Decimal) → 1 ≤ length cs → 1 + length (drop 1 cs) ≡ suc (length cs - 1)
counted [] h = absurd (omega (arith, h))
counted (c ∷ cs) h = omega arith

over_once : (l v d : ℤ) → pos 2 *ℤ (l *ℤ v) *ℤ d ≡ pos 2 *ℤ v *ℤ (d *ℤ l)
over_once l v' d = ring (l ∷ v' ∷ d ∷ []) (lit (pos 2) ⊗ (v 0 ⊗ v 1) ⊗ v 2) (lit (pos 2) ⊗ v 1 ⊗ (v 2 ⊗ v 0)) tt

changed_once : (l c d n : ℤ) → pos 2 *ℤ (l *ℤ c) *ℤ (d *ℤ d) ≡ ((n +ℤ pos 2 *ℤ c) *ℤ d -ℤ n *ℤ d) *ℤ (d *ℤ l)
changed_once l c d n = ring (l ∷ c ∷ d ∷ n ∷ []) (lit (pos 2) ⊗ (v 0 ⊗ v 1) ⊗ (v 2 ⊗ v 2)) (((v 3 ⊕ lit (pos 2) ⊗ v 1) ⊗ v 2 ⊖ v 3 ⊗ v 2) ⊗ (v 2 ⊗ v 0)) tt

changed_twice : (l c d n : ℤ) → pos 2 *ℤ (pos 2 *ℤ (l *ℤ (l *ℤ c))) *ℤ (d *ℤ d) ≡ (pos 2 *ℤ (n +ℤ pos 2 *ℤ c) *ℤ d -ℤ pos 2 *ℤ n *ℤ d) *ℤ (d *ℤ l *ℤ l)
changed_twice l c d n = ring (l ∷ c ∷ d ∷ n ∷ []) (lit (pos 2) ⊗ (lit (pos 2) ⊗ (v 0 ⊗ (v 0 ⊗ v 1))) ⊗ (v 2 ⊗ v 2)) ((lit (pos 2) ⊗ (v 3 ⊕ lit (pos 2) ⊗ v 1) ⊗ v 2 ⊖ lit (pos 2) ⊗ v 3 ⊗ v 2) ⊗ (v 2 ⊗ v 0 ⊗ v 0)) tt

module _ (s : Series) (a b : ℤ) (is : IsSeries s) (span : IsSpanOf s a b) where
  abbrev x : Ival62
  x = arguments s a b

  abbrev l : ℤ
  l = pos s.duration

  abbrev u : ℤ → ℤ
  u t = argument_at s t

  abbrev last : ℕ
  last = length s.coefficients - 1

  abbrev den : ℕ
  den = 10 ^ 140 * s.duration ^ last

  abbrev later : List Decimal
  later = drop 1 s.coefficients

  l0 : pos 0 ≤ℤ l
  l0 = omega (arith, ints)

  den0 : 0 < den
  den0 = positive_multiple (10 ^ 140) s.duration last (omega arith) is.long

  all_count : 0 + length s.coefficients ≡ suc last
  all_count = let p = is.some in omega (arith, p)

  later_bodies : All IsBodyNumber later
  later_bodies = All-drop IsBodyNumber 1 s.coefficients is.bodies

  next_time : (t : ℤ) → argument_at s (t +ℤ pos 1) ≡ argument_at s t +ℤ pos 2
  next_time t = omega (arith, ints)

  -- ---- the velocity
  slopes_held : (t : ℤ) → a ≤ℤ t → t ≤ℤ b → (k : ℕ) → HoldsIn 50 (slope_row x k) (l *ℤ cleared_slope (u t) l k) (power l k)
  slopes_held t from to zero = HoldsIn-nothing 50 l (pos 1)
  slopes_held t from to (suc k) =
      HoldsIn-times 50 (suc k) (u_row x k) (cleared_u (u t) l k) (power l k) l l0 (HoldsIn-u x (u t) l (IsArgument-at s a b t is span from to) (HoldsIn-at s a b t is span from to) k)

  pub Holds-velocity : (t : ℤ) → a ≤ℤ t → t ≤ℤ b → Holds (velocity_interval s a b) (velocity s t)
  unfolding velocity_over
  Holds-velocity t from to =
      let sum = cleared_sum (λ j. l *ℤ cleared_slope (u t) l j) l 1 later in
      let exact = cleared_sum (cleared_slope (u t) l) l 1 later in
      let held = HoldsIn-denominator 74 (ends (sum_low (slope_row x) 1 (map coefficient later)) (sum_high (slope_row x) 1 (map coefficient later))) sum s.duration last
      (HoldsIn-sum 50 (slope_row x) (λ j. l *ℤ cleared_slope (u t) l j) l l0 (slopes_held t from to) later 1 last (counted s.coefficients is.some) later_bodies) in
      let scaled = Holds-scale (sum_low (slope_row x) 1 (map coefficient later)) (sum_high (slope_row x) 1 (map coefficient later)) (negsuc 73) s.duration (fraction sum den) is.long
      (Holds-units 73 (ends (sum_low (slope_row x) 1 (map coefficient later)) (sum_high (slope_row x) 1 (map coefficient later))) sum den held) in
      let e : pos 2 *ℤ sum *ℤ pos den ≡ pos 2 *ℤ exact *ℤ pos (den * s.duration) = ap (λ (z : ℤ). pos 2 *ℤ z *ℤ pos den) (cleared_sum-times (cleared_slope (u t) l) l l 1 later) ∙ over_once l exact (pos den) in
      rw (dropped s.coefficients) (Holds-same (scale (sum_low (slope_row x) 1 (map coefficient later)) (sum_high (slope_row x) 1 (map coefficient later)) (negsuc 73) s.duration) (fraction (pos 2 *ℤ sum) (den * s.duration)) (velocity s t) (positive_product den s.duration den0 is.long) e scaled)

  -- ---- the changes, from a time to the next
  module _ (t : ℤ) (from : a ≤ℤ t) (to : t <ℤ b) where
    here : t ≤ℤ b
    here = omega (arith, lin)

    IsArgument-here : IsArgument (u t) l
    IsArgument-here = IsArgument-at s a b t is span from here

    HoldsIn-here : HoldsIn 60 x (u t) l
    HoldsIn-here = HoldsIn-at s a b t is span from here

    IsArgument-next : IsArgument (u t +ℤ pos 2) l
    IsArgument-next = subst (λ (z : ℤ). IsArgument z l) (next_time t) (IsArgument-at s a b (t +ℤ pos 1) is span (omega (arith, lin)) (omega (arith, lin)))

    HoldsIn-next : HoldsIn 60 x (u t +ℤ pos 2) l
    HoldsIn-next = subst (λ (z : ℤ). HoldsIn 60 x z l) (next_time t) (HoldsIn-at s a b (t +ℤ pos 1) is span (omega (arith, lin)) (omega (arith, lin)))

    is_wide : lt_z a b ≡ true
    is_wide = wide (lt_z a b) refl
      where
        wide : (c : Bool) → lt_z a b ≡ c → c ≡ true
        wide true e = refl
        wide false e = absurd (omega (arith, lin))

    abbrev changed_t : ℕ → ℤ
    changed_t k = difference_t (u t +ℤ pos 2) (u t) l k

    position_changes : (position s (t +ℤ pos 1)).numerator ≡ (position s t).numerator +ℤ pos 2 *ℤ cleared_sum changed_t l 0 s.coefficients
    position_changes =
        ap (λ (z : ℤ). cleared_sum (cleared_t z l) l 0 s.coefficients) (next_time t)
        ∙ cleared_sum-change (cleared_t (u t) l) (cleared_t (u t +ℤ pos 2) l) changed_t l (t_one_second (u t) l) 0 s.coefficients

    Holds-step_over : Holds (position_step_over (coefficients_of s) x s.duration) (change (position s) t)
    unfolding position_step_over
    Holds-step_over =
        let cs = coefficients_of s in
        let sum = cleared_sum (λ j. l *ℤ changed_t j) l 0 s.coefficients in
        let exact = cleared_sum changed_t l 0 s.coefficients in
        let held = HoldsIn-denominator 70 (ends (sum_low (q_row x) 0 cs) (sum_high (q_row x) 0 cs)) sum s.duration last
        (HoldsIn-sum 46 (q_row x) (λ j. l *ℤ changed_t j) l l0 (HoldsIn-q x (u t +ℤ pos 2) (u t) l IsArgument-next IsArgument-here HoldsIn-next HoldsIn-here) s.coefficients 0 last all_count is.bodies) in
        let scaled = Holds-scale (sum_low (q_row x) 0 cs) (sum_high (q_row x) 0 cs) (negsuc 69) s.duration (fraction sum den) is.long
        (Holds-units 69 (ends (sum_low (q_row x) 0 cs) (sum_high (q_row x) 0 cs)) sum den held) in
        let n = (position s t).numerator in
        let e : pos 2 *ℤ sum *ℤ pos (den * den) ≡ ((position s (t +ℤ pos 1)).numerator *ℤ pos den -ℤ n *ℤ pos den) *ℤ pos (den * s.duration) =
        ap (λ (z : ℤ). pos 2 *ℤ z *ℤ pos (den * den)) (cleared_sum-times changed_t l l 0 s.coefficients)
        ∙ (changed_once l exact (pos den) n
        ∙ ap (λ (z : ℤ). (z *ℤ pos den -ℤ n *ℤ pos den) *ℤ pos (den * s.duration)) (sym position_changes)) in
        Holds-same (scale (sum_low (q_row x) 0 cs) (sum_high (q_row x) 0 cs) (negsuc 69) s.duration) (fraction (pos 2 *ℤ sum) (den * s.duration)) (change (position s) t) (positive_product den s.duration den0 is.long) e scaled

    pub Holds-position_step : Holds (position_step_interval s a b) (change (position s) t)
    Holds-position_step = rw is_wide Holds-step_over

    -- ---- the change of the velocity
    abbrev changed_slope : ℕ → ℤ
    changed_slope zero = pos 0
    changed_slope (suc k) = pos (suc k) *ℤ difference_u (u t +ℤ pos 2) (u t) l k

    slope_changes : (k : ℕ) → cleared_slope (u t +ℤ pos 2) l k ≡ cleared_slope (u t) l k +ℤ pos 2 *ℤ changed_slope k
    slope_changes zero = refl
    slope_changes (suc k) =
        ap (λ (z : ℤ). pos (suc k) *ℤ z) (u_one_second (u t) l k)
        ∙ ring (pos (suc k) ∷ cleared_u (u t) l k ∷ difference_u (u t +ℤ pos 2) (u t) l k ∷ []) (v 0 ⊗ (v 1 ⊕ lit (pos 2) ⊗ v 2)) (v 0 ⊗ v 1 ⊕ lit (pos 2) ⊗ (v 0 ⊗ v 2)) tt

    swapped : (k : ℕ) → l *ℤ (pos (suc k) *ℤ (l *ℤ difference_u (u t +ℤ pos 2) (u t) l k)) ≡ l *ℤ (l *ℤ (pos (suc k) *ℤ difference_u (u t +ℤ pos 2) (u t) l k))
    swapped k = ring (l ∷ pos (suc k) ∷ difference_u (u t +ℤ pos 2) (u t) l k ∷ []) (v 0 ⊗ (v 1 ⊗ (v 0 ⊗ v 2))) (v 0 ⊗ (v 0 ⊗ (v 1 ⊗ v 2))) tt

    slope_differences_held : (k : ℕ) → HoldsIn 44 (slope_difference_row x k) (l *ℤ (l *ℤ changed_slope k)) (power l k)
    slope_differences_held zero = subst (λ (z : ℤ). HoldsIn 44 nothing z (pos 1)) (ring (l ∷ []) (v 0 ⊗ lit (pos 0)) (v 0 ⊗ (v 0 ⊗ lit (pos 0))) tt) (HoldsIn-nothing 44 l (pos 1))
    slope_differences_held (suc k) =
        subst (λ (z : ℤ). HoldsIn 44 (slope_difference_row x (suc k)) z (power l (suc k))) (swapped k)
        (HoldsIn-times 44 (suc k) (r_row x k) (l *ℤ difference_u (u t +ℤ pos 2) (u t) l k) (power l k) l l0 (HoldsIn-r x (u t +ℤ pos 2) (u t) l IsArgument-next IsArgument-here HoldsIn-next HoldsIn-here k))

    slopes_change : cleared_sum (cleared_slope (u (t +ℤ pos 1)) l) l 1 later ≡ cleared_sum (cleared_slope (u t) l) l 1 later +ℤ pos 2 *ℤ cleared_sum changed_slope l 1 later
    slopes_change =
        ap (λ (z : ℤ). cleared_sum (cleared_slope z l) l 1 later) (next_time t)
        ∙ cleared_sum-change (cleared_slope (u t) l) (cleared_slope (u t +ℤ pos 2) l) changed_slope l slope_changes 1 later

    Holds-velocity_step_over : Holds (velocity_step_over (coefficients_of s) x s.duration) (change (velocity s) t)
    unfolding velocity_step_over
    Holds-velocity_step_over =
        let cs = map coefficient later in
        let low = sum_low (slope_difference_row x) 1 cs in
        let high = sum_high (slope_difference_row x) 1 cs in
        let sum = cleared_sum (λ j. l *ℤ (l *ℤ changed_slope j)) l 1 later in
        let exact = cleared_sum changed_slope l 1 later in
        let held = HoldsIn-denominator 68 (ends low high) sum s.duration last
        (HoldsIn-sum 44 (slope_difference_row x) (λ j. l *ℤ (l *ℤ changed_slope j)) l l0 slope_differences_held later 1 last (counted s.coefficients is.some) later_bodies) in
        let once = HoldsIn-doubled 68 (ends low high) sum (pos den) s.duration is.long (omega (arith, ints)) held in
        let twice = Holds-scale (floor_div (pos 2 *ℤ low) s.duration) (ceil_div (pos 2 *ℤ high) s.duration) (negsuc 67) s.duration (fraction (pos 2 *ℤ sum) (den * s.duration)) is.long
        (Holds-units 67 (ends (floor_div (pos 2 *ℤ low) s.duration) (ceil_div (pos 2 *ℤ high) s.duration)) (pos 2 *ℤ sum) (den * s.duration) once) in
        let n = cleared_sum (cleared_slope (u t) l) l 1 later in
        let f : sum ≡ l *ℤ (l *ℤ exact) = cleared_sum-times (λ j. l *ℤ changed_slope j) l l 1 later ∙ ap (λ (z : ℤ). l *ℤ z) (cleared_sum-times changed_slope l l 1 later) in
        let e : pos 2 *ℤ (pos 2 *ℤ sum) *ℤ pos (den * den) ≡ (pos 2 *ℤ cleared_sum (cleared_slope (u (t +ℤ pos 1)) l) l 1 later *ℤ pos den -ℤ pos 2 *ℤ n *ℤ pos den) *ℤ pos (den * s.duration * s.duration) =
        ap (λ (z : ℤ). pos 2 *ℤ (pos 2 *ℤ z) *ℤ pos (den * den)) f
        ∙ (changed_twice l exact (pos den) n
        ∙ ap (λ (z : ℤ). (pos 2 *ℤ z *ℤ pos den -ℤ pos 2 *ℤ n *ℤ pos den) *ℤ pos (den * s.duration * s.duration)) (sym slopes_change)) in
        rw (dropped s.coefficients) (Holds-same (scale (floor_div (pos 2 *ℤ low) s.duration) (ceil_div (pos 2 *ℤ high) s.duration) (negsuc 67) s.duration) (fraction (pos 2 *ℤ (pos 2 *ℤ sum)) (den * s.duration * s.duration)) (change (velocity s) t) (positive_product (den * s.duration) s.duration (positive_product den s.duration den0 is.long) is.long) e twice)

    pub Holds-velocity_step : Holds (velocity_step_interval s a b) (change (velocity s) t)
    Holds-velocity_step = rw is_wide Holds-velocity_step_over
