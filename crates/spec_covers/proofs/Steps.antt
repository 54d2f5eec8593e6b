-- A step of a row at one time: its ends are 2 x e less the entry before, rounded outward, and those that are cut lie between.
use Rattle.std.proofs.Common.{◌≡◌, ℕ, ◌*◌, ◌^◌, ◌<◌, arith, subst, [], ◌∷◌, ℤ, pos, ◌+ℤ◌, ◌-ℤ◌, ◌*ℤ◌, neg_ℤ, ◌≤ℤ◌, inl, inr, ◌⊎◌}
use Rattle.std.specs.Int.{int_min, int_max}
use Rattle.std.proofs.lemmas.Int.{ints, clamps}
use Rattle.std.proofs.lemmas.Nat.{pow_pos}
use Rattle.spec_numbers.specs.Numbers.{floor_div, ceil_div}
use Rattle.spec_numbers.proofs.Ring.{v, k as lit, ◌⊕◌, ◌⊖◌, ◌⊗◌, ring}
use Rattle.spec_numbers.proofs.Order.{lin, le-mul, natural}
use Rattle.spec_numbers.proofs.Floor.{floor_div-le, floor_div-lt, ceil_div-ge, ceil_div-lt}
use Rattle.spec_intervals.specs.Fraction.{Fraction, fraction, fraction_sub, fraction_mul}
use Rattle.spec_intervals.specs.Interval.{least4, greatest4}
use Rattle.spec_chebyshev.specs.declared.ends.Ival62.{Ival62}
use Rattle.spec_chebyshev.specs.Differences.{IsArgument}
use Rattle.spec_chebyshev.specs.Rows.{nothing, next}
use Rattle.spec_models.specs.Ends.{NoMore, Under, Over}
use Rattle.spec_models.specs.Models.{Model, IsNear, widened}
use Rattle.spec_covers.specs.Combining.{MultipliesTo, SubtractsTo, IsUpto}
use Rattle.spec_models.proofs.Between.{near-under, near-over, near-between}

-- ---- the least of four products of ends is one of them, and so is the greatest
lesser : (P : ℤ → Type 0) (a b : ℤ) → P a → P b → P (int_min a b)
lesser P a b pa pb = by (which a b)
  where
    which : (a b : ℤ) → (a ≡ int_min a b) ⊎ (b ≡ int_min a b)
    which a b = grind (arith, ints, clamps)

    by : (a ≡ int_min a b) ⊎ (b ≡ int_min a b) → P (int_min a b)
    by (inl e) = subst P e pa
    by (inr e) = subst P e pb

greater : (P : ℤ → Type 0) (a b : ℤ) → P a → P b → P (int_max a b)
greater P a b pa pb = by (which a b)
  where
    which : (a b : ℤ) → (a ≡ int_max a b) ⊎ (b ≡ int_max a b)
    which a b = grind (arith, ints, clamps)

    by : (a ≡ int_max a b) ⊎ (b ≡ int_max a b) → P (int_max a b)
    by (inl e) = subst P e pa
    by (inr e) = subst P e pb

module _ (P : ℤ → Type 0) (a b c d : ℤ) (ac : P (a *ℤ c)) (ad : P (a *ℤ d)) (bc : P (b *ℤ c)) (bd : P (b *ℤ d)) where
  pub at_least4 : P (least4 a b c d)
  at_least4 = lesser P _ _ (lesser P _ _ ac ad) (lesser P _ _ bc bd)

  pub at_greatest4 : P (greatest4 a b c d)
  at_greatest4 = greater P _ _ (greater P _ _ ac ad) (greater P _ _ bc bd)

-- ---- x e - b, in units of 1 / n where x is in units of 1 / k, and f is x e / k rounded
abbrev pub units : ℤ → ℕ → Fraction
units z n = fraction (z *ℤ pos 1) n

module _ (x e b f : ℤ) (k n : ℕ) where
  abbrev exact : Fraction
  exact = fraction_sub (fraction_mul (units x k) (units e n)) (units b n)

  rounded_below : (f *ℤ pos k) ≤ℤ (x *ℤ e) → (x *ℤ e) ≤ℤ (f *ℤ pos k +ℤ pos k) → Under (units (pos 1) n) (units (f -ℤ b) n) exact
  rounded_below h g =
      let first = le-mul (f *ℤ pos k) (x *ℤ e) (pos (n * n)) (natural (n * n)) h in
      let second = le-mul (x *ℤ e) (f *ℤ pos k +ℤ pos k) (pos (n * n * n)) (natural (n * n * n)) g in
      let r1 = ring (x ∷ e ∷ b ∷ pos k ∷ pos n ∷ [])
      (((v 0 ⊗ lit (pos 1) ⊗ (v 1 ⊗ lit (pos 1)) ⊗ v 4 ⊖ v 2 ⊗ lit (pos 1) ⊗ (v 3 ⊗ v 4)) ⊗ v 4 ⊖ lit (pos 1) ⊗ lit (pos 1) ⊗ (v 3 ⊗ v 4 ⊗ v 4)) ⊗ v 4)
      (v 0 ⊗ v 1 ⊗ (v 4 ⊗ v 4 ⊗ v 4) ⊖ v 2 ⊗ v 3 ⊗ (v 4 ⊗ v 4 ⊗ v 4) ⊖ v 3 ⊗ (v 4 ⊗ v 4 ⊗ v 4)) tt in
      let r2 = ring (f ∷ b ∷ pos k ∷ pos n ∷ [])
      ((v 0 ⊖ v 1) ⊗ lit (pos 1) ⊗ (v 2 ⊗ v 3 ⊗ v 3 ⊗ v 3))
      ((v 0 ⊗ v 2 ⊕ v 2) ⊗ (v 3 ⊗ v 3 ⊗ v 3) ⊖ v 1 ⊗ v 2 ⊗ (v 3 ⊗ v 3 ⊗ v 3) ⊖ v 2 ⊗ (v 3 ⊗ v 3 ⊗ v 3)) tt in
      let r3 = ring (f ∷ b ∷ pos k ∷ pos n ∷ []) ((v 0 ⊖ v 1) ⊗ lit (pos 1) ⊗ (v 2 ⊗ v 3 ⊗ v 3)) (v 0 ⊗ v 2 ⊗ (v 3 ⊗ v 3) ⊖ v 1 ⊗ v 2 ⊗ (v 3 ⊗ v 3)) tt in
      let r4 = ring (x ∷ e ∷ b ∷ pos k ∷ pos n ∷ []) ((v 0 ⊗ lit (pos 1) ⊗ (v 1 ⊗ lit (pos 1)) ⊗ v 4 ⊖ v 2 ⊗ lit (pos 1) ⊗ (v 3 ⊗ v 4)) ⊗ v 4) (v 0 ⊗ v 1 ⊗ (v 4 ⊗ v 4) ⊖ v 2 ⊗ v 3 ⊗ (v 4 ⊗ v 4)) tt in
      record { near = omega (arith, lin); below = omega (arith, lin) }

  rounded_above : (x *ℤ e) ≤ℤ (f *ℤ pos k) → (f *ℤ pos k) ≤ℤ (x *ℤ e +ℤ pos k) → Over (units (pos 1) n) (units (f -ℤ b) n) exact
  rounded_above h g =
      let first = le-mul (x *ℤ e) (f *ℤ pos k) (pos (n * n)) (natural (n * n)) h in
      let second = le-mul (f *ℤ pos k) (x *ℤ e +ℤ pos k) (pos (n * n * n)) (natural (n * n * n)) g in
      let r1 = ring (x ∷ e ∷ b ∷ pos k ∷ pos n ∷ [])
      (((v 0 ⊗ lit (pos 1) ⊗ (v 1 ⊗ lit (pos 1)) ⊗ v 4 ⊖ v 2 ⊗ lit (pos 1) ⊗ (v 3 ⊗ v 4)) ⊗ v 4 ⊕ lit (pos 1) ⊗ lit (pos 1) ⊗ (v 3 ⊗ v 4 ⊗ v 4)) ⊗ v 4)
      ((v 0 ⊗ v 1 ⊕ v 3) ⊗ (v 4 ⊗ v 4 ⊗ v 4) ⊖ v 2 ⊗ v 3 ⊗ (v 4 ⊗ v 4 ⊗ v 4)) tt in
      let r2 = ring (f ∷ b ∷ pos k ∷ pos n ∷ [])
      ((v 0 ⊖ v 1) ⊗ lit (pos 1) ⊗ (v 2 ⊗ v 3 ⊗ v 3 ⊗ v 3))
      (v 0 ⊗ v 2 ⊗ (v 3 ⊗ v 3 ⊗ v 3) ⊖ v 1 ⊗ v 2 ⊗ (v 3 ⊗ v 3 ⊗ v 3)) tt in
      let r3 = ring (f ∷ b ∷ pos k ∷ pos n ∷ []) ((v 0 ⊖ v 1) ⊗ lit (pos 1) ⊗ (v 2 ⊗ v 3 ⊗ v 3)) (v 0 ⊗ v 2 ⊗ (v 3 ⊗ v 3) ⊖ v 1 ⊗ v 2 ⊗ (v 3 ⊗ v 3)) tt in
      let r4 = ring (x ∷ e ∷ b ∷ pos k ∷ pos n ∷ []) ((v 0 ⊗ lit (pos 1) ⊗ (v 1 ⊗ lit (pos 1)) ⊗ v 4 ⊖ v 2 ⊗ lit (pos 1) ⊗ (v 3 ⊗ v 4)) ⊗ v 4) (v 0 ⊗ v 1 ⊗ (v 4 ⊗ v 4) ⊖ v 2 ⊗ v 3 ⊗ (v 4 ⊗ v 4)) tt in
      record { above = omega (arith, lin); near = omega (arith, lin) }

-- ---- a step: x is covered by m, the entry e by a and the entry before by b
abbrev half : ℕ
half = 2 ^ 59

module _ (d : ℕ) (p q : ℤ) (is : IsArgument p q) (m a w b k : Model) (multiplies : MultipliesTo m a w) (subtracts : SubtractsTo w b k)
    (n : ℕ) (positive : 0 < n) (upto : IsUpto d k (units (pos 1) n)) where
  module _ (x e y f : ℤ) (near_x : IsNear m p q (units x half)) (near_e : IsNear a p q (units e n)) (near_y : IsNear b p q (units y n)) where
    near_exact : IsNear k p q (exact x e y f half n)
    near_exact = subtracts p q (fraction_mul (units x half) (units e n)) (units y n) is (multiplies p q (units x half) (units e n) is near_x near_e) near_y

    step_down : (f *ℤ pos half) ≤ℤ (x *ℤ e) → (x *ℤ e) ≤ℤ (f *ℤ pos half +ℤ pos half) → IsNear (widened d k) p q (units (f -ℤ y) n)
    step_down h g = near-under k p q d (exact x e y f half n) (units (f -ℤ y) n) (units (pos 1) n) is positive positive upto (rounded_below x e y f half n h g) near_exact

    step_up : (x *ℤ e) ≤ℤ (f *ℤ pos half) → (f *ℤ pos half) ≤ℤ (x *ℤ e +ℤ pos half) → IsNear (widened d k) p q (units (f -ℤ y) n)
    step_up h g = near-over k p q d (exact x e y f half n) (units (f -ℤ y) n) (units (pos 1) n) is positive positive upto (rounded_above x e y f half n h g) near_exact

  module _ (limit : ℕ) (x e y : Ival62) (x_lo : IsNear m p q (units x.lo half)) (x_hi : IsNear m p q (units x.hi half))
      (e_lo : IsNear a p q (units e.lo n)) (e_hi : IsNear a p q (units e.hi n))
      (y_lo : IsNear b p q (units y.lo n)) (y_hi : IsNear b p q (units y.hi n)) where
    abbrev least : ℤ
    least = least4 x.lo x.hi e.lo e.hi

    abbrev most : ℤ
    most = greatest4 x.lo x.hi e.lo e.hi

    abbrev IsDown : ℤ → Type 0
    IsDown z = (f : ℤ) → (f *ℤ pos half) ≤ℤ z → z ≤ℤ (f *ℤ pos half +ℤ pos half) → IsNear (widened d k) p q (units (f -ℤ y.hi) n)

    abbrev IsUp : ℤ → Type 0
    IsUp z = (f : ℤ) → z ≤ℤ (f *ℤ pos half) → (f *ℤ pos half) ≤ℤ (z +ℤ pos half) → IsNear (widened d k) p q (units (f -ℤ y.lo) n)

    low_side : IsDown least
    low_side =
        at_least4 IsDown x.lo x.hi e.lo e.hi
        (λ f. step_down x.lo e.lo y.hi f x_lo e_lo y_hi) (λ f. step_down x.lo e.hi y.hi f x_lo e_hi y_hi)
        (λ f. step_down x.hi e.lo y.hi f x_hi e_lo y_hi) (λ f. step_down x.hi e.hi y.hi f x_hi e_hi y_hi)

    high_side : IsUp most
    high_side =
        at_greatest4 IsUp x.lo x.hi e.lo e.hi
        (λ f. step_up x.lo e.lo y.lo f x_lo e_lo y_lo) (λ f. step_up x.lo e.hi y.lo f x_lo e_hi y_lo)
        (λ f. step_up x.hi e.lo y.lo f x_hi e_lo y_lo) (λ f. step_up x.hi e.hi y.lo f x_hi e_hi y_lo)

    -- before they are cut to the limit
    abbrev uncut_low : ℤ
    uncut_low = floor_div least half +ℤ pos 0 -ℤ y.hi

    abbrev uncut_high : ℤ
    uncut_high = ceil_div most half +ℤ pos 0 -ℤ y.lo

    near_uncut_low : IsNear (widened d k) p q (units uncut_low n)
    near_uncut_low =
        let below = floor_div-le least half (pow_pos 59) in
        let above = floor_div-lt least half (pow_pos 59) in
        let e : floor_div least half ≡ floor_div least half +ℤ pos 0 = omega (arith, lin) in
        subst (λ z. IsNear (widened d k) p q (units (z -ℤ y.hi) n)) e (low_side (floor_div least half) below (omega (arith, lin)))

    near_uncut_high : IsNear (widened d k) p q (units uncut_high n)
    near_uncut_high =
        let below = ceil_div-ge most half (pow_pos 59) in
        let above = ceil_div-lt most half (pow_pos 59) in
        let e : ceil_div most half ≡ ceil_div most half +ℤ pos 0 = omega (arith, lin) in
        subst (λ z. IsNear (widened d k) p q (units (z -ℤ y.lo) n)) e (high_side (ceil_div most half) below (omega (arith, lin)))

    in_order : (z t : ℤ) → z ≤ℤ t → NoMore (units z n) (units t n)
    in_order z t h = le-mul (z *ℤ pos 1) (t *ℤ pos 1) (pos n) (natural n) (le-mul z t (pos 1) (omega (arith, lin)) h)

    -- what is cut lies between the two
    near_cut : (z : ℤ) → uncut_low ≤ℤ z → z ≤ℤ uncut_high → IsNear (widened d k) p q (units z n)
    near_cut z h g =
        near-between (widened d k) p q (units uncut_low n) (units z n) (units uncut_high n) positive (in_order uncut_low z h) (in_order z uncut_high g) near_uncut_low near_uncut_high

    pub near_next : (next limit x e nothing y).lo ≤ℤ (next limit x e nothing y).hi
        → IsNear (widened d k) p q (units (next limit x e nothing y).lo n) × IsNear (widened d k) p q (units (next limit x e nothing y).hi n)
    unfolding next
    near_next ordered = (
      near_cut _ (less_max uncut_low (neg_ℤ (pos limit))) (upper uncut_high (pos limit) _ ordered),
      near_cut _ (lower uncut_low (neg_ℤ (pos limit)) _ ordered) (min_less uncut_high (pos limit)),
    )
      where
        less_max : (z t : ℤ) → z ≤ℤ int_max z t
        less_max z t = omega (arith, ints, clamps)

        min_less : (z t : ℤ) → int_min z t ≤ℤ z
        min_less z t = omega (arith, ints, clamps)

        upper : (z t r : ℤ) → r ≤ℤ int_min z t → r ≤ℤ z
        upper z t r h = omega (arith, ints, clamps)

        lower : (z t r : ℤ) → int_max z t ≤ℤ r → z ≤ℤ r
        lower z t r h = omega (arith, ints, clamps)
