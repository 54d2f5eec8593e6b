-- The velocity of a coordinate is the derivative of its position.
use Rattle.std.proofs.Common.{◌≡◌, ℕ, ◌*◌, refl, ap, ◌∙◌, [], ◌∷◌, ℤ, pos, ◌+ℤ◌, ◌-ℤ◌, ◌*ℤ◌}
use Rattle.spec_numbers.proofs.Ring.{v, k as lit, ◌⊕◌, ◌⊖◌, ◌⊗◌, ring}
use Rattle.spec_intervals.specs.Fraction.{Fraction, fraction, fraction_add, fraction_sub, fraction_mul}
use Rattle.spec_ephemeris.specs.Series.{Series, position}
use Rattle.spec_ephemeris.specs.Velocity.{velocity}
use Rattle.spec_bodies.specs.declared.factor.Factor.{Factor}
use Rattle.spec_bodies.specs.Coordinates.{Coordinate, nothing, of_column, times, plus, less}
use Rattle.spec_meanings.specs.Derivatives.{Changes, IsRate, placed, moved}
use Rattle.spec_meanings.proofs.Derivatives.{velocity_is_derivative}

series_rate : (s : Series) → IsRate (position s) (velocity s)
series_rate s =
    record { numerators = velocity_is_derivative s; same_denominator = λ t. refl; one_denominator = λ t h. refl }

nothing_rate : IsRate (λ t. fraction (pos 0) 1) (λ t. fraction (pos 0) 1)
nothing_rate =
    record { numerators = λ t h. record { rest = pos 0; is = ring (h ∷ []) (lit (pos 0)) ((lit (pos 0) ⊕ v 0 ⊗ lit (pos 0)) ⊕ (v 0 ⊗ v 0) ⊗ lit (pos 0)) tt }; same_denominator = λ t. refl; one_denominator = λ t h. refl }

times_rate : (f : Fraction) (x w : ℤ → Fraction) → IsRate x w → IsRate (λ t. fraction_mul f (x t)) (λ t. fraction_mul f (w t))
times_rate f x w p = record { numerators = changes; same_denominator = λ t. ap (λ n. f.denominator * n) (p.same_denominator t); one_denominator = λ t h. ap (λ n. f.denominator * n) (p.one_denominator t h) }
  where
    changes : (t h : ℤ) → Changes (λ t. f.numerator *ℤ (x t).numerator) (λ t. f.numerator *ℤ (w t).numerator) t h
    changes t h = by (p.numerators t h)
      where
        by : Changes (λ t. (x t).numerator) (λ t. (w t).numerator) t h → Changes (λ t. f.numerator *ℤ (x t).numerator) (λ t. f.numerator *ℤ (w t).numerator) t h
        by c = record { rest = f.numerator *ℤ c.rest; is = ap (λ z. f.numerator *ℤ z) c.is ∙ ring (f.numerator ∷ (x t).numerator ∷ (w t).numerator ∷ c.rest ∷ h ∷ []) (v 0 ⊗ ((v 1 ⊕ v 4 ⊗ v 2) ⊕ (v 4 ⊗ v 4) ⊗ v 3)) ((v 0 ⊗ v 1 ⊕ v 4 ⊗ (v 0 ⊗ v 2)) ⊕ (v 4 ⊗ v 4) ⊗ (v 0 ⊗ v 3)) tt }

-- numbers of one time t and of t + h: a and b with their changes, over the denominators m and n
sum_step : (a1 b1 a a' b b' r s h : ℤ) (m1 n1 m n m' n' : ℕ) → a1 ≡ (a +ℤ h *ℤ a') +ℤ (h *ℤ h) *ℤ r → b1 ≡ (b +ℤ h *ℤ b') +ℤ (h *ℤ h) *ℤ s → m1 ≡ m → n1 ≡ n → m' ≡ m → n' ≡ n → a1 *ℤ pos n1 +ℤ b1 *ℤ pos m1 ≡ ((a *ℤ pos n +ℤ b *ℤ pos m) +ℤ h *ℤ (a' *ℤ pos n' +ℤ b' *ℤ pos m')) +ℤ (h *ℤ h) *ℤ (r *ℤ pos n +ℤ s *ℤ pos m)
sum_step a1 b1 a a' b b' r s h m1 n1 m n m' n' ea eb em en em' en' =
    rw (ea, eb, em, en, em', en') (ring (a ∷ a' ∷ b ∷ b' ∷ r ∷ s ∷ h ∷ pos m ∷ pos n ∷ []) (((v 0 ⊕ v 6 ⊗ v 1) ⊕ (v 6 ⊗ v 6) ⊗ v 4) ⊗ v 8 ⊕ ((v 2 ⊕ v 6 ⊗ v 3) ⊕ (v 6 ⊗ v 6) ⊗ v 5) ⊗ v 7) (((v 0 ⊗ v 8 ⊕ v 2 ⊗ v 7) ⊕ v 6 ⊗ (v 1 ⊗ v 8 ⊕ v 3 ⊗ v 7)) ⊕ (v 6 ⊗ v 6) ⊗ (v 4 ⊗ v 8 ⊕ v 5 ⊗ v 7)) tt)

difference_step : (a1 b1 a a' b b' r s h : ℤ) (m1 n1 m n m' n' : ℕ) → a1 ≡ (a +ℤ h *ℤ a') +ℤ (h *ℤ h) *ℤ r → b1 ≡ (b +ℤ h *ℤ b') +ℤ (h *ℤ h) *ℤ s → m1 ≡ m → n1 ≡ n → m' ≡ m → n' ≡ n → a1 *ℤ pos n1 -ℤ b1 *ℤ pos m1 ≡ ((a *ℤ pos n -ℤ b *ℤ pos m) +ℤ h *ℤ (a' *ℤ pos n' -ℤ b' *ℤ pos m')) +ℤ (h *ℤ h) *ℤ (r *ℤ pos n -ℤ s *ℤ pos m)
difference_step a1 b1 a a' b b' r s h m1 n1 m n m' n' ea eb em en em' en' =
    rw (ea, eb, em, en, em', en') (ring (a ∷ a' ∷ b ∷ b' ∷ r ∷ s ∷ h ∷ pos m ∷ pos n ∷ []) (((v 0 ⊕ v 6 ⊗ v 1) ⊕ (v 6 ⊗ v 6) ⊗ v 4) ⊗ v 8 ⊖ ((v 2 ⊕ v 6 ⊗ v 3) ⊕ (v 6 ⊗ v 6) ⊗ v 5) ⊗ v 7) (((v 0 ⊗ v 8 ⊖ v 2 ⊗ v 7) ⊕ v 6 ⊗ (v 1 ⊗ v 8 ⊖ v 3 ⊗ v 7)) ⊕ (v 6 ⊗ v 6) ⊗ (v 4 ⊗ v 8 ⊖ v 5 ⊗ v 7)) tt)

both : (m1 m n1 n : ℕ) → m1 ≡ m → n1 ≡ n → m1 * n1 ≡ m * n
both m1 m n1 n e f = ap (λ z. z * n1) e ∙ ap (λ z. m * z) f

module _ (x w y z : ℤ → Fraction) (p : IsRate x w) (q : IsRate y z) where
  sum_rate : IsRate (λ t. fraction_add (x t) (y t)) (λ t. fraction_add (w t) (z t))
  sum_rate = record { numerators = λ t h. by t h (p.numerators t h) (q.numerators t h); same_denominator = λ t. both (w t).denominator (x t).denominator (z t).denominator (y t).denominator (p.same_denominator t) (q.same_denominator t); one_denominator = λ t h. both (x (t +ℤ h)).denominator (x t).denominator (y (t +ℤ h)).denominator (y t).denominator (p.one_denominator t h) (q.one_denominator t h) }
    where
      by : (t h : ℤ) → Changes (λ t. (x t).numerator) (λ t. (w t).numerator) t h → Changes (λ t. (y t).numerator) (λ t. (z t).numerator) t h → Changes (λ t. (fraction_add (x t) (y t)).numerator) (λ t. (fraction_add (w t) (z t)).numerator) t h
      by t h c d = record { rest = c.rest *ℤ pos (y t).denominator +ℤ d.rest *ℤ pos (x t).denominator; is = sum_step (x (t +ℤ h)).numerator (y (t +ℤ h)).numerator (x t).numerator (w t).numerator (y t).numerator (z t).numerator c.rest d.rest h (x (t +ℤ h)).denominator (y (t +ℤ h)).denominator (x t).denominator (y t).denominator (w t).denominator (z t).denominator c.is d.is (p.one_denominator t h) (q.one_denominator t h) (p.same_denominator t) (q.same_denominator t) }

  difference_rate : IsRate (λ t. fraction_sub (x t) (y t)) (λ t. fraction_sub (w t) (z t))
  difference_rate = record { numerators = λ t h. by t h (p.numerators t h) (q.numerators t h); same_denominator = λ t. both (w t).denominator (x t).denominator (z t).denominator (y t).denominator (p.same_denominator t) (q.same_denominator t); one_denominator = λ t h. both (x (t +ℤ h)).denominator (x t).denominator (y (t +ℤ h)).denominator (y t).denominator (p.one_denominator t h) (q.one_denominator t h) }
    where
      by : (t h : ℤ) → Changes (λ t. (x t).numerator) (λ t. (w t).numerator) t h → Changes (λ t. (y t).numerator) (λ t. (z t).numerator) t h → Changes (λ t. (fraction_sub (x t) (y t)).numerator) (λ t. (fraction_sub (w t) (z t)).numerator) t h
      by t h c d = record { rest = c.rest *ℤ pos (y t).denominator -ℤ d.rest *ℤ pos (x t).denominator; is = difference_step (x (t +ℤ h)).numerator (y (t +ℤ h)).numerator (x t).numerator (w t).numerator (y t).numerator (z t).numerator c.rest d.rest h (x (t +ℤ h)).denominator (y (t +ℤ h)).denominator (x t).denominator (y t).denominator (w t).denominator (z t).denominator c.is d.is (p.one_denominator t h) (q.one_denominator t h) (p.same_denominator t) (q.same_denominator t) }

pub coordinate_rate : (series : ℕ → ℕ → Series) (factors : Factor → Fraction) (c : Coordinate) → IsRate (placed series factors c) (moved series factors c)
coordinate_rate series factors nothing = nothing_rate
coordinate_rate series factors (of_column number axis) = series_rate (series number axis)
coordinate_rate series factors (times f x) = times_rate (factors f) (placed series factors x) (moved series factors x) (coordinate_rate series factors x)
coordinate_rate series factors (plus x y) = sum_rate (placed series factors x) (moved series factors x) (placed series factors y) (moved series factors y) (coordinate_rate series factors x) (coordinate_rate series factors y)
coordinate_rate series factors (less x y) = difference_rate (placed series factors x) (moved series factors x) (placed series factors y) (moved series factors y) (coordinate_rate series factors x) (coordinate_rate series factors y)
