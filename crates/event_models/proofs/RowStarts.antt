-- The first entries of the rows of T and U are covered.
use Rattle.std.proofs.Common.{◌≡◌, ◌∙◌, ℕ, zero, suc, ◌-◌, ◌*◌, ◌^◌, ◌≤◌, ◌/◌, ◌+◌, arith, refl, sym, [], ◌∷◌, replicate, ℤ, pos, neg_ℤ, ◌-ℤ◌}
use Rattle.std.proofs.lemmas.Int.{ints}
use Rattle.spec_numbers.specs.Numbers.{floor_div}
use Rattle.spec_intervals.specs.Interval.{Interval}
use Rattle.spec_chebyshev.specs.declared.ends.Ival62.{Ival62}
use Rattle.spec_chebyshev.specs.Differences.{IsArgument, Within}
use Rattle.spec_chebyshev.specs.Rows.{EndsWithin, IsArguments, t_row, t_unit, u_row, u_unit}
use Rattle.spec_chebyshev.proofs.RowEnds.{EndsWithin-t, EndsWithin-u}
use Rattle.spec_covers.proofs.Units.{Covers-constant}
use Rattle.spec_models.specs.Models.{Covers, Model, coefficient, constant, raised, widened}
use Rattle.spec_models.proofs.Made.{near-raised}
use Rattle.spec_models.proofs.Coefficients.{coefficient-zeros}
use Rattle.spec_covers.specs.Series.{of_entry}
use Rattle.spec_covers.proofs.Enough.{upto_units}
use Rattle.spec_covers.proofs.Rows.{Covers-t_first, Covers-t_second, Covers-u_first, Covers-u_second}
use Rattle.event_models.specs.declared.rows.RowModel.{RowModel}
use Rattle.event_models.specs.declared.rows.Line.{Line}
use Rattle.event_models.specs.declared.rows.Kind.{Kind}
use Rattle.event_models.specs.declared.rows.Kind.TheVariants.{First, Second}
use Rattle.event_models.specs.Rows.{IsAt, IsSecond, greatest, of_line, of_row, terms, unit}
use Rattle.event_models.proofs.Like.{covers_like}

two_same : (x y : ℤ) (k : ℕ) → coefficient (x ∷ y ∷ []) k ≡ coefficient (x ∷ y ∷ replicate (terms - 2) (pos 0)) k
two_same x y zero = refl
two_same x y (suc zero) = refl
two_same x y (suc (suc k)) = sym (coefficient-zeros (terms - 2) k)

one_same : (x : ℤ) (k : ℕ) → coefficient (x ∷ []) k ≡ coefficient (x ∷ pos 0 ∷ replicate (terms - 2) (pos 0)) k
one_same x zero = refl
one_same x (suc zero) = refl
one_same x (suc (suc k)) = sym (coefficient-zeros (terms - 2) k)

module _ (p q : ℤ) (is : IsArgument p q) where
  covers_raised : (n : ℕ) (m : Model) (x : Interval) → Covers m p q x → Covers (raised n m) p q x
  covers_raised n m x covers = record { low = near-raised p q is n m _ covers.low; high = near-raised p q is n m _ covers.high }

pub first_made : (made : RowModel) → made.coefficients ≡ pos (2 ^ 42) ∷ pos 0 ∷ replicate (terms - 2) (pos 0) → made.error ≡ 2 → (kind : Kind) (p q : ℤ) (x : Ival62) → IsArgument p q → IsAt kind made p q x 0
first_made made numbers error First p q x is =
    covers_like p q is (raised 18 (constant (pos (2 ^ 60)) 0 (neg_ℤ (pos 60)))) made.coefficients made.error (neg_ℤ (pos unit))
    (λ k. one_same (pos (2 ^ 42)) k ∙ λ i. coefficient (sym numbers i) k) (omega (arith, error)) refl _
    (covers_raised p q is 18 _ _ (Covers-t_first p q is x))
first_made made numbers error Second p q x is =
    covers_like p q is (raised 8 (constant (pos (2 ^ 50)) 0 (neg_ℤ (pos 50)))) made.coefficients made.error (neg_ℤ (pos unit))
    (λ k. one_same (pos (2 ^ 42)) k ∙ λ i. coefficient (sym numbers i) k) (omega (arith, error)) refl _
    (covers_raised p q is 8 _ _ (Covers-u_first p q is x))

pub second_t_made : (l : Line) (made : RowModel) → made.coefficients ≡ floor_div l.middle (2 ^ 18) ∷ floor_div l.slope (2 ^ 18) ∷ replicate (terms - 2) (pos 0) → made.error ≡ 3 → IsSecond First l made
second_t_made l made numbers error = λ p q x is arguments line double.
    covers_like p q is (raised 18 (of_line 60 l)) made.coefficients made.error (neg_ℤ (pos unit))
    (λ k. two_same (floor_div l.middle (2 ^ 18)) (floor_div l.slope (2 ^ 18)) k ∙ λ i. coefficient (sym numbers i) k) (omega (arith, error)) refl _
    (Covers-t_second p q is x (raised 18 (of_line 60 l)) (covers_raised p q is 18 _ _ line))

pub second_u_made : (l : Line) (made : RowModel) → made.coefficients ≡ floor_div l.middle (2 ^ 17) ∷ floor_div l.slope (2 ^ 17) ∷ replicate (terms - 2) (pos 0) → made.error ≡ 4 → IsSecond Second l made
second_u_made l made numbers error = λ p q x is arguments line double.
    covers_like p q is (widened 1 (raised 17 (of_line 59 l))) made.coefficients made.error (neg_ℤ (pos unit))
    (λ k. two_same (floor_div l.middle (2 ^ 17)) (floor_div l.slope (2 ^ 17)) k ∙ λ i. coefficient (sym numbers i) k) (omega (arith, error)) refl _
    (Covers-u_second p q is 1 x (raised 17 (of_line 59 l)) (upto_units (raised 17 (of_line 59 l)) 1 1 0 8 (neg_ℤ (pos 50)) (neg_ℤ (pos 50)) refl refl (omega arith)) (covers_raised p q is 17 _ _ double))

-- ---- an entry of which its size alone is known
module _ (made : RowModel) (size : ℕ) (numbers : made.coefficients ≡ pos 0 ∷ pos 0 ∷ replicate (terms - 2) (pos 0)) (error : made.error ≡ size * 2 ^ 42 + 2)
    (p q : ℤ) (is : IsArgument p q) (e : Ival62) where
  from_zero : (z : ℤ) (b : ℤ) → Within z b → Within (z -ℤ pos 0) b
  from_zero z b h = let l = h.low in let u = h.high in record { low = omega (arith, ints, l); high = omega (arith, ints, u) }

  sized_t : 1 ≤ size → EndsWithin (1 * 2 ^ 60) e → Covers (of_row unit made) p q (of_entry t_unit e)
  sized_t some within =
      covers_like p q is (raised 18 (constant (pos 0) (1 * 2 ^ 60) (neg_ℤ (pos 60)))) made.coefficients made.error (neg_ℤ (pos unit))
      (λ k. one_same (pos 0) k ∙ λ i. coefficient (sym numbers i) k) (omega (arith, error, some)) refl _
      (covers_raised p q is 18 _ _ (Covers-constant p q is (pos 0) e.lo e.hi (neg_ℤ (pos 60)) (1 * 2 ^ 60) (from_zero e.lo _ within.lo) (from_zero e.hi _ within.hi)))

  sized_u : (k : ℕ) → suc k ≤ size → EndsWithin (suc k * 2 ^ 50) e → Covers (of_row unit made) p q (of_entry u_unit e)
  sized_u k few within =
      covers_like p q is (raised 8 (constant (pos 0) (suc k * 2 ^ 50) (neg_ℤ (pos 50)))) made.coefficients made.error (neg_ℤ (pos unit))
      (λ j. one_same (pos 0) j ∙ λ i. coefficient (sym numbers i) j) (shared size k made.error few error) refl _
      (covers_raised p q is 8 _ _ (Covers-constant p q is (pos 0) e.lo e.hi (neg_ℤ (pos 50)) (suc k * 2 ^ 50) (from_zero e.lo _ within.lo) (from_zero e.hi _ within.hi)))
    where
      shared : (s k m : ℕ) → suc k ≤ s → m ≡ s * 2 ^ 42 + 2 → suc (suc k * 2 ^ 50 / 2 ^ 8) + 1 ≤ m
      shared s k m h is = omega (arith, h, is)

pub sized_made : (made : RowModel) (size : ℕ) → made.coefficients ≡ pos 0 ∷ pos 0 ∷ replicate (terms - 2) (pos 0) → made.error ≡ size * 2 ^ 42 + 2
    → (kind : Kind) (p q : ℤ) (x : Ival62) (k : ℕ) → greatest kind k ≤ size → IsArgument p q → IsArguments x → IsAt kind made p q x k
sized_made made size numbers error First p q x k few is arguments = sized_t made size numbers error p q is (t_row x k) few (EndsWithin-t x arguments k)
sized_made made size numbers error Second p q x k few is arguments = sized_u made size numbers error p q is (u_row x k) k few (EndsWithin-u x arguments k)
