-- The entries of the row of multiples of U.
use Rattle.std.proofs.Common.{◌≡◌, ◌∙◌, ℕ, suc, ◌+◌, ◌-◌, ◌*◌, ◌^◌, ◌<◌, ◌≤◌, arith, refl, sym, subst, List, [], ◌∷◌, length, slice_index_or, ℤ, pos, neg_ℤ, ◌*ℤ◌, unsigned_abs}
use Rattle.std.proofs.lemmas.Int.{unsigned_abs-mul}
use Rattle.std.proofs.lemmas.Nat.{mul-le}
use Rattle.spec_intervals.specs.Fraction.{fraction}
use Rattle.spec_chebyshev.specs.Rows.{u_row, u_unit}
use Rattle.spec_models.specs.Models.{IsNear, Model, coefficient, constant, model, multiplied, sizes}
use Rattle.spec_models.proofs.Coefficients.{coefficient-multiplied, same-lists, zeros-same}
use Rattle.spec_models.proofs.Lists.{length-multiplied}
use Rattle.spec_models.proofs.Made.{near-multiplied}
use Rattle.spec_covers.specs.Combining.{RepeatsTo}
use Rattle.spec_covers.proofs.Sums.{Covers-multiples}
use Rattle.spec_covers.proofs.Units.{Covers-zero}
use Rattle.event_models.specs.declared.rows.RowModel.{RowModel}
use Rattle.event_models.specs.declared.rows.Line.{Line}
use Rattle.event_models.specs.declared.rows.Kind.TheVariants.{Second}
use Rattle.event_models.specs.Rows.{IsEntry, IsRow, IsSumRow, of_row, sum_limit, terms, unit}
use Rattle.event_models.specs.Slopes.{IsEntrySlope, IsMultiple, IsNothing}
use Rattle.event_models.proofs.Like.{covers_like}

-- ---- 0
pub entry_none : (l : Line) (k : ℕ) (made : RowModel) → k ≡ 0 → IsNothing made → IsEntrySlope l k made
entry_none l k made first is = subst (λ j. IsEntrySlope l j made) (sym first) (λ p q x argument arguments line double.
    covers_like p q argument (constant (pos 0) 0 (neg_ℤ (pos unit))) made.coefficients made.error (neg_ℤ (pos unit))
    (λ k. zeros-same terms k ∙ λ i. coefficient (sym is.numbers i) k) (omega arith) refl _
    (Covers-zero p q argument (neg_ℤ (pos unit)) (neg_ℤ (pos u_unit)) 0))

-- ---- k times an entry
module _ (m : Model) where
  abbrev repeated : ℕ → Model
  repeated n = model (multiplied (pos n) m.coefficients) (n * m.error) m.exponent

  repeats : (n : ℕ) → RepeatsTo n m (repeated n)
  repeats n p q r is near =
      let one : r.denominator ≡ 1 * r.denominator = omega arith in
      subst (λ (d : ℕ). IsNear (repeated n) p q (fraction (pos n *ℤ r.numerator) d)) one (near-multiplied p q is (pos n) m r near)

module _ (k : ℕ) (own made : RowModel) (some : 1 ≤ k) (is : IsMultiple k own made) where
  next : k ≡ suc (k - 1)
  next = omega (arith, some)

  same : (j : ℕ) → coefficient (multiplied (pos (suc (k - 1))) own.coefficients) j ≡ coefficient made.coefficients j
  same j = (λ i. coefficient (multiplied (pos (sym next i)) own.coefficients) j) ∙ λ i. coefficient (sym is.numbers i) j

  more : suc (k - 1) * own.error ≤ made.error
  more = let e : suc (k - 1) * own.error ≡ made.error = (λ i. sym next i * own.error) ∙ sym is.error in omega (arith, e)

  covers_repeated : (l : Line) → IsEntry Second l (k - 1) own → IsEntrySlope l (suc (k - 1)) made
  covers_repeated l entry = λ p q x argument arguments line double.
      covers_like p q argument (repeated (of_row unit own) (suc (k - 1))) made.coefficients made.error (neg_ℤ (pos unit)) same more refl _
      (Covers-multiples p q argument u_unit (u_row x) (k - 1) (of_row unit own) (repeated (of_row unit own) (suc (k - 1))) (repeats (of_row unit own) (suc (k - 1))) (entry p q x argument arguments line double))

  pub entry_repeated : (l : Line) → IsEntry Second l (k - 1) own → IsEntrySlope l k made
  entry_repeated l entry = subst (λ j. IsEntrySlope l j made) (sym next) (covers_repeated l entry)

-- ---- its numbers
sizes-multiplied : (k : ℕ) (xs : List ℤ) → sizes (multiplied (pos k) xs) ≡ k * sizes xs
sizes-multiplied k [] = let e : k * 0 ≡ 0 = omega arith in sym e
sizes-multiplied k (x ∷ xs) = (λ i. unsigned_abs-mul (pos k) x i + sizes-multiplied k xs i) ∙ shared k (unsigned_abs x) (sizes xs)
  where
    shared : (a b c : ℕ) → a * b + a * c ≡ a * (b + c)
    shared a b c = omega arith

pub numbers_repeated : (k : ℕ) (xs ys : List ℤ) → length xs ≡ terms → length ys ≡ terms → ((j : ℕ) → j < terms → slice_index_or ys j (pos 0) ≡ pos k *ℤ coefficient xs j) → ys ≡ multiplied (pos k) xs
numbers_repeated k xs ys from count are =
    same-lists ys (multiplied (pos k) xs) (count ∙ sym from ∙ sym (length-multiplied (pos k) xs)) (λ j below. are j (omega (arith, below, count)) ∙ sym (coefficient-multiplied (pos k) xs j))

pub row_repeated : (k : ℕ) (r made : RowModel) → k < 32 → IsRow r → length made.coefficients ≡ terms → ((j : ℕ) → j < terms → unsigned_abs (slice_index_or made.coefficients j (pos 0)) ≤ sum_limit)
    → made.coefficients ≡ multiplied (pos k) r.coefficients → made.size ≡ k * r.size → made.error ≡ k * r.error → IsSumRow made
row_repeated k r made few is count small numbers size error = record {
  count = count;
  small = small;
  size = size ∙ (λ i. k * is.size i) ∙ sym (sizes-multiplied k r.coefficients) ∙ (λ i. sizes (sym numbers i));
  light = let h = mul-le k r.size 32 (terms * 2 ^ 55) (omega (arith, few)) is.light in omega (arith, h, size);
  error = let h = mul-le k r.error 32 (2 ^ 55) (omega (arith, few)) is.error in omega (arith, h, error);
}
