-- What a step of a row is near.
use Rattle.std.proofs.Common.{◌≡◌, ◌∙◌, ℕ, zero, suc, ◌+◌, ◌-◌, ◌*◌, ◌/◌, ◌^◌, ◌<◌, ◌≤◌, ◌⊎◌, inl, inr, arith, refl, sym, ap, List, [], ◌∷◌, length, take, drop, ℤ, pos, neg_ℤ, ◌+ℤ◌, ◌-ℤ◌, ◌*ℤ◌, unsigned_abs}
use Rattle.std.proofs.lemmas.Int.{ints}
use Rattle.std.proofs.lemmas.Bool.{cases_lt}
use Rattle.spec_numbers.specs.Numbers.{floor_div}
use Rattle.spec_models.specs.Models.{Model, coefficient, convolved, cut, difference_model, halved, multiplied, opposite, product_model, raised, sizes, widened}
use Rattle.spec_models.proofs.Coefficients.{coefficient-added, coefficient-by_constant, coefficient-multiplied, coefficient-opposite, coefficient-past, sizes-drop, sizes-parts}
use Rattle.spec_models.proofs.Lists.{length-convolved}
use Rattle.spec_models.proofs.Made.{near-product, near-raised, near-cut, near-difference}
use Rattle.spec_covers.specs.Combining.{MultipliesTo, SubtractsTo}
use Rattle.event_models.specs.declared.rows.RowModel.{RowModel}
use Rattle.event_models.specs.declared.rows.Line.{Line}
use Rattle.event_models.specs.Rows.{IsRow, IsStep, last_size, lower, of_line, of_row, product_error, step_number, terms, without_last}

-- ---- coefficients of a product with a line
by_line : (x y : ℤ) (ys : List ℤ) (k : ℕ) → coefficient (convolved (x ∷ y ∷ []) ys) k ≡ x *ℤ coefficient ys k +ℤ y *ℤ lower ys k
by_line x y ys zero = coefficient-added (multiplied x ys) (pos 0 ∷ convolved (y ∷ []) ys) 0 ∙ (λ i. coefficient-multiplied x ys 0 i +ℤ nothing i)
  where
    nothing : pos 0 ≡ y *ℤ pos 0
    nothing = omega (arith, ints)
by_line x y ys (suc k) = coefficient-added (multiplied x ys) (pos 0 ∷ convolved (y ∷ []) ys) (suc k) ∙ λ i. coefficient-multiplied x ys (suc k) i +ℤ coefficient-by_constant y ys k i

-- ---- of a part
-- floor(0 / n) = 0
none_left : (n : ℕ) → floor_div (pos 0) (2 ^ n) ≡ pos 0
none_left n = omega (arith, ints)

halves : (n : ℕ) (xs : List ℤ) (k : ℕ) → coefficient (halved n xs) k ≡ floor_div (coefficient xs k) (2 ^ n)
halves n [] k = sym (none_left n)
halves n (x ∷ xs) zero = refl
halves n (x ∷ xs) (suc k) = halves n xs k

-- ---- the last is not among the others
length-take : (n : ℕ) (xs : List ℤ) → length (take n xs) ≤ n
length-take zero xs = omega arith
length-take (suc n) [] = omega arith
length-take (suc n) (x ∷ xs) = let h = length-take n xs in omega (arith, h)

sizes-none : (xs : List ℤ) (n : ℕ) → length xs ≤ n → sizes (drop n xs) ≡ 0
sizes-none [] zero h = refl
sizes-none [] (suc n) h = refl
sizes-none (x ∷ xs) zero h = absurd (omega (arith, h))
sizes-none (x ∷ xs) (suc n) h = sizes-none xs n (omega (arith, h))

last_alone : (xs : List ℤ) → length xs ≡ terms → sizes (drop (terms - 1) xs) ≡ last_size xs
last_alone xs count = let h = sizes-drop xs (terms - 1) in let g = sizes-none xs terms (omega (arith, count)) in omega (arith, h, g)

fewer : (xs : List ℤ) (n : ℕ) → sizes (take n xs) ≤ sizes xs
fewer xs n = let h = sizes-parts xs n in omega (arith, h)

-- ---- the step
module _ (unit : ℕ) (l : Line) (last before : RowModel) where
  abbrev doubled : Model
  doubled = of_line 59 l

  -- the product, brought back to the unit of the row
  abbrev pub multiplied_row : Model
  multiplied_row = raised 59 (product_model doubled (cut (terms - 1) (of_row unit last)))

  abbrev pub stepped_row : Model
  stepped_row = difference_model multiplied_row (of_row unit before)

  same_unit : multiplied_row.exponent ≡ neg_ℤ (pos unit)
  same_unit = omega (arith, ints)

  pub multiplies : MultipliesTo doubled (of_row unit last) multiplied_row
  multiplies p q r t is near_x near_a =
      near-raised p q is 59 (product_model doubled (cut (terms - 1) (of_row unit last))) _ (near-product p q is doubled (cut (terms - 1) (of_row unit last)) r t near_x (near-cut p q is (terms - 1) (of_row unit last) t near_a))

  pub subtracts : SubtractsTo multiplied_row (of_row unit before) stepped_row
  subtracts p q r t is near_w near_b = near-difference p q is multiplied_row (of_row unit before) r t same_unit near_w near_b

  -- a row that is made by the step is as near
  module _ (made : RowModel) (row : IsRow last) (other : IsRow before) (is : IsStep l last before made) where
    number : (k : ℕ) → coefficient stepped_row.coefficients k ≡ step_number l last.coefficients before.coefficients k
    number k =
        coefficient-added (halved 59 (convolved (l.middle ∷ l.slope ∷ []) (without_last last.coefficients))) (opposite before.coefficients) k
        ∙ λ i. (halves 59 (convolved (l.middle ∷ l.slope ∷ []) (without_last last.coefficients)) k ∙ ap (λ z. floor_div z (2 ^ 59)) (by_line l.middle l.slope (without_last last.coefficients) k)) i
        +ℤ coefficient-opposite before.coefficients k i

    beyond : (k : ℕ) → terms ≤ k → step_number l last.coefficients before.coefficients k ≡ pos 0
    beyond zero h = absurd (omega (arith, h))
    beyond (suc k) h =
        let few = length-take (terms - 1) last.coefficients in
        let count = other.numbers.count in
        let own = coefficient-past (without_last last.coefficients) (suc k) (omega (arith, few, h)) in
        let under = coefficient-past (without_last last.coefficients) k (omega (arith, few, h)) in
        let rest = coefficient-past before.coefficients (suc k) (omega (arith, count, h)) in
        (λ i. floor_div (l.middle *ℤ own i +ℤ l.slope *ℤ under i) (2 ^ 59) -ℤ rest i) ∙ (λ i. floor_div (nothing l.middle l.slope i) (2 ^ 59) -ℤ pos 0) ∙ ap (λ z. z -ℤ pos 0) (none_left 59)
      where
        nothing : (x y : ℤ) → x *ℤ pos 0 +ℤ y *ℤ pos 0 ≡ pos 0
        nothing x y = omega (arith, ints)

    pub step_same : (k : ℕ) → coefficient stepped_row.coefficients k ≡ coefficient made.coefficients k
    step_same k = number k ∙ by (cases_lt k terms)
      where
        by : (k < terms) ⊎ (terms ≤ k) → step_number l last.coefficients before.coefficients k ≡ coefficient made.coefficients k
        by (inl h) = sym (is.numbers k h)
        by (inr h) = let count = is.count in beyond k h ∙ sym (coefficient-past made.coefficients k (omega (arith, count, h)))

    shared : (a b : ℕ) → a ≤ b → a / 2 ^ 59 ≤ b / 2 ^ 59
    shared a b h = omega (arith, h)

    abbrev own_error : ℕ
    own_error = (product_model doubled (cut (terms - 1) (of_row unit last))).error

    less_error : own_error ≤ product_error l last
    less_error =
        let few = fewer last.coefficients (terms - 1) in
        let size = row.size in
        more (unsigned_abs l.middle) (unsigned_abs l.slope) last.error (sizes (drop (terms - 1) last.coefficients)) (last_size last.coefficients) (sizes (take (terms - 1) last.coefficients)) last.size
        (last_alone last.coefficients row.numbers.count) (omega (arith, few, size))
      where
        more : (m s e x y z w : ℕ) → x ≡ y → z ≤ w → (m + (s + 0)) * (e + x) + z * 3 + 3 * (e + x) ≤ (m + s) * (e + y) + w * 3 + 3 * (e + y)
        more m s e x y z w same h = let f : (m + (s + 0)) * (e + x) ≡ (m + s) * (e + y) = (λ i. (m + (s + 0)) * (e + same i)) ∙ (let g : s + 0 ≡ s = omega arith in λ i. (m + g i) * (e + y)) in omega (arith, f, same, h)

    pub step_more : (widened 1 stepped_row).error ≤ made.error
    step_more =
        let h = shared own_error (product_error l last) less_error in
        let count = length-convolved (l.middle ∷ l.slope ∷ []) (without_last last.coefficients) in
        let few = length-take (terms - 1) last.coefficients in
        let error = is.error in
        omega (arith, h, count, few, error)

  pub step_unit : (widened 1 stepped_row).exponent ≡ neg_ℤ (pos unit)
  step_unit = same_unit
