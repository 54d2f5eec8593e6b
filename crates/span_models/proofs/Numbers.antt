-- Lists compared by their numbers.
use Rattle.std.proofs.Common.{◌≡◌, ◌∙◌, to_z, of_z, w64, ℕ, ◌<◌, ◌≤◌, arith, sym, ap, List, length, get_or, ℤ, pos, ◌+ℤ◌, neg_ℤ, unsigned_abs, ◌^◌}
use Rattle.std.proofs.lemmas.Int.{ints, to_z-of_z}
use Rattle.std.proofs.lemmas.List.Elements.{All-from_get_or}
use Rattle.spec_numbers.specs.Numbers.{floor_div}
use Rattle.spec_models.specs.Models.{added, halved, opposite}
use Rattle.spec_models.proofs.Lists.{length-halved, length-opposite}
use Rattle.spec_models.proofs.Coefficients.{same-lists, coefficient-halved, coefficient-added, coefficient-opposite, length-even}
use Rattle.span_models.specs.Sizes.{IsWithin, AreWithin, size_limit, terms}

pub are_within : (limit : ℕ) (xs : List ℤ) → length xs ≡ terms → ((k : ℕ) → k < terms → unsigned_abs (get_or xs k (pos 0)) ≤ limit) → AreWithin limit xs
are_within limit xs count small = record {
  count = count;
  small = All-from_get_or (IsWithin limit) xs (pos 0) (λ k below. small k (omega (arith, below, count)));
}

-- ---- numbers that are halved
pub are_halved : (k : ℕ) (xs zs : List ℤ) → length xs ≡ terms → length zs ≡ terms → ((i : ℕ) → i < terms → get_or zs i (pos 0) ≡ floor_div (get_or xs i (pos 0)) (2 ^ k)) → zs ≡ halved k xs
are_halved k xs zs count same h =
    let l = length-halved k xs in
    same-lists zs (halved k xs) (omega (arith, l, count, same)) (λ i below. h i (omega (arith, below, same)) ∙ sym (coefficient-halved k xs i (omega (arith, below, same, count))))

-- ---- a number of a list that is passed on
pub number_small : (limit : ℕ) (xs : List ℤ) (k : ℕ) → AreWithin limit xs → k < terms → unsigned_abs (get_or xs k (pos 0)) ≤ limit
number_small limit xs k h below = h.small k (pos 0) (let e = h.count in omega (arith, e, below))

pub number_kept : (xs : List ℤ) (k : ℕ) → AreWithin size_limit xs → k < terms → to_z w64 (of_z w64 (get_or xs k (pos 0))) ≡ get_or xs k (pos 0)
number_kept xs k h below = let s = number_small size_limit xs k h below in to_z-of_z w64 (get_or xs k (pos 0)) (omega (arith, ints, s))

-- ---- sums of numbers, the first ones halved
pub are_sums : (k : ℕ) (xs ys zs : List ℤ) → length xs ≡ terms → length ys ≡ terms → length zs ≡ terms
    → ((i : ℕ) → i < terms → get_or zs i (pos 0) ≡ floor_div (get_or xs i (pos 0)) (2 ^ k) +ℤ get_or ys i (pos 0)) → zs ≡ added (halved k xs) ys
are_sums k xs ys zs ex ey ez h =
    let l = length-halved k xs in
    let m = length-even (halved k xs) ys (omega (arith, l, ex, ey)) in
    same-lists zs (added (halved k xs) ys) (omega (arith, l, m, ex, ez)) (λ i below.
    h i (omega (arith, below, ez)) ∙ ap (λ z. z +ℤ get_or ys i (pos 0)) (sym (coefficient-halved k xs i (omega (arith, below, ez, ex)))) ∙ sym (coefficient-added (halved k xs) ys i))

-- ---- numbers that are negated
pub are_opposite : (xs zs : List ℤ) → length xs ≡ terms → length zs ≡ terms → ((i : ℕ) → i < terms → get_or zs i (pos 0) ≡ neg_ℤ (get_or xs i (pos 0))) → zs ≡ opposite xs
are_opposite xs zs ex ez h =
    let l = length-opposite xs in
    same-lists zs (opposite xs) (omega (arith, l, ex, ez)) (λ i below. h i (omega (arith, below, ez)) ∙ sym (coefficient-opposite xs i))

-- ---- one number
pub first_kept : (xs ys : List ℤ) → xs ≡ ys → AreWithin size_limit ys → to_z w64 (of_z w64 (get_or xs 0 (pos 0))) ≡ get_or ys 0 (pos 0)
first_kept xs ys e h = ap (λ (l : List ℤ). to_z w64 (of_z w64 (get_or l 0 (pos 0)))) e ∙ number_kept ys 0 h (omega arith)
