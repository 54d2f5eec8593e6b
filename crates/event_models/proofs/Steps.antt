-- Numbers of a step that fit their words.
use Rattle.std.proofs.Common.{◌≡◌, ℕ, ◌^◌, ◌≤◌, ◌<◌, arith, ℤ, pos, ◌+ℤ◌, ◌-ℤ◌, unsigned_abs, to_z, of_z, w64, FitsSigned, List, slice_index_or, ◌*◌}
use Rattle.std.proofs.lemmas.Int.{ints}
use mir.Syntax.{w128}
use Rattle.spec_numbers.specs.Numbers.{floor_div}
use Rattle.spec_chebyshev.specs.Differences.{Within}
use Rattle.event_models.specs.Rows.{AreNumbers, line_limit, row_limit, terms}

module _ (a b : ℤ) (first : unsigned_abs a ≤ 2 ^ 57) (second : unsigned_abs b ≤ 2 ^ 55) where
  pub less_fits : FitsSigned w64 (to_z w64 (of_z w64 a) -ℤ to_z w64 (of_z w64 b))
  less_fits = omega (arith, ints, first, second)

  pub less_kept : to_z w64 (of_z w64 (to_z w64 (of_z w64 a) -ℤ to_z w64 (of_z w64 b))) ≡ a -ℤ b
  less_kept = omega (arith, ints, first, second)

  pub less_small : unsigned_abs (to_z w64 (of_z w64 (to_z w64 (of_z w64 a) -ℤ to_z w64 (of_z w64 b)))) ≤ 2 ^ 58
  less_small = omega (arith, ints, first, second)

pub kept : (a : ℤ) → unsigned_abs a ≤ row_limit → to_z w64 (of_z w64 a) ≡ a
kept a small = omega (arith, ints, small)

pub kept60 : (a : ℤ) → unsigned_abs a ≤ line_limit → to_z w64 (of_z w64 a) ≡ a
kept60 a small = omega (arith, ints, small)

pub kept_end : (a : ℤ) → Within a (pos (2 ^ 60)) → to_z w64 (of_z w64 a) ≡ a
kept_end a within = let low = within.low in let high = within.high in omega (arith, ints, low, high)

pub kept58 : (a : ℤ) → unsigned_abs a ≤ 2 ^ 58 → to_z w64 (of_z w64 a) ≡ a
kept58 a small = omega (arith, ints, small)

kept128 : (a : ℤ) → unsigned_abs a ≤ 2 ^ 115 → to_z w128 (of_z w128 a) ≡ a
kept128 a small = omega (arith, ints, small)

pub halves_kept : (a b : ℤ) → unsigned_abs a ≤ 2 ^ 115 → unsigned_abs b ≤ 2 ^ 115
    → floor_div (to_z w128 (of_z w128 a) +ℤ to_z w128 (of_z w128 b)) (2 ^ 59) ≡ floor_div (a +ℤ b) (2 ^ 59)
halves_kept a b first second = λ i. floor_div (kept128 a first i +ℤ kept128 b second i) (2 ^ 59)

pub number_kept : (xs : List ℤ) (k : ℕ) → AreNumbers xs → k < terms → to_z w64 (of_z w64 (slice_index_or xs k (pos 0))) ≡ slice_index_or xs k (pos 0)
number_kept xs k is below = kept (slice_index_or xs k (pos 0)) (is.small k (pos 0) (let e = is.count in omega (arith, e, below)))

-- numbers of a sum
pub sum_kept : (z : ℤ) (count : ℕ) → count ≤ 32 → unsigned_abs z ≤ count * 2 ^ 120 → to_z w128 (of_z w128 z) ≡ z
sum_kept z count few small = omega (arith, ints, few, small)
