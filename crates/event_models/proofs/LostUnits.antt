-- How many units are enough for what a velocity loses.
use Rattle.std.proofs.Common.{◌≡◌, ℕ, ◌+◌, ◌*◌, ◌^◌, ◌<◌, ◌≤◌, ◌/◌, arith, [], ℤ, pos, ◌+ℤ◌, ◌-ℤ◌, ◌≤ℤ◌}
use Rattle.std.specs.Int.{int_gap}
use Rattle.std.proofs.Math.Nat.{lt-mul-div-succ}
use Rattle.std.proofs.lemmas.Nat.{pow_pos, pow-add, mul-le}
use borrow.Author.Differences.{down}
use Rattle.spec_numbers.proofs.Order.{lin}
use Rattle.spec_intervals.proofs.Sums.{gap_is}
use Rattle.spec_models.specs.Ends.{in_units}
use Rattle.spec_models.proofs.Ordered.{no_more_trans}
use Rattle.spec_models.specs.Models.{Model, bulk, model}
use Rattle.spec_covers.specs.Combining.{IsUpto, scaled_loss}
use Rattle.spec_covers.proofs.Enough.{units_fit, upto_scaled}

-- what is rounded away of so great a number
enough_parts : (n r b l d : ℕ) → n ≤ 64 * 2 ^ 58 → 128 * 2 ^ r < l * d → 2 * n * 2 ^ r ≤ l * d * 2 ^ (58 + b)
enough_parts n r b l d small many =
    let one : 0 < 2 ^ b = pow_pos b in
    let split = pow-add 2 58 b in
    let first : 2 * n * 2 ^ r ≤ 128 * 2 ^ 58 * 2 ^ r = mul-le (2 * n) (2 ^ r) (128 * 2 ^ 58) (2 ^ r) (omega (arith, small)) (omega arith) in
    let second : 128 * 2 ^ r * 2 ^ 58 ≤ l * d * 2 ^ 58 = mul-le (128 * 2 ^ r) (2 ^ 58) (l * d) (2 ^ 58) (omega (arith, many)) (omega arith) in
    let third : 2 ^ 58 ≤ 2 ^ (58 + b) = omega (arith, split, one) in
    let fourth : l * d * 2 ^ 58 ≤ l * d * 2 ^ (58 + b) = mul-le (l * d) (2 ^ 58) (l * d) (2 ^ (58 + b)) (omega arith) third in
    omega (arith, first, second, fourth)

module _ (m k : Model) (l r low : ℕ) (s e : ℤ) (positive : 0 < l) (small : bulk m ≤ 64 * 2 ^ 58) (above : s ≤ℤ e) (upto : m.exponent ≤ℤ (e +ℤ pos r)) (exact : e ≡ k.exponent +ℤ pos low) where
  abbrev parts : ℕ
  parts = 128 * 2 ^ r / l + 1

  at_coarser : IsUpto (2 + parts) (model [] 0 e) (scaled_loss s m l)
  at_coarser =
      upto_scaled (model [] 0 e) m l parts r (int_gap m.exponent (e +ℤ pos r)) s (m.exponent -ℤ pos r) positive above (omega (arith, lin))
      (let g = gap_is m.exponent (e +ℤ pos r) upto in omega (arith, lin))
      (enough_parts (bulk m) r (int_gap m.exponent (e +ℤ pos r)) l parts small (lt-mul-div-succ (128 * 2 ^ r) positive))

  pub units_enough : IsUpto ((128 * 2 ^ r / l + 3) * 2 ^ low) k (scaled_loss s m l)
  units_enough =
      let same : 2 + parts ≡ 128 * 2 ^ r / l + 3 = omega arith in
      no_more_trans (scaled_loss s m l) (in_units (pos (2 + parts)) e) (in_units (pos ((128 * 2 ^ r / l + 3) * 2 ^ low)) k.exponent) (pow_pos (down e)) at_coarser
      (units_fit (2 + parts) ((128 * 2 ^ r / l + 3) * 2 ^ low) low 0 k.exponent e k.exponent exact (omega (arith, lin)) (rw same (omega arith)))
