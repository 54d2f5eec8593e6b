-- How near a scaled interval is: it is rounded to units, and narrowed.
use Rattle.std.proofs.Common.{◌≡◌, ◌⊎◌, inl, inr, ℕ, ◌+◌, ◌*◌, ◌^◌, max, ◌<◌, ◌≤◌, arith, [], ◌∷◌, ℤ, pos, ◌+ℤ◌, ◌*ℤ◌, ◌≤ℤ◌, ◌<ℤ◌, unsigned_abs}
use Rattle.std.proofs.lemmas.Bool.{cases_lt}
use Rattle.std.proofs.Math.Nat.{mul-pos}
use borrow.Author.Differences.{up, down}
use Rattle.spec_numbers.specs.Numbers.{floor_div, ceil_div}
use Rattle.spec_numbers.proofs.Ring.{v, k as lit, ◌⊕◌, ◌⊗◌, ring}
use Rattle.spec_numbers.proofs.Order.{lin, le-mul}
use Rattle.spec_numbers.proofs.Floor.{floor_div-le, floor_div-lt, ceil_div-ge, ceil_div-lt}
use Rattle.spec_numbers.proofs.Sizes.{scaled_size}
use Rattle.spec_intervals.specs.Interval.{interval, scale}
use Rattle.spec_intervals.specs.Fraction.{fraction_scale}
use Rattle.spec_models.specs.Ends.{in_units, low, high, scale_loss, Under, Over}
use Rattle.spec_models.proofs.Near.{IsRatio, IsAllowed}
use Rattle.spec_models.proofs.NarrowedRoundings.{greatest, IsLeftDown, IsLeftUp, IsKeptDown, IsKeptUp, less_lost, narrow_under, narrow_over}

-- what is scaled, over the length
scale_is_ratio : (z s : ℤ) (length b : ℕ) → IsRatio (fraction_scale (in_units z s) length) (pos 2 *ℤ z *ℤ pos b) s (length * b)
scale_is_ratio z s length b =
    ring (z ∷ pos (2 ^ up s) ∷ pos (2 ^ down s) ∷ pos length ∷ pos b ∷ []) (lit (pos 2) ⊗ (v 0 ⊗ v 1) ⊗ (v 2 ⊗ (v 3 ⊗ v 4)))
    (lit (pos 2) ⊗ v 0 ⊗ v 4 ⊗ (v 1 ⊗ (v 2 ⊗ v 3))) tt

-- what may be lost, over the same
abbrev loss_of : ℕ → ℕ → ℤ
loss_of m length = pos (2 * (length * 2 ^ 58) + 2 * m)

scale_allowed : (lo hi s : ℤ) (length : ℕ) → IsAllowed (scale_loss lo hi s length) (loss_of (greatest lo hi) length) s
    (length * 2 ^ 58)
scale_allowed lo hi s length =
    let e = ring (pos (greatest lo hi) ∷ pos (2 ^ up s) ∷ pos (2 ^ down s) ∷ pos length ∷ pos (2 ^ 58) ∷ [])
    ((lit (pos 2) ⊗ (v 3 ⊗ v 4) ⊕ lit (pos 2) ⊗ v 0) ⊗ (v 1 ⊗ (v 2 ⊗ (v 2 ⊗ v 3 ⊗ v 4))))
    ((lit (pos 2) ⊗ v 1 ⊗ (v 2 ⊗ v 3 ⊗ v 4) ⊕ lit (pos 2) ⊗ (v 0 ⊗ v 1) ⊗ v 2) ⊗ (v 2 ⊗ (v 3 ⊗ v 4))) tt in
    omega (arith, lin)

-- ---- the greater size after the first rounding, times the length, is at most twice the size and one length more
rounded_size : (q z : ℤ) (length m : ℕ) → unsigned_abs z ≤ m → (pos 2 *ℤ z) <ℤ (q *ℤ pos length +ℤ pos length)
    → (q *ℤ pos length) <ℤ (pos 2 *ℤ z +ℤ pos length) → unsigned_abs q * length ≤ 2 * m + length
rounded_size q z length m p f g =
    let e = scaled_size q length in
    let d : pos 2 *ℤ z ≡ z +ℤ z = ring (z ∷ []) (lit (pos 2) ⊗ v 0) (v 0 ⊕ v 0) tt in
    rw (← e) (omega (arith, lin))

-- what holds for both products with a factor holds for that of the greater
pub greater_times : (P : ℕ → Type 0) (a b c : ℕ) → P (a * c) → P (b * c) → P (max a b * c)
greater_times P a b c p q = by (cases_lt a b)
  where
    by : (a < b) ⊎ (b ≤ a) → P (max a b * c)
    by (inl h) = let e : max a b ≡ b = omega arith in rw e q
    by (inr h) = let e : max a b ≡ a = omega arith in rw e p

module _ (lo hi : ℤ) (length : ℕ) (positive : 0 < length) where
  rounded_sizes : greatest (floor_div (pos 2 *ℤ lo) length) (ceil_div (pos 2 *ℤ hi) length) * length
      ≤ 2 * greatest lo hi + length
  rounded_sizes =
      let a = floor_div-le (pos 2 *ℤ lo) length positive in
      let b = floor_div-lt (pos 2 *ℤ lo) length positive in
      let c = ceil_div-ge (pos 2 *ℤ hi) length positive in
      let d = ceil_div-lt (pos 2 *ℤ hi) length positive in
      greater_times (λ n. n ≤ 2 * greatest lo hi + length) _ _ length
      (rounded_size (floor_div (pos 2 *ℤ lo) length) lo length (greatest lo hi) (omega arith) b (omega (arith, lin)))
      (rounded_size (ceil_div (pos 2 *ℤ hi) length) hi length (greatest lo hi) (omega arith) (omega (arith, lin)) d)

-- ---- what is kept: y is rounded to q, and q to w
module _ (y q w : ℤ) (length m n : ℕ) (sizes : n * length ≤ 2 * m + length) where
  together : (z : ℤ) → z *ℤ pos (2 ^ 0 * (length * 2 ^ 58)) ≡ z *ℤ pos (2 ^ 58) *ℤ pos length
  together z = ring (z ∷ pos length ∷ []) (v 0 ⊗ (lit (pos 1) ⊗ (v 1 ⊗ lit (pos (2 ^ 58))))) (v 0 ⊗ lit (pos (2 ^ 58)) ⊗ v 1) tt

  beside : (z : ℤ) → z *ℤ pos length *ℤ pos (2 ^ 58) ≡ z *ℤ pos (2 ^ 58) *ℤ pos length
  beside z = ring (z ∷ pos length ∷ []) (v 0 ⊗ v 1 ⊗ lit (pos (2 ^ 58))) (v 0 ⊗ lit (pos (2 ^ 58)) ⊗ v 1) tt

  -- at one scale, both roundings are a sum
  unit_apart : (a b : ℤ) → a ≤ℤ (b *ℤ pos length +ℤ pos length)
      → (a *ℤ pos (2 ^ 58)) ≤ℤ (b *ℤ pos (2 ^ 58) *ℤ pos length +ℤ pos (length * 2 ^ 58))
  unit_apart a b h =
      let f = le-mul a (b *ℤ pos length +ℤ pos length) (pos (2 ^ 58)) (omega (arith, lin)) h in
      let g = ring (b ∷ pos length ∷ []) ((v 0 ⊗ v 1 ⊕ v 1) ⊗ lit (pos (2 ^ 58)))
      (v 0 ⊗ lit (pos (2 ^ 58)) ⊗ v 1 ⊕ v 1 ⊗ lit (pos (2 ^ 58))) tt in
      omega (arith, lin)

  narrowed_apart : (a b : ℤ) → (a *ℤ pos (2 ^ 61)) ≤ℤ (b *ℤ pos (2 ^ 61) +ℤ pos n)
      → (a *ℤ pos (2 ^ 58) *ℤ pos length) ≤ℤ (b *ℤ pos (2 ^ 58) *ℤ pos length +ℤ pos (n * length))
  narrowed_apart a b h =
      let f = le-mul (a *ℤ pos (2 ^ 58)) (b *ℤ pos (2 ^ 58) +ℤ pos n) (pos length) (omega (arith, lin)) (less_lost a b n h) in
      let g = ring (b ∷ pos n ∷ pos length ∷ []) ((v 0 ⊗ lit (pos (2 ^ 58)) ⊕ v 1) ⊗ v 2)
      (v 0 ⊗ lit (pos (2 ^ 58)) ⊗ v 2 ⊕ v 1 ⊗ v 2) tt in
      omega (arith, lin)

  ordered_apart : (a b : ℤ) → a ≤ℤ b → (a *ℤ pos (2 ^ 58) *ℤ pos length) ≤ℤ (b *ℤ pos (2 ^ 58) *ℤ pos length)
  ordered_apart a b h =
      le-mul (a *ℤ pos (2 ^ 58)) (b *ℤ pos (2 ^ 58)) (pos length) (omega (arith, lin))
      (le-mul a b (pos (2 ^ 58)) (omega (arith, lin)) h)

  kept_down : (q *ℤ pos length) ≤ℤ y → y <ℤ (q *ℤ pos length +ℤ pos length) → IsLeftDown w q n
      → IsKeptDown w (y *ℤ pos (2 ^ 58)) (loss_of m length) (2 ^ 0 * (length * 2 ^ 58))
  kept_down h i left =
      let a = ordered_apart w q left.below in
      let b = narrowed_apart q w left.near in
      let c = le-mul (q *ℤ pos length) y (pos (2 ^ 58)) (omega (arith, lin)) h in
      let d = unit_apart y q (omega (arith, lin)) in
      let e = beside q in
      let f = together w in
      record { below = omega (arith, lin); near = omega (arith, lin) }

  kept_up : y ≤ℤ (q *ℤ pos length) → (q *ℤ pos length) <ℤ (y +ℤ pos length) → IsLeftUp w q n
      → IsKeptUp w (y *ℤ pos (2 ^ 58)) (loss_of m length) (2 ^ 0 * (length * 2 ^ 58))
  kept_up h i left =
      let a = ordered_apart q w left.above in
      let b = narrowed_apart w q left.near in
      let c = le-mul y (q *ℤ pos length) (pos (2 ^ 58)) (omega (arith, lin)) h in
      let d = le-mul (q *ℤ pos length) (y +ℤ pos length) (pos (2 ^ 58)) (omega (arith, lin)) (omega (arith, lin)) in
      let g = ring (y ∷ pos length ∷ []) ((v 0 ⊕ v 1) ⊗ lit (pos (2 ^ 58)))
      (v 0 ⊗ lit (pos (2 ^ 58)) ⊕ v 1 ⊗ lit (pos (2 ^ 58))) tt in
      let e = beside q in
      let f = together w in
      record { above = omega (arith, lin); near = omega (arith, lin) }

module _ (lo hi s : ℤ) (length : ℕ) (p : 0 < length) where
  abbrev low_end : ℤ
  low_end = floor_div (pos 2 *ℤ lo) length

  abbrev high_end : ℤ
  high_end = ceil_div (pos 2 *ℤ hi) length

  some : 0 < length * 2 ^ 58
  some = mul-pos p (omega arith)

  keeps_low : (w : ℤ) → IsLeftDown w low_end (greatest low_end high_end)
      → IsKeptDown w (pos 2 *ℤ lo *ℤ pos (2 ^ 58)) (loss_of (greatest lo hi) length) (2 ^ 0 * (length * 2 ^ 58))
  keeps_low w left =
      kept_down (pos 2 *ℤ lo) low_end w length (greatest lo hi) _ (rounded_sizes lo hi length p)
      (floor_div-le (pos 2 *ℤ lo) length p) (floor_div-lt (pos 2 *ℤ lo) length p) left

  keeps_high : (w : ℤ) → IsLeftUp w high_end (greatest low_end high_end)
      → IsKeptUp w (pos 2 *ℤ hi *ℤ pos (2 ^ 58)) (loss_of (greatest lo hi) length) (2 ^ 0 * (length * 2 ^ 58))
  keeps_high w left =
      kept_up (pos 2 *ℤ hi) high_end w length (greatest lo hi) _ (rounded_sizes lo hi length p)
      (ceil_div-ge (pos 2 *ℤ hi) length p) (ceil_div-lt (pos 2 *ℤ hi) length p) left

  pub scale_under : Under (scale_loss lo hi s length) (low (scale lo hi s length)) (fraction_scale (low (interval lo hi s)) length)
  unfolding scale
  scale_under =
      narrow_under low_end high_end s (pos 2 *ℤ lo *ℤ pos (2 ^ 58)) s (loss_of (greatest lo hi) length) 0 (length * 2 ^ 58)
      _ _ some (omega (arith, lin)) (scale_is_ratio lo s length (2 ^ 58)) (scale_allowed lo hi s length) keeps_low

  pub scale_over : Over (scale_loss lo hi s length) (high (scale lo hi s length)) (fraction_scale (high (interval lo hi s)) length)
  unfolding scale
  scale_over =
      narrow_over low_end high_end s (pos 2 *ℤ hi *ℤ pos (2 ^ 58)) s (loss_of (greatest lo hi) length) 0 (length * 2 ^ 58)
      _ _ some (omega (arith, lin)) (scale_is_ratio hi s length (2 ^ 58)) (scale_allowed lo hi s length) keeps_high
