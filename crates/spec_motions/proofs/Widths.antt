-- How wide the row of T is at one argument, and the product of two intervals.
use Rattle.std.proofs.Common.{◌≡◌, ℕ, zero, suc, ◌+◌, ◌-◌, ◌*◌, ◌^◌, ◌<◌, ◌≤◌, arith, refl, ◌⊎◌, inl, inr, [], ◌∷◌, ℤ, pos, negsuc, ◌+ℤ◌, ◌-ℤ◌, ◌*ℤ◌, neg_ℤ, ◌≤ℤ◌, ◌<ℤ◌, unsigned_abs}
use Rattle.std.proofs.lemmas.Int.{ints}
use Rattle.std.proofs.lemmas.Nat.{pow_pos}
use Rattle.std.proofs.Math.Nat.{pow-suc}
use Rattle.std.specs.Int.{int_min, int_max}
use Rattle.spec_numbers.specs.Numbers.{floor_div, ceil_div, power}
use Rattle.spec_intervals.specs.Interval.{least4, greatest4}
use Rattle.spec_numbers.proofs.Ring.{v, k as lit, ◌⊕◌, ◌⊖◌, ◌⊗◌, minus, ring}
use Rattle.spec_numbers.proofs.Order.{lin, le-mul, le-mul_cancel, lt-mul_cancel}
use Rattle.spec_numbers.proofs.Sizes.{product_size}
use Rattle.spec_numbers.proofs.Floor.{floor_div-lt}
use Rattle.spec_chebyshev.specs.declared.ends.Ival62.{Ival62}
use Rattle.spec_chebyshev.specs.Differences.{IsArgument}
use Rattle.spec_chebyshev.specs.Rows.{nothing, next, t_row, HoldsIn, EndsWithin, IsArguments}
use Rattle.spec_chebyshev.proofs.RowEnds.{EndsWithin-t}
use Rattle.spec_chebyshev.proofs.RowLaws.{HoldsIn-t}
use Rattle.spec_chebyshev.proofs.Arguments.{within_size}

-- ---- quotients rounded outward are less than two units further apart
pub quotients_gap : (lo hi : ℤ) (d : ℕ) → 0 < d → ((ceil_div hi d -ℤ floor_div lo d) *ℤ pos d) <ℤ ((hi -ℤ lo) +ℤ pos (2 * d))
quotients_gap lo hi d d0 =
    let f : lo <ℤ (floor_div lo d *ℤ pos d +ℤ pos d) = floor_div-lt lo d d0 in
    let g : neg_ℤ hi <ℤ (floor_div (neg_ℤ hi) d *ℤ pos d +ℤ pos d) = floor_div-lt (neg_ℤ hi) d d0 in
    let e : (neg_ℤ (floor_div (neg_ℤ hi) d) -ℤ floor_div lo d) *ℤ pos d ≡ neg_ℤ (floor_div (neg_ℤ hi) d *ℤ pos d) -ℤ floor_div lo d *ℤ pos d = ring (floor_div (neg_ℤ hi) d ∷ floor_div lo d ∷ pos d ∷ []) ((minus (v 0) ⊖ v 1) ⊗ v 2) (minus (v 0 ⊗ v 2) ⊖ v 1 ⊗ v 2) tt in
    rw e (omega (arith, lin))

-- one number rounded outward
pub thin_quotients : (z : ℤ) (d : ℕ) → 0 < d → ceil_div z d ≤ℤ (floor_div z d +ℤ pos 1)
thin_quotients z d d0 =
    let h : ((ceil_div z d -ℤ floor_div z d) *ℤ pos d) <ℤ ((z -ℤ z) +ℤ pos (2 * d)) = quotients_gap z z d d0 in
    let g : (ceil_div z d -ℤ floor_div z d) <ℤ pos 2 = lt-mul_cancel (ceil_div z d -ℤ floor_div z d) (pos 2) d (omega (arith, lin)) in
    omega (arith, lin)

-- ---- a product of two intervals of at most these sizes and widths
-- x y and x' y' differ by x (y - y') + y' (x - x')
near : (x x' y y' : ℤ) (m n dx dy : ℕ) → unsigned_abs x ≤ m → unsigned_abs y' ≤ n → unsigned_abs (x -ℤ x') ≤ dx → unsigned_abs (y -ℤ y') ≤ dy
    → (x *ℤ y -ℤ pos (m * dy + n * dx)) ≤ℤ (x' *ℤ y')
near x x' y y' m n dx dy hx hy hdx hdy =
    let e : x *ℤ y -ℤ x' *ℤ y' ≡ x *ℤ (y -ℤ y') +ℤ y' *ℤ (x -ℤ x') = ring (x ∷ x' ∷ y ∷ y' ∷ []) (v 0 ⊗ v 2 ⊖ v 1 ⊗ v 3) (v 0 ⊗ (v 2 ⊖ v 3) ⊕ v 3 ⊗ (v 0 ⊖ v 1)) tt in
    let p = product_size x (y -ℤ y') m dy hx hdy in
    let q = product_size y' (x -ℤ x') n dx hy hdx in
    apart (x *ℤ y) (x' *ℤ y') (x *ℤ (y -ℤ y')) (y' *ℤ (x -ℤ x')) (m * dy) (n * dx) e p q
  where
    apart : (a b p q : ℤ) (c d : ℕ) → a -ℤ b ≡ p +ℤ q → unsigned_abs p ≤ c → unsigned_abs q ≤ d → (a -ℤ pos (c + d)) ≤ℤ b
    apart a b p q c d e h g = omega (arith, lin, e, h, g)

min_above : (z p q : ℤ) → z ≤ℤ p → z ≤ℤ q → z ≤ℤ int_min p q
min_above z p q h g = grind (arith, ints)

max_below : (z p q : ℤ) → p ≤ℤ z → q ≤ℤ z → int_max p q ≤ℤ z
max_below z p q h g = grind (arith, ints)

module _ (c e : Ival62) (m n wc we : ℕ) (hc : EndsWithin m c) (he : EndsWithin n e) (oc : c.lo ≤ℤ c.hi) (oe : e.lo ≤ℤ e.hi) (tc : (c.hi -ℤ c.lo) ≤ℤ pos wc) (te : (e.hi -ℤ e.lo) ≤ℤ pos we) where
  abbrev B : ℕ
  B = m * we + n * wc

  -- a corner less the spread is below each corner
  below_all : (x y : ℤ) → unsigned_abs x ≤ m → unsigned_abs (x -ℤ c.lo) ≤ wc → unsigned_abs (x -ℤ c.hi) ≤ wc → unsigned_abs (y -ℤ e.lo) ≤ we → unsigned_abs (y -ℤ e.hi) ≤ we → (x *ℤ y -ℤ pos B) ≤ℤ least4 c.lo c.hi e.lo e.hi
  below_all x y hx xl xh yl yh =
      min_above (x *ℤ y -ℤ pos B) (int_min (c.lo *ℤ e.lo) (c.lo *ℤ e.hi)) (int_min (c.hi *ℤ e.lo) (c.hi *ℤ e.hi))
      (min_above (x *ℤ y -ℤ pos B) (c.lo *ℤ e.lo) (c.lo *ℤ e.hi) (near x c.lo y e.lo m n wc we hx (within_size e.lo n he.lo) xl yl) (near x c.lo y e.hi m n wc we hx (within_size e.hi n he.hi) xl yh))
      (min_above (x *ℤ y -ℤ pos B) (c.hi *ℤ e.lo) (c.hi *ℤ e.hi) (near x c.hi y e.lo m n wc we hx (within_size e.lo n he.lo) xh yl) (near x c.hi y e.hi m n wc we hx (within_size e.hi n he.hi) xh yh))

  -- ends are as near to each other as their interval is wide
  below_ends : (x y : ℤ) → unsigned_abs x ≤ m → (x ≡ c.lo) ⊎ (x ≡ c.hi) → (y ≡ e.lo) ⊎ (y ≡ e.hi) → (x *ℤ y -ℤ pos B) ≤ℤ least4 c.lo c.hi e.lo e.hi
  below_ends x y hx (inl p) (inl q) = below_all x y hx (omega (arith, lin)) (omega (arith, lin)) (omega (arith, lin)) (omega (arith, lin))
  below_ends x y hx (inl p) (inr q) = below_all x y hx (omega (arith, lin)) (omega (arith, lin)) (omega (arith, lin)) (omega (arith, lin))
  below_ends x y hx (inr p) (inl q) = below_all x y hx (omega (arith, lin)) (omega (arith, lin)) (omega (arith, lin)) (omega (arith, lin))
  below_ends x y hx (inr p) (inr q) = below_all x y hx (omega (arith, lin)) (omega (arith, lin)) (omega (arith, lin)) (omega (arith, lin))

  moved : (x y z : ℤ) → (x -ℤ y) ≤ℤ z → x ≤ℤ (z +ℤ y)
  moved x y z h = omega (arith, lin)

  pub product_width : greatest4 c.lo c.hi e.lo e.hi ≤ℤ (least4 c.lo c.hi e.lo e.hi +ℤ pos B)
  product_width =
      let least = least4 c.lo c.hi e.lo e.hi in
      let ll = moved (c.lo *ℤ e.lo) (pos B) least (below_ends c.lo e.lo (within_size c.lo m hc.lo) (inl refl) (inl refl)) in
      let lh = moved (c.lo *ℤ e.hi) (pos B) least (below_ends c.lo e.hi (within_size c.lo m hc.lo) (inl refl) (inr refl)) in
      let hl = moved (c.hi *ℤ e.lo) (pos B) least (below_ends c.hi e.lo (within_size c.hi m hc.hi) (inr refl) (inl refl)) in
      let hh = moved (c.hi *ℤ e.hi) (pos B) least (below_ends c.hi e.hi (within_size c.hi m hc.hi) (inr refl) (inr refl)) in
      max_below (least +ℤ pos B) (int_max (c.lo *ℤ e.lo) (c.lo *ℤ e.hi)) (int_max (c.hi *ℤ e.lo) (c.hi *ℤ e.hi)) (max_below (least +ℤ pos B) (c.lo *ℤ e.lo) (c.lo *ℤ e.hi) ll lh) (max_below (least +ℤ pos B) (c.hi *ℤ e.lo) (c.hi *ℤ e.hi) hl hh)

positive : (k : ℕ) → 0 < 3 ^ k
positive zero = omega arith
positive (suc k) = let e : 3 ^ suc k ≡ 3 ^ k * 3 = pow-suc 3 k in let h = positive k in omega (arith, e, h)

-- ---- the row of T where the argument is one number, rounded outward
cut_width : (a b f g : ℤ) (m : ℕ) → (b -ℤ a) ≤ℤ pos m → (int_min b g -ℤ int_max a f) ≤ℤ pos m
cut_width a b f g m h = grind (arith, ints)

module _ (x : Ival62) (hx : IsArguments x) (thin : x.hi ≤ℤ (x.lo +ℤ pos 1)) where
  own_arg : IsArgument x.lo (pos (2 ^ 60))
  own_arg = record { positive = omega (arith, lin); low = hx.unit.lo.low; high = hx.unit.lo.high }

  own : HoldsIn 60 x x.lo (pos (2 ^ 60))
  own = record { low = omega (arith, lin); high = le-mul x.lo x.hi (pos (2 ^ 60)) (omega (arith, lin)) hx.ordered }

  positive_power : (k : ℕ) → pos 1 ≤ℤ power (pos (2 ^ 60)) k
  positive_power zero = omega (arith, lin)
  positive_power (suc k) =
      let h = positive_power k in
      let g : (pos 1 *ℤ pos (2 ^ 60)) ≤ℤ (power (pos (2 ^ 60)) k *ℤ pos (2 ^ 60)) = le-mul (pos 1) (power (pos (2 ^ 60)) k) (pos (2 ^ 60)) (omega (arith, lin)) h in
      let e : pos (2 ^ 60) *ℤ power (pos (2 ^ 60)) k ≡ power (pos (2 ^ 60)) k *ℤ pos (2 ^ 60) = ring (power (pos (2 ^ 60)) k ∷ []) (lit (pos (2 ^ 60)) ⊗ v 0) (v 0 ⊗ lit (pos (2 ^ 60))) tt in
      rw e (omega (arith, lin))

  pub ordered : (k : ℕ) → (t_row x k).lo ≤ℤ (t_row x k).hi
  ordered k =
      let h = HoldsIn-t x x.lo (pos (2 ^ 60)) own_arg own k in
      let l = h.low in
      let g = h.high in
      by (power (pos (2 ^ 60)) k) (positive_power k) (omega (arith, lin))
    where
      by : (p : ℤ) → pos 1 ≤ℤ p → ((t_row x k).lo *ℤ p) ≤ℤ ((t_row x k).hi *ℤ p) → (t_row x k).lo ≤ℤ (t_row x k).hi
      by (pos n) h g = le-mul_cancel (t_row x k).lo (t_row x k).hi n (omega (arith, ints)) g
      by (negsuc n) h g = absurd (omega (arith, ints))

  small : (k : ℕ) → EndsWithin (2 ^ 60) (t_row x k)
  small k = EndsWithin-t x hx k

  -- the width of an entry, with 2 more, is at most 2 3^k
  abbrev Thin : Ival62 → ℕ → Type 0
  Thin e k = ((e.hi -ℤ e.lo) +ℤ pos 2) ≤ℤ pos (2 * 3 ^ k)

  step_width : (e before : Ival62) (w b : ℕ) → EndsWithin (2 ^ 60) e → e.lo ≤ℤ e.hi → (e.hi -ℤ e.lo) ≤ℤ pos w → (before.hi -ℤ before.lo) ≤ℤ pos b
      → ((next (1 * 2 ^ 60) x e nothing before).hi -ℤ (next (1 * 2 ^ 60) x e nothing before).lo) ≤ℤ pos (2 * w + 4 + b)
  unfolding next
  step_width e before w b he oe we wb =
      let p = product_width x e (2 ^ 60) (2 ^ 60) 1 w hx.unit he hx.ordered oe (omega (arith, lin)) we in
      let g = quotients_gap (least4 x.lo x.hi e.lo e.hi) (greatest4 x.lo x.hi e.lo e.hi) (2 ^ 59) (pow_pos 59) in
      let q = lt-mul_cancel (ceil_div (greatest4 x.lo x.hi e.lo e.hi) (2 ^ 59) -ℤ floor_div (least4 x.lo x.hi e.lo e.hi) (2 ^ 59)) (pos (2 * w + 5)) (2 ^ 59) (omega (arith, lin)) in
      cut_width (floor_div (least4 x.lo x.hi e.lo e.hi) (2 ^ 59) +ℤ pos 0 -ℤ before.hi) (ceil_div (greatest4 x.lo x.hi e.lo e.hi) (2 ^ 59) +ℤ pos 0 -ℤ before.lo) (neg_ℤ (pos (1 * 2 ^ 60))) (pos (1 * 2 ^ 60)) (2 * w + 4 + b) (omega (arith, lin))

  two : (k : ℕ) → Thin (t_row x k) k × Thin (t_row x (suc k)) (suc k)
  unfolding t_row
  two zero = (omega (arith, lin), omega (arith, lin))
  two (suc k) =
      let ih = two k in
      let a = ih.0 in
      let b = ih.1 in
      let t : 3 ^ suc (suc k) ≡ 3 ^ suc k * 3 = pow-suc 3 (suc k) in
      let u : 3 ^ suc k ≡ 3 ^ k * 3 = pow-suc 3 k in
      let p : 0 < 3 ^ k = positive k in
      let s = step_width (t_row x (suc k)) (t_row x k) (2 * 3 ^ suc k - 2) (2 * 3 ^ k - 2) (small (suc k)) (ordered (suc k)) (omega (arith, lin)) (omega (arith, lin)) in
      (b, omega (arith, lin))

  pub thin_row : (k : ℕ) → ((t_row x k).hi -ℤ (t_row x k).lo) ≤ℤ pos (2 * 3 ^ k)
  thin_row k = let h = (two k).0 in omega (arith, lin)
