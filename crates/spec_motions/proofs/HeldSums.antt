-- The sums of intervals hold the plain sums, where the rows hold the polynomials.
use Rattle.std.proofs.Common.{◌≡◌, ℕ, suc, ◌+◌, ◌-◌, ◌^◌, arith, refl, sym, ap, ◌∙◌, List, [], ◌∷◌, length, map, All, ℤ, pos, negsuc, ◌+ℤ◌, ◌*ℤ◌, ◌≤ℤ◌}
use Rattle.std.proofs.lemmas.Nat.{pow-add}
use Rattle.std.proofs.lemmas.List.Elements.{All-head, All-tail}
use borrow.Author.Differences.{up, down}
use Rattle.spec_text.specs.declared.decimals.Decimal.{Decimal}
use Rattle.spec_numbers.specs.Numbers.{floor_div, ceil_div, power}
use Rattle.spec_intervals.specs.Interval.{decimal_top, decimal_bottom, from_decimal, least4, greatest4}
use Rattle.spec_numbers.proofs.Ring.{v, k as lit, ◌⊗◌, ring}
use Rattle.spec_numbers.proofs.Order.{lin, le-mul}
use Rattle.spec_numbers.proofs.Floor.{floor_div-le, ceil_div-ge}
use Rattle.spec_intervals.proofs.Decimals.{bottom_pos}
use Rattle.spec_chebyshev.specs.declared.ends.Ival62.{Ival62}
use Rattle.spec_chebyshev.specs.Rows.{ends, HoldsIn}
use Rattle.spec_numbers.proofs.Whole.{add-mul}
use Rattle.spec_numbers.proofs.Integers.{joined_beside}
use Rattle.spec_numbers.proofs.Naturals.{power-add}
use Rattle.spec_ephemeris.proofs.Units.{units_below, units_above, all_units}
use Rattle.spec_chebyshev.proofs.Polynomials.{nonneg-power}
use Rattle.spec_chebyshev.proofs.Quotients.{least_below, greatest_above}
use Rattle.spec_ephemeris.specs.Series.{IsInUnits, to_nat, scaled, cleared_sum}
use Rattle.spec_ephemeris.specs.Ephemeris.{IsBodyNumber}
use Rattle.spec_motions.specs.Sums.{coefficient, sum_low, sum_high}

-- ---- a coefficient
pub HoldsIn-coefficient : (d : Decimal) → IsInUnits d → HoldsIn 24 (coefficient d) (scaled d) (pos (10 ^ 140))
unfolding from_decimal
HoldsIn-coefficient d h =
    let e : down d.exp + (140 - down d.exp) ≡ 140 = units_below d.exp h in
    let g : up d.exp + (140 - down d.exp) ≡ to_nat (pos 140 +ℤ d.exp) = units_above d.exp (pos 140 +ℤ d.exp) refl h in
    let a = floor_div-le (decimal_top d.mant d.exp (negsuc 23)) (decimal_bottom d.exp (negsuc 23)) (bottom_pos d.exp (negsuc 23)) in
    let b = ceil_div-ge (decimal_top d.mant d.exp (negsuc 23)) (decimal_bottom d.exp (negsuc 23)) (bottom_pos d.exp (negsuc 23)) in
    let c = le-mul (floor_div (decimal_top d.mant d.exp (negsuc 23)) (decimal_bottom d.exp (negsuc 23)) *ℤ pos (decimal_bottom d.exp (negsuc 23))) (decimal_top d.mant d.exp (negsuc 23)) (pos (10 ^ (140 - down d.exp))) (omega (arith, lin)) a in
    let f = le-mul (decimal_top d.mant d.exp (negsuc 23)) (ceil_div (decimal_top d.mant d.exp (negsuc 23)) (decimal_bottom d.exp (negsuc 23)) *ℤ pos (decimal_bottom d.exp (negsuc 23))) (pos (10 ^ (140 - down d.exp))) (omega (arith, lin)) b in
    let t = joined_beside d.mant (up d.exp) (140 - down d.exp) (to_nat (pos 140 +ℤ d.exp)) (2 ^ 24) g in
    record {
      low = rw (← t, ← all_units (floor_div (decimal_top d.mant d.exp (negsuc 23)) (decimal_bottom d.exp (negsuc 23))) (down d.exp) (140 - down d.exp) e) c;
      high = rw (← t, ← all_units (ceil_div (decimal_top d.mant d.exp (negsuc 23)) (decimal_bottom d.exp (negsuc 23))) (down d.exp) (140 - down d.exp) e) f;
    }

-- ---- one term: m / (D P) is at most c p in units of 1 / (A B), and so times a power W of the length
term_low : (m D P W c p A B : ℤ) → pos 0 ≤ℤ W → (m *ℤ (D *ℤ P)) ≤ℤ ((c *ℤ A) *ℤ (p *ℤ B)) → (m *ℤ (D *ℤ (P *ℤ W))) ≤ℤ ((c *ℤ (p *ℤ W)) *ℤ (A *ℤ B))
term_low m D P W c p A B w h =
    let e : m *ℤ (D *ℤ (P *ℤ W)) ≡ m *ℤ (D *ℤ P) *ℤ W = ring (m ∷ D ∷ P ∷ W ∷ []) (v 0 ⊗ (v 1 ⊗ (v 2 ⊗ v 3))) (v 0 ⊗ (v 1 ⊗ v 2) ⊗ v 3) tt in
    let f : (c *ℤ (p *ℤ W)) *ℤ (A *ℤ B) ≡ (c *ℤ A) *ℤ (p *ℤ B) *ℤ W = ring (c ∷ p ∷ W ∷ A ∷ B ∷ []) ((v 0 ⊗ (v 1 ⊗ v 2)) ⊗ (v 3 ⊗ v 4)) ((v 0 ⊗ v 3) ⊗ (v 1 ⊗ v 4) ⊗ v 2) tt in
    rw (e, f) (le-mul (m *ℤ (D *ℤ P)) ((c *ℤ A) *ℤ (p *ℤ B)) W w h)

term_high : (m D P W c p A B : ℤ) → pos 0 ≤ℤ W → ((c *ℤ A) *ℤ (p *ℤ B)) ≤ℤ (m *ℤ (D *ℤ P)) → ((c *ℤ (p *ℤ W)) *ℤ (A *ℤ B)) ≤ℤ (m *ℤ (D *ℤ (P *ℤ W)))
term_high m D P W c p A B w h =
    let e : m *ℤ (D *ℤ (P *ℤ W)) ≡ m *ℤ (D *ℤ P) *ℤ W = ring (m ∷ D ∷ P ∷ W ∷ []) (v 0 ⊗ (v 1 ⊗ (v 2 ⊗ v 3))) (v 0 ⊗ (v 1 ⊗ v 2) ⊗ v 3) tt in
    let f : (c *ℤ (p *ℤ W)) *ℤ (A *ℤ B) ≡ (c *ℤ A) *ℤ (p *ℤ B) *ℤ W = ring (c ∷ p ∷ W ∷ A ∷ B ∷ []) ((v 0 ⊗ (v 1 ⊗ v 2)) ⊗ (v 3 ⊗ v 4)) ((v 0 ⊗ v 3) ⊗ (v 1 ⊗ v 4) ⊗ v 2) tt in
    rw (e, f) (le-mul ((c *ℤ A) *ℤ (p *ℤ B)) (m *ℤ (D *ℤ P)) W w h)

add_le : (m M X n N Y : ℤ) → (m *ℤ X) ≤ℤ (n *ℤ Y) → (M *ℤ X) ≤ℤ (N *ℤ Y) → ((m +ℤ M) *ℤ X) ≤ℤ ((n +ℤ N) *ℤ Y)
add_le m M X n N Y h g = rw (add-mul m M X, add-mul n N Y) (omega (arith, lin, h, g))

zero_times : (x y : ℤ) → (pos 0 *ℤ x) ≤ℤ (pos 0 *ℤ y)
zero_times x y =
    let e : pos 0 *ℤ x ≡ pos 0 = ring (x ∷ []) (lit (pos 0) ⊗ v 0) (lit (pos 0)) tt in
    let f : pos 0 *ℤ y ≡ pos 0 = ring (y ∷ []) (lit (pos 0) ⊗ v 0) (lit (pos 0)) tt in
    rw (e, f) (omega (arith, lin))

-- ---- the sum
module _ (s : ℕ) (row : ℕ → Ival62) (p : ℕ → ℤ) (l : ℤ) (l0 : pos 0 ≤ℤ l) (h : (k : ℕ) → HoldsIn s (row k) (p k) (power l k)) where
  abbrev D : ℤ
  D = pos (10 ^ 140)

  units : pos (2 ^ (24 + s)) ≡ pos (2 ^ 24) *ℤ pos (2 ^ s)
  units = ap pos (pow-add 2 24 s)

  lengths : (k n e : ℕ) → k + suc n ≡ suc e → k + n ≡ e
  lengths k n e q = omega (arith, q)

  further : (k n e : ℕ) → k + suc n ≡ suc e → suc k + n ≡ suc e
  further k n e q = omega (arith, q)

  pub HoldsIn-sum : (cs : List Decimal) (k e : ℕ) → k + length cs ≡ suc e → All IsBodyNumber cs → HoldsIn (24 + s) (ends (sum_low row k (map coefficient cs)) (sum_high row k (map coefficient cs))) (cleared_sum p l k cs) (D *ℤ power l e)
  HoldsIn-sum [] k e q a = record { low = zero_times (D *ℤ power l e) (pos (2 ^ (24 + s))); high = zero_times (pos (2 ^ (24 + s))) (D *ℤ power l e) }
  HoldsIn-sum (c ∷ cs) k e q a =
      let ih = HoldsIn-sum cs (suc k) e (further k (length cs) e q) (All-tail IsBodyNumber c cs a) in
      let hc = HoldsIn-coefficient c (All-head IsBodyNumber c cs a).in_units in
      let hr = h k in
      let p0 = nonneg-power l k l0 in
      let w0 = nonneg-power l (length cs) l0 in
      let d0 : pos 0 ≤ℤ D = omega (arith, lin) in
      let pw : power l e ≡ power l k *ℤ power l (length cs) = ap (power l) (sym (lengths k (length cs) e q)) ∙ power-add l k (length cs) in
      let tl = term_low (least4 (coefficient c).lo (coefficient c).hi (row k).lo (row k).hi) D (power l k) (power l (length cs)) (scaled c) (p k) (pos (2 ^ 24)) (pos (2 ^ s)) w0
      (least_below (coefficient c).lo (coefficient c).hi (row k).lo (row k).hi D (power l k) (scaled c *ℤ pos (2 ^ 24)) (p k *ℤ pos (2 ^ s)) d0 p0 hc.low hc.high hr.low hr.high) in
      let th = term_high (greatest4 (coefficient c).lo (coefficient c).hi (row k).lo (row k).hi) D (power l k) (power l (length cs)) (scaled c) (p k) (pos (2 ^ 24)) (pos (2 ^ s)) w0
      (greatest_above (coefficient c).lo (coefficient c).hi (row k).lo (row k).hi D (power l k) (scaled c *ℤ pos (2 ^ 24)) (p k *ℤ pos (2 ^ s)) d0 p0 hc.low hc.high hr.low hr.high) in
      record {
        low = add_le (least4 (coefficient c).lo (coefficient c).hi (row k).lo (row k).hi) (sum_low row (suc k) (map coefficient cs)) (D *ℤ power l e) (scaled c *ℤ (p k *ℤ power l (length cs))) (cleared_sum p l (suc k) cs) (pos (2 ^ (24 + s))) (rw (pw, units) tl) ih.low;
        high = add_le (scaled c *ℤ (p k *ℤ power l (length cs))) (cleared_sum p l (suc k) cs) (pos (2 ^ (24 + s))) (greatest4 (coefficient c).lo (coefficient c).hi (row k).lo (row k).hi) (sum_high row (suc k) (map coefficient cs)) (D *ℤ power l e) (rw (pw, units) th) ih.high;
      }
