-- Each entry of a row holds the exact polynomial, or divided difference, wherever x holds the arguments.
use Rattle.std.proofs.Common.{◌≡◌, ℕ, zero, suc, ◌*◌, ◌^◌, arith, refl, sym, [], ◌∷◌, ℤ, pos, ◌+ℤ◌, ◌-ℤ◌, ◌*ℤ◌, neg_ℤ, ◌≤ℤ◌}
use Rattle.std.proofs.lemmas.Nat.{pow_pos}
use Rattle.spec_chebyshev.specs.Polynomials.{cleared_t, cleared_u}
use Rattle.spec_numbers.specs.Numbers.{power, floor_div, ceil_div}
use Rattle.spec_intervals.specs.Interval.{least4, greatest4}
use Rattle.spec_numbers.proofs.Ring.{v, k as lit, ◌⊕◌, ◌⊖◌, ◌⊗◌, ring}
use Rattle.spec_numbers.proofs.Integers.{times_one}
use Rattle.spec_numbers.proofs.Order.{lin, le-mul, le-mul_cancel}
use Rattle.spec_numbers.proofs.Whole.{nonneg-mul}
use Rattle.spec_numbers.proofs.Floor.{floor_div-le, ceil_div-ge}
use Rattle.spec_chebyshev.specs.declared.ends.Ival62.{Ival62}
use Rattle.spec_chebyshev.specs.Differences.{difference_t, difference_u, IsArgument, Within}
use Rattle.spec_chebyshev.specs.Rows.{t_unit, u_unit, q_unit, r_unit, q_size, r_size, shifted, nothing, next, t_row, u_row, q_row, r_row, HoldsIn}
use Rattle.spec_chebyshev.proofs.Polynomials.{nonneg-power}
use Rattle.spec_chebyshev.proofs.Sizes.{Within-t, Within-u, Within-q, Within-r}
use Rattle.spec_chebyshev.proofs.Quotients.{cut_low, cut_high, least_below, greatest_above, quotient_low, quotient_high, parts_low, parts_high, at_60, limit_low, limit_high}

-- ---- one step of any row
module _ (s B : ℕ) (x e1 g e0 : Ival62) (u l n1 n0 m N p : ℤ) (l0 : pos 0 ≤ℤ l) (p0 : pos 0 ≤ℤ p) (eq : N ≡ pos 2 *ℤ u *ℤ n1 +ℤ m -ℤ l *ℤ l *ℤ n0) (hx : HoldsIn 60 x u l) (h1 : HoldsIn s e1 n1 (l *ℤ p)) (hg : HoldsIn s g m (l *ℤ (l *ℤ p))) (h0 : HoldsIn s e0 n0 p) (w : Within N (pos B *ℤ (l *ℤ (l *ℤ p)))) where
  lp : pos 0 ≤ℤ (l *ℤ p)
  lp = nonneg-mul l p l0 p0

  llp : pos 0 ≤ℤ (l *ℤ (l *ℤ p))
  llp = nonneg-mul l (l *ℤ p) l0 lp

  unit : pos 0 ≤ℤ pos (2 ^ s)
  unit = omega (arith, lin)

  twice_low : (floor_div (least4 x.lo x.hi e1.lo e1.hi) (2 ^ 59) *ℤ (l *ℤ (l *ℤ p))) ≤ℤ (pos 2 *ℤ (u *ℤ n1 *ℤ pos (2 ^ s)))
  twice_low =
      let c : (least4 x.lo x.hi e1.lo e1.hi *ℤ (l *ℤ (l *ℤ p))) ≤ℤ ((u *ℤ pos (2 ^ 60)) *ℤ (n1 *ℤ pos (2 ^ s))) = least_below x.lo x.hi e1.lo e1.hi l (l *ℤ p) (u *ℤ pos (2 ^ 60)) (n1 *ℤ pos (2 ^ s)) l0 lp hx.low hx.high h1.low h1.high in
      quotient_low (floor_div (least4 x.lo x.hi e1.lo e1.hi) (2 ^ 59)) (least4 x.lo x.hi e1.lo e1.hi) (l *ℤ (l *ℤ p)) (u *ℤ n1 *ℤ pos (2 ^ s)) (floor_div-le (least4 x.lo x.hi e1.lo e1.hi) (2 ^ 59) (pow_pos 59)) llp (rw (at_60 u n1 (pos (2 ^ s))) at c)

  twice_high : (pos 2 *ℤ (u *ℤ n1 *ℤ pos (2 ^ s))) ≤ℤ (ceil_div (greatest4 x.lo x.hi e1.lo e1.hi) (2 ^ 59) *ℤ (l *ℤ (l *ℤ p)))
  twice_high =
      let c : ((u *ℤ pos (2 ^ 60)) *ℤ (n1 *ℤ pos (2 ^ s))) ≤ℤ (greatest4 x.lo x.hi e1.lo e1.hi *ℤ (l *ℤ (l *ℤ p))) = greatest_above x.lo x.hi e1.lo e1.hi l (l *ℤ p) (u *ℤ pos (2 ^ 60)) (n1 *ℤ pos (2 ^ s)) l0 lp hx.low hx.high h1.low h1.high in
      quotient_high (ceil_div (greatest4 x.lo x.hi e1.lo e1.hi) (2 ^ 59)) (greatest4 x.lo x.hi e1.lo e1.hi) (l *ℤ (l *ℤ p)) (u *ℤ n1 *ℤ pos (2 ^ s)) (ceil_div-ge (greatest4 x.lo x.hi e1.lo e1.hi) (2 ^ 59) (pow_pos 59)) llp (rw (at_60 u n1 (pos (2 ^ s))) at c)

  pub HoldsIn-next : HoldsIn s (next (B * 2 ^ s) x e1 g e0) N (l *ℤ (l *ℤ p))
  unfolding next
  HoldsIn-next = record {
    low = cut_low (floor_div (least4 x.lo x.hi e1.lo e1.hi) (2 ^ 59) +ℤ g.lo -ℤ e0.hi) (neg_ℤ (pos (B * 2 ^ s))) (l *ℤ (l *ℤ p)) (N *ℤ pos (2 ^ s)) (parts_low (floor_div (least4 x.lo x.hi e1.lo e1.hi) (2 ^ 59)) g.lo e0.hi u l n1 n0 m N p (pos (2 ^ s)) l0 eq twice_low hg.low h0.high) (limit_low (pos B) (pos (2 ^ s)) (l *ℤ (l *ℤ p)) N unit w.low);
    high = cut_high (ceil_div (greatest4 x.lo x.hi e1.lo e1.hi) (2 ^ 59) +ℤ g.hi -ℤ e0.lo) (pos (B * 2 ^ s)) (l *ℤ (l *ℤ p)) (N *ℤ pos (2 ^ s)) (parts_high (ceil_div (greatest4 x.lo x.hi e1.lo e1.hi) (2 ^ 59)) g.hi e0.lo u l n1 n0 m N p (pos (2 ^ s)) l0 eq twice_high hg.high h0.low) (limit_high (pos B) (pos (2 ^ s)) (l *ℤ (l *ℤ p)) N unit w.high);
  }

HoldsIn-nothing : (s : ℕ) (d : ℤ) → HoldsIn s nothing (pos 0) d
HoldsIn-nothing s d =
    let e : pos 0 *ℤ d ≡ pos 0 = ring (d ∷ []) (lit (pos 0) ⊗ v 0) (lit (pos 0)) tt in
    let f : pos 0 *ℤ pos (2 ^ s) ≡ pos 0 = ring (pos (2 ^ s) ∷ []) (lit (pos 0) ⊗ v 0) (lit (pos 0)) tt in
    record { low = rw (e, f) (omega (arith, lin)); high = rw (e, f) (omega (arith, lin)) }

-- e / 2^j at a unit that is 2^(j+1) times as coarse holds twice the numbers
HoldsIn-shifted : (r s j : ℕ) (e : Ival62) (n d : ℤ) → pos (2 ^ r) ≡ pos 2 *ℤ pos (2 ^ s) *ℤ pos (2 ^ j) → pos 0 ≤ℤ d → HoldsIn r e n d → HoldsIn s (shifted j e) (pos 2 *ℤ n) d
HoldsIn-shifted r s j e n d q d0 h =
    let a : (floor_div e.lo (2 ^ j) *ℤ pos (2 ^ j) *ℤ d) ≤ℤ (e.lo *ℤ d) = le-mul (floor_div e.lo (2 ^ j) *ℤ pos (2 ^ j)) e.lo d d0 (floor_div-le e.lo (2 ^ j) (pow_pos j)) in
    let b : (e.hi *ℤ d) ≤ℤ (ceil_div e.hi (2 ^ j) *ℤ pos (2 ^ j) *ℤ d) = le-mul e.hi (ceil_div e.hi (2 ^ j) *ℤ pos (2 ^ j)) d d0 (ceil_div-ge e.hi (2 ^ j) (pow_pos j)) in
    let hl = h.low in
    let hh = h.high in
    let sl : floor_div e.lo (2 ^ j) *ℤ d *ℤ pos (2 ^ j) ≡ floor_div e.lo (2 ^ j) *ℤ pos (2 ^ j) *ℤ d = swap (floor_div e.lo (2 ^ j)) in
    let sh : ceil_div e.hi (2 ^ j) *ℤ d *ℤ pos (2 ^ j) ≡ ceil_div e.hi (2 ^ j) *ℤ pos (2 ^ j) *ℤ d = swap (ceil_div e.hi (2 ^ j)) in
    let t : pos 2 *ℤ n *ℤ pos (2 ^ s) *ℤ pos (2 ^ j) ≡ n *ℤ pos (2 ^ r) = rw q (ring (n ∷ pos (2 ^ s) ∷ pos (2 ^ j) ∷ []) (lit (pos 2) ⊗ v 0 ⊗ v 1 ⊗ v 2) (v 0 ⊗ (lit (pos 2) ⊗ v 1 ⊗ v 2)) tt) in
    record {
      low = le-mul_cancel (floor_div e.lo (2 ^ j) *ℤ d) (pos 2 *ℤ n *ℤ pos (2 ^ s)) (2 ^ j) (pow_pos j) (omega (arith, lin));
      high = le-mul_cancel (pos 2 *ℤ n *ℤ pos (2 ^ s)) (ceil_div e.hi (2 ^ j) *ℤ d) (2 ^ j) (pow_pos j) (omega (arith, lin));
    }
  where
    swap : (f : ℤ) → f *ℤ d *ℤ pos (2 ^ j) ≡ f *ℤ pos (2 ^ j) *ℤ d
    swap f = ring (f ∷ d ∷ pos (2 ^ j) ∷ []) (v 0 ⊗ v 1 ⊗ v 2) (v 0 ⊗ v 2 ⊗ v 1) tt

HoldsIn-times : (s : ℕ) (e : Ival62) (n d l : ℤ) → pos 0 ≤ℤ l → HoldsIn s e n d → HoldsIn s e (l *ℤ n) (l *ℤ d)
HoldsIn-times s e n d l l0 h =
    let a : (e.lo *ℤ d *ℤ l) ≤ℤ (n *ℤ pos (2 ^ s) *ℤ l) = le-mul (e.lo *ℤ d) (n *ℤ pos (2 ^ s)) l l0 h.low in
    let b : (n *ℤ pos (2 ^ s) *ℤ l) ≤ℤ (e.hi *ℤ d *ℤ l) = le-mul (n *ℤ pos (2 ^ s)) (e.hi *ℤ d) l l0 h.high in
    let m : l *ℤ n *ℤ pos (2 ^ s) ≡ n *ℤ pos (2 ^ s) *ℤ l = ring (l ∷ n ∷ pos (2 ^ s) ∷ []) (v 0 ⊗ v 1 ⊗ v 2) (v 1 ⊗ v 2 ⊗ v 0) tt in
    record { low = rw (turn e.lo, m) a; high = rw (turn e.hi, m) b }
  where
    turn : (f : ℤ) → f *ℤ (l *ℤ d) ≡ f *ℤ d *ℤ l
    turn f = ring (f ∷ l ∷ d ∷ []) (v 0 ⊗ (v 1 ⊗ v 2)) (v 0 ⊗ v 2 ⊗ v 1) tt

plain_step : (u l n1 n0 : ℤ) → pos 2 *ℤ u *ℤ n1 -ℤ l *ℤ l *ℤ n0 ≡ pos 2 *ℤ u *ℤ n1 +ℤ pos 0 -ℤ l *ℤ l *ℤ n0
plain_step u l n1 n0 = ring (u ∷ l ∷ n1 ∷ n0 ∷ []) (lit (pos 2) ⊗ v 0 ⊗ v 2 ⊖ v 1 ⊗ v 1 ⊗ v 3) (lit (pos 2) ⊗ v 0 ⊗ v 2 ⊕ lit (pos 0) ⊖ v 1 ⊗ v 1 ⊗ v 3) tt

difference_step : (u l d1 d0 t : ℤ) → l *ℤ (pos 2 *ℤ u *ℤ d1 +ℤ pos 2 *ℤ t -ℤ l *ℤ l *ℤ d0) ≡ pos 2 *ℤ u *ℤ (l *ℤ d1) +ℤ l *ℤ (pos 2 *ℤ t) -ℤ l *ℤ l *ℤ (l *ℤ d0)
difference_step u l d1 d0 t = ring (u ∷ l ∷ d1 ∷ d0 ∷ t ∷ []) (v 1 ⊗ (lit (pos 2) ⊗ v 0 ⊗ v 2 ⊕ lit (pos 2) ⊗ v 4 ⊖ v 1 ⊗ v 1 ⊗ v 3)) (lit (pos 2) ⊗ v 0 ⊗ (v 1 ⊗ v 2) ⊕ v 1 ⊗ (lit (pos 2) ⊗ v 4) ⊖ v 1 ⊗ v 1 ⊗ (v 1 ⊗ v 3)) tt

-- ---- the rows of the polynomials
module _ (x : Ival62) (u l : ℤ) (h : IsArgument u l) (hx : HoldsIn 60 x u l) where
  length_nonneg : pos 0 ≤ℤ l
  length_nonneg = let p = h.positive in omega (arith, lin)

  t_two : (k : ℕ) → HoldsIn 60 (t_row x k) (cleared_t u l k) (power l k) × HoldsIn 60 (t_row x (suc k)) (cleared_t u l (suc k)) (power l (suc k))
  unfolding t_row
  t_two zero = (record { low = omega (arith, lin); high = omega (arith, lin) }, record { low = rw (times_one l) hx.low; high = rw (times_one l) hx.high })
  t_two (suc k) =
      let ih : HoldsIn 60 (t_row x k) (cleared_t u l k) (power l k) × HoldsIn 60 (t_row x (suc k)) (cleared_t u l (suc k)) (power l (suc k)) = t_two k in (
        ih.1,
        HoldsIn-next 60 1 x (t_row x (suc k)) nothing (t_row x k) u l (cleared_t u l (suc k)) (cleared_t u l k) (pos 0) (cleared_t u l (suc (suc k))) (power l k) length_nonneg (nonneg-power l k length_nonneg) (plain_step u l (cleared_t u l (suc k)) (cleared_t u l k)) hx ih.1 (HoldsIn-nothing 60 (l *ℤ (l *ℤ power l k))) ih.0 (Within-t u l (suc (suc k)) h),
      )

  u_two : (k : ℕ) → HoldsIn 50 (u_row x k) (cleared_u u l k) (power l k) × HoldsIn 50 (u_row x (suc k)) (cleared_u u l (suc k)) (power l (suc k))
  unfolding u_row
  u_two zero = (record { low = omega (arith, lin); high = omega (arith, lin) }, rw (times_one l) (HoldsIn-shifted 60 50 9 x u l refl length_nonneg hx))
  u_two (suc k) =
      let ih : HoldsIn 50 (u_row x k) (cleared_u u l k) (power l k) × HoldsIn 50 (u_row x (suc k)) (cleared_u u l (suc k)) (power l (suc k)) = u_two k in (
        ih.1,
        HoldsIn-next 50 (suc (suc (suc k))) x (u_row x (suc k)) nothing (u_row x k) u l (cleared_u u l (suc k)) (cleared_u u l k) (pos 0) (cleared_u u l (suc (suc k))) (power l k) length_nonneg (nonneg-power l k length_nonneg) (plain_step u l (cleared_u u l (suc k)) (cleared_u u l k)) hx ih.1 (HoldsIn-nothing 50 (l *ℤ (l *ℤ power l k))) ih.0 (Within-u u l (suc (suc k)) h),
      )

  pub HoldsIn-t : (k : ℕ) → HoldsIn t_unit (t_row x k) (cleared_t u l k) (power l k)
  HoldsIn-t k = (t_two k).0

  pub HoldsIn-u : (k : ℕ) → HoldsIn u_unit (u_row x k) (cleared_u u l k) (power l k)
  HoldsIn-u k = (u_two k).0

-- ---- the rows of the divided differences between two arguments that x holds
module _ (x : Ival62) (a u l : ℤ) (g : IsArgument a l) (h : IsArgument u l) (ha : HoldsIn 60 x a l) (hx : HoldsIn 60 x u l) where
  span_nonneg : pos 0 ≤ℤ l
  span_nonneg = let p = h.positive in omega (arith, lin)

  same_low : (c d : ℤ) → c ≡ d → c ≤ℤ d
  same_low c d e = omega (arith, lin)

  q_two : (k : ℕ) → HoldsIn 46 (q_row x k) (l *ℤ difference_t a u l k) (power l k) × HoldsIn 46 (q_row x (suc k)) (l *ℤ difference_t a u l (suc k)) (power l (suc k))
  unfolding q_row
  q_two zero =
      let z : l *ℤ pos 0 ≡ pos 0 = ring (l ∷ []) (v 0 ⊗ lit (pos 0)) (lit (pos 0)) tt in
      let e : pos (2 ^ 46) *ℤ (l *ℤ pos 1) ≡ l *ℤ pos 1 *ℤ pos (2 ^ 46) = ring (l ∷ []) (lit (pos (2 ^ 46)) ⊗ (v 0 ⊗ lit (pos 1))) (v 0 ⊗ lit (pos 1) ⊗ lit (pos (2 ^ 46))) tt in
      (rw z (HoldsIn-nothing 46 (pos 1)), record { low = same_low (pos (2 ^ 46) *ℤ (l *ℤ pos 1)) (l *ℤ pos 1 *ℤ pos (2 ^ 46)) e; high = same_low (l *ℤ pos 1 *ℤ pos (2 ^ 46)) (pos (2 ^ 46) *ℤ (l *ℤ pos 1)) (sym e) })
  q_two (suc k) =
      let ih : HoldsIn 46 (q_row x k) (l *ℤ difference_t a u l k) (power l k) × HoldsIn 46 (q_row x (suc k)) (l *ℤ difference_t a u l (suc k)) (power l (suc k)) = q_two k in
      let t : HoldsIn 46 (shifted 13 (t_row x (suc k))) (pos 2 *ℤ cleared_t a l (suc k)) (power l (suc k)) = HoldsIn-shifted 60 46 13 (t_row x (suc k)) (cleared_t a l (suc k)) (power l (suc k)) refl (nonneg-power l (suc k) span_nonneg) (HoldsIn-t x a l g ha (suc k)) in (
        ih.1,
        HoldsIn-next 46 (q_size (suc (suc k))) x (q_row x (suc k)) (shifted 13 (t_row x (suc k))) (q_row x k) u l (l *ℤ difference_t a u l (suc k)) (l *ℤ difference_t a u l k) (l *ℤ (pos 2 *ℤ cleared_t a l (suc k))) (l *ℤ difference_t a u l (suc (suc k))) (power l k) span_nonneg (nonneg-power l k span_nonneg) (difference_step u l (difference_t a u l (suc k)) (difference_t a u l k) (cleared_t a l (suc k))) hx ih.1 (HoldsIn-times 46 (shifted 13 (t_row x (suc k))) (pos 2 *ℤ cleared_t a l (suc k)) (power l (suc k)) l span_nonneg t) ih.0 (Within-q a u l (suc (suc k)) g h),
      )

  r_two : (k : ℕ) → HoldsIn 44 (r_row x k) (l *ℤ difference_u a u l k) (power l k) × HoldsIn 44 (r_row x (suc k)) (l *ℤ difference_u a u l (suc k)) (power l (suc k))
  unfolding r_row
  r_two zero =
      let z : l *ℤ pos 0 ≡ pos 0 = ring (l ∷ []) (v 0 ⊗ lit (pos 0)) (lit (pos 0)) tt in
      let e : pos (2 ^ 45) *ℤ (l *ℤ pos 1) ≡ l *ℤ pos 2 *ℤ pos (2 ^ 44) = ring (l ∷ []) (lit (pos (2 ^ 45)) ⊗ (v 0 ⊗ lit (pos 1))) (v 0 ⊗ lit (pos 2) ⊗ lit (pos (2 ^ 44))) tt in
      (rw z (HoldsIn-nothing 44 (pos 1)), record { low = same_low (pos (2 ^ 45) *ℤ (l *ℤ pos 1)) (l *ℤ pos 2 *ℤ pos (2 ^ 44)) e; high = same_low (l *ℤ pos 2 *ℤ pos (2 ^ 44)) (pos (2 ^ 45) *ℤ (l *ℤ pos 1)) (sym e) })
  r_two (suc k) =
      let ih : HoldsIn 44 (r_row x k) (l *ℤ difference_u a u l k) (power l k) × HoldsIn 44 (r_row x (suc k)) (l *ℤ difference_u a u l (suc k)) (power l (suc k)) = r_two k in
      let t : HoldsIn 44 (shifted 5 (u_row x (suc k))) (pos 2 *ℤ cleared_u a l (suc k)) (power l (suc k)) = HoldsIn-shifted 50 44 5 (u_row x (suc k)) (cleared_u a l (suc k)) (power l (suc k)) refl (nonneg-power l (suc k) span_nonneg) (HoldsIn-u x a l g ha (suc k)) in (
        ih.1,
        HoldsIn-next 44 (r_size (suc (suc k))) x (r_row x (suc k)) (shifted 5 (u_row x (suc k))) (r_row x k) u l (l *ℤ difference_u a u l (suc k)) (l *ℤ difference_u a u l k) (l *ℤ (pos 2 *ℤ cleared_u a l (suc k))) (l *ℤ difference_u a u l (suc (suc k))) (power l k) span_nonneg (nonneg-power l k span_nonneg) (difference_step u l (difference_u a u l (suc k)) (difference_u a u l k) (cleared_u a l (suc k))) hx ih.1 (HoldsIn-times 44 (shifted 5 (u_row x (suc k))) (pos 2 *ℤ cleared_u a l (suc k)) (power l (suc k)) l span_nonneg t) ih.0 (Within-r a u l (suc (suc k)) g h),
      )

  pub HoldsIn-q : (k : ℕ) → HoldsIn q_unit (q_row x k) (l *ℤ difference_t a u l k) (power l k)
  HoldsIn-q k = (q_two k).0

  pub HoldsIn-r : (k : ℕ) → HoldsIn r_unit (r_row x k) (l *ℤ difference_u a u l k) (power l k)
  HoldsIn-r k = (r_two k).0
