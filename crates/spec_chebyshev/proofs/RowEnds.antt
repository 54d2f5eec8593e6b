-- The ends of every entry are in order, and within the size that the exact values keep, so that the next step does not
-- overflow.
use Rattle.std.proofs.Common.{ℕ, zero, suc, ◌*◌, ◌^◌, ◌<◌, ◌≤◌, arith, ℤ, pos, ◌+ℤ◌, ◌-ℤ◌, ◌*ℤ◌, neg_ℤ, ◌≤ℤ◌, unsigned_abs}
use Rattle.std.proofs.lemmas.Int.{ints, clamps}
use Rattle.std.proofs.lemmas.Nat.{pow_pos}
use Rattle.std.proofs.Math.Nat.{one-le-pow}
use Rattle.std.specs.Int.{int_min, int_max}
use Rattle.spec_chebyshev.specs.Polynomials.{cleared_t, cleared_u}
use Rattle.spec_numbers.specs.Numbers.{power, floor_div, ceil_div}
use Rattle.spec_intervals.specs.Interval.{least4, greatest4}
use Rattle.spec_numbers.proofs.Naturals.{power-pos}
use Rattle.spec_numbers.proofs.Order.{lin, le-mul, le-mul_cancel}
use Rattle.spec_numbers.proofs.Floor.{floor_div-small, ceil_div-small}
use Rattle.spec_chebyshev.specs.declared.ends.Ival62.{Ival62}
use Rattle.spec_chebyshev.specs.Differences.{difference_t, difference_u, IsArgument, Within}
use Rattle.spec_chebyshev.specs.Rows.{t_size, u_size, q_size, r_size, t_unit, u_unit, q_unit, r_unit, shifted, nothing, next, t_row, u_row, q_row, r_row, HoldsIn, EndsWithin, IsArguments}
use Rattle.spec_chebyshev.proofs.Sizes.{Within-t, Within-u, Within-q, Within-r}
use Rattle.spec_chebyshev.proofs.RowLaws.{HoldsIn-t, HoldsIn-u, HoldsIn-q, HoldsIn-r}
use Rattle.spec_chebyshev.proofs.Quotients.{below_limit, above_limit}

-- the two outer sides of an entry
pub record Cut (limit : ℕ) (e : Ival62) : Type 0 where
  pub low : neg_ℤ (pos limit) ≤ℤ e.lo
  pub high : e.hi ≤ℤ pos limit

Cut-next : (limit : ℕ) (x e1 g e0 : Ival62) → Cut limit (next limit x e1 g e0)
unfolding next
Cut-next limit x e1 g e0 = record { low = max_right (floor_div (least4 x.lo x.hi e1.lo e1.hi) (2 ^ 59) +ℤ g.lo -ℤ e0.hi) (neg_ℤ (pos limit)); high = min_right (ceil_div (greatest4 x.lo x.hi e1.lo e1.hi) (2 ^ 59) +ℤ g.hi -ℤ e0.lo) (pos limit) }
  where
    max_right : (p q : ℤ) → q ≤ℤ int_max p q
    max_right p q = omega (arith, ints, clamps)

    min_right : (p q : ℤ) → int_min p q ≤ℤ q
    min_right p q = omega (arith, ints, clamps)

-- an entry that holds one value within the size reaches into it from both sides
ends_within : (s B k : ℕ) (e : Ival62) (N : ℤ) → HoldsIn s e N (power (pos (2 ^ 60)) k) → Within N (pos B *ℤ power (pos (2 ^ 60)) k) → Cut (B * 2 ^ s) e → EndsWithin (B * 2 ^ s) e
ends_within s B k e N h w c =
    let h2 : HoldsIn s e N (pos ((2 ^ 60) ^ k)) = rw (power-pos (2 ^ 60) k) at h in
    let w2 : Within N (pos B *ℤ pos ((2 ^ 60) ^ k)) = rw (power-pos (2 ^ 60) k) at w in
    let d0 : 0 < (2 ^ 60) ^ k = one-le-pow _ _ (omega arith) in
    let s0 : pos 0 ≤ℤ pos (2 ^ s) = omega (arith, lin) in
    record {
      lo = record { low = c.low; high = below_limit e.lo N (pos B) (pos (2 ^ s)) ((2 ^ 60) ^ k) d0 s0 h2.low w2.high };
      hi = record { low = above_limit e.hi N (pos B) (pos (2 ^ s)) ((2 ^ 60) ^ k) d0 s0 h2.high w2.low; high = c.high };
    }

-- an entry that holds a value has its ends in order
ordered_ends : (s k : ℕ) (e : Ival62) (N : ℤ) → HoldsIn s e N (power (pos (2 ^ 60)) k) → e.lo ≤ℤ e.hi
ordered_ends s k e N h =
    let g : HoldsIn s e N (pos ((2 ^ 60) ^ k)) = rw (power-pos (2 ^ 60) k) at h in
    let d0 : 0 < (2 ^ 60) ^ k = one-le-pow _ _ (omega arith) in
    let a = g.low in
    let b = g.high in
    le-mul_cancel e.lo e.hi ((2 ^ 60) ^ k) d0 (omega (arith, lin))

-- 2^60 in size is divided by 2^9 to 2^51
half_low : (z : ℤ) → Within z (pos (2 ^ 60)) → neg_ℤ (pos (2 ^ 51)) ≤ℤ floor_div z (2 ^ 9)
half_low z w =
    let a : unsigned_abs z ≤ 2 ^ 51 * 2 ^ 9 = omega (arith, ints, w.low, w.high) in
    let b : unsigned_abs (floor_div z (2 ^ 9)) ≤ 2 ^ 51 = floor_div-small z (2 ^ 9) (2 ^ 51) (pow_pos 9) a in
    omega (arith, ints)

half_high : (z : ℤ) → Within z (pos (2 ^ 60)) → ceil_div z (2 ^ 9) ≤ℤ pos (2 ^ 51)
half_high z w =
    let a : unsigned_abs z ≤ 2 ^ 51 * 2 ^ 9 = omega (arith, ints, w.low, w.high) in
    let b : unsigned_abs (ceil_div z (2 ^ 9)) ≤ 2 ^ 51 = ceil_div-small z (2 ^ 9) (2 ^ 51) (pow_pos 9) a in
    omega (arith, ints)

-- x holds its own low end
module _ (x : Ival62) (h : IsArguments x) where
  arg : IsArgument x.lo (pos (2 ^ 60))
  arg = record { positive = omega (arith, lin); low = h.unit.lo.low; high = h.unit.lo.high }

  own : HoldsIn 60 x x.lo (pos (2 ^ 60))
  own = record { low = omega (arith, lin); high = le-mul x.lo x.hi (pos (2 ^ 60)) (omega (arith, lin)) h.ordered }

  t_cut : (k : ℕ) → Cut (t_size k * 2 ^ t_unit) (t_row x k)
  unfolding t_row
  t_cut zero = record { low = omega (arith, lin); high = omega (arith, lin) }
  t_cut (suc zero) = record { low = h.unit.lo.low; high = h.unit.hi.high }
  t_cut (suc (suc k)) = Cut-next (1 * 2 ^ 60) x (t_row x (suc k)) nothing (t_row x k)

  u_cut : (k : ℕ) → Cut (u_size k * 2 ^ u_unit) (u_row x k)
  unfolding u_row
  u_cut zero = record { low = omega (arith, lin); high = omega (arith, lin) }
  u_cut (suc zero) = record { low = half_low x.lo h.unit.lo; high = half_high x.hi h.unit.hi }
  u_cut (suc (suc k)) = Cut-next (u_size (suc (suc k)) * 2 ^ 50) x (u_row x (suc k)) nothing (u_row x k)

  q_cut : (k : ℕ) → Cut (q_size k * 2 ^ q_unit) (q_row x k)
  unfolding q_row
  q_cut zero = record { low = omega (arith, lin); high = omega (arith, lin) }
  q_cut (suc zero) = record { low = omega (arith, lin); high = omega (arith, lin) }
  q_cut (suc (suc k)) = Cut-next (q_size (suc (suc k)) * 2 ^ 46) x (q_row x (suc k)) (shifted 13 (t_row x (suc k))) (q_row x k)

  r_cut : (k : ℕ) → Cut (r_size k * 2 ^ r_unit) (r_row x k)
  unfolding r_row
  r_cut zero = record { low = omega (arith, lin); high = omega (arith, lin) }
  r_cut (suc zero) = record { low = omega (arith, lin); high = omega (arith, lin) }
  r_cut (suc (suc k)) = Cut-next (r_size (suc (suc k)) * 2 ^ 44) x (r_row x (suc k)) (shifted 5 (u_row x (suc k))) (r_row x k)

  pub EndsWithin-t : (k : ℕ) → EndsWithin (t_size k * 2 ^ t_unit) (t_row x k)
  EndsWithin-t k = ends_within 60 (t_size k) k (t_row x k) (cleared_t x.lo (pos (2 ^ 60)) k) (HoldsIn-t x x.lo (pos (2 ^ 60)) arg own k) (Within-t x.lo (pos (2 ^ 60)) k arg) (t_cut k)

  pub EndsWithin-u : (k : ℕ) → EndsWithin (u_size k * 2 ^ u_unit) (u_row x k)
  EndsWithin-u k = ends_within 50 (u_size k) k (u_row x k) (cleared_u x.lo (pos (2 ^ 60)) k) (HoldsIn-u x x.lo (pos (2 ^ 60)) arg own k) (Within-u x.lo (pos (2 ^ 60)) k arg) (u_cut k)

  pub EndsWithin-q : (k : ℕ) → EndsWithin (q_size k * 2 ^ q_unit) (q_row x k)
  EndsWithin-q k = ends_within 46 (q_size k) k (q_row x k) (pos (2 ^ 60) *ℤ difference_t x.lo x.lo (pos (2 ^ 60)) k) (HoldsIn-q x x.lo x.lo (pos (2 ^ 60)) arg arg own own k) (Within-q x.lo x.lo (pos (2 ^ 60)) k arg arg) (q_cut k)

  pub EndsWithin-r : (k : ℕ) → EndsWithin (r_size k * 2 ^ r_unit) (r_row x k)
  EndsWithin-r k = ends_within 44 (r_size k) k (r_row x k) (pos (2 ^ 60) *ℤ difference_u x.lo x.lo (pos (2 ^ 60)) k) (HoldsIn-r x x.lo x.lo (pos (2 ^ 60)) arg arg own own k) (Within-r x.lo x.lo (pos (2 ^ 60)) k arg arg) (r_cut k)

  pub t_ordered : (k : ℕ) → (t_row x k).lo ≤ℤ (t_row x k).hi
  t_ordered k = ordered_ends 60 k (t_row x k) (cleared_t x.lo (pos (2 ^ 60)) k) (HoldsIn-t x x.lo (pos (2 ^ 60)) arg own k)

  pub u_ordered : (k : ℕ) → (u_row x k).lo ≤ℤ (u_row x k).hi
  u_ordered k = ordered_ends 50 k (u_row x k) (cleared_u x.lo (pos (2 ^ 60)) k) (HoldsIn-u x x.lo (pos (2 ^ 60)) arg own k)

  pub q_ordered : (k : ℕ) → (q_row x k).lo ≤ℤ (q_row x k).hi
  q_ordered k = ordered_ends 46 k (q_row x k) (pos (2 ^ 60) *ℤ difference_t x.lo x.lo (pos (2 ^ 60)) k) (HoldsIn-q x x.lo x.lo (pos (2 ^ 60)) arg arg own own k)

  pub r_ordered : (k : ℕ) → (r_row x k).lo ≤ℤ (r_row x k).hi
  r_ordered k = ordered_ends 44 k (r_row x k) (pos (2 ^ 60) *ℤ difference_u x.lo x.lo (pos (2 ^ 60)) k) (HoldsIn-r x x.lo x.lo (pos (2 ^ 60)) arg arg own own k)
