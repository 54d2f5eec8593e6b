-- Over narrower arguments each row is narrower: every entry lies in that over the wider arguments.
use Rattle.std.proofs.Common.{ℕ, zero, suc, ◌*◌, ◌^◌, arith, ℤ, pos, ◌+ℤ◌, ◌-ℤ◌, neg_ℤ, ◌≤ℤ◌}
use Rattle.std.proofs.lemmas.Nat.{pow_pos}
use Rattle.spec_numbers.specs.Numbers.{floor_div, ceil_div}
use Rattle.spec_numbers.proofs.Order.{lin}
use Rattle.spec_intervals.specs.Interval.{least4, greatest4}
use Rattle.spec_chebyshev.specs.declared.ends.Ival62.{Ival62}
use Rattle.spec_chebyshev.specs.Rows.{t_size, u_size, q_size, r_size, t_unit, u_unit, q_unit, r_unit, shifted, nothing, next, t_row, u_row, q_row, r_row, IsArguments}
use Rattle.spec_chebyshev.proofs.RowEnds.{t_ordered, u_ordered, q_ordered, r_ordered}
use Rattle.spec_bounds.proofs.Covers.{Covers, IsOrdered}
use Rattle.spec_bounds.proofs.Products.{floor_div-grows, ceil_div-grows, max_grows, min_grows, least-falls, greatest-grows}

pub Covers-itself : (e : Ival62) → Covers e e
Covers-itself e = record { low = omega (arith, lin); high = omega (arith, lin) }

pub Covers-shifted : (k : ℕ) (f e : Ival62) → Covers f e → Covers (shifted k f) (shifted k e)
Covers-shifted k f e h = record { low = floor_div-grows f.lo e.lo (2 ^ k) (pow_pos k) h.low; high = ceil_div-grows e.hi f.hi (2 ^ k) (pow_pos k) h.high }

-- one step of any row: the entry before, the one before that and what is added over y each cover that over x
module _ (limit : ℕ) (y x f e more_y more_x f0 e0 : Ival62) (x_ordered : IsOrdered x) (e_ordered : IsOrdered e) (round_x : Covers y x) (round_e : Covers f e) (round_extra : Covers more_y more_x) (round_before : Covers f0 e0) where
  -- the ends before they are cut to the limit
  abbrev outer_low : ℤ
  outer_low = floor_div (least4 y.lo y.hi f.lo f.hi) (2 ^ 59) +ℤ more_y.lo -ℤ f0.hi

  abbrev inner_low : ℤ
  inner_low = floor_div (least4 x.lo x.hi e.lo e.hi) (2 ^ 59) +ℤ more_x.lo -ℤ e0.hi

  abbrev outer_high : ℤ
  outer_high = ceil_div (greatest4 y.lo y.hi f.lo f.hi) (2 ^ 59) +ℤ more_y.hi -ℤ f0.lo

  abbrev inner_high : ℤ
  inner_high = ceil_div (greatest4 x.lo x.hi e.lo e.hi) (2 ^ 59) +ℤ more_x.hi -ℤ e0.lo

  low : outer_low ≤ℤ inner_low
  low =
      let least = least-falls y x f e x_ordered e_ordered round_x round_e in
      let p = floor_div-grows (least4 y.lo y.hi f.lo f.hi) (least4 x.lo x.hi e.lo e.hi) (2 ^ 59) (pow_pos 59) least in
      omega (arith, lin, round_extra.low, round_before.high)

  high : inner_high ≤ℤ outer_high
  high =
      let greatest = greatest-grows y x f e x_ordered e_ordered round_x round_e in
      let p = ceil_div-grows (greatest4 x.lo x.hi e.lo e.hi) (greatest4 y.lo y.hi f.lo f.hi) (2 ^ 59) (pow_pos 59) greatest in
      omega (arith, lin, round_extra.high, round_before.low)

  pub Covers-next : Covers (next limit y f more_y f0) (next limit x e more_x e0)
  unfolding next
  Covers-next = record { low = max_grows outer_low inner_low (neg_ℤ (pos limit)) low; high = min_grows inner_high outer_high (pos limit) high }

-- an entry and the next together, since a step takes both
module _ (y x : Ival62) (is : IsArguments x) (round : Covers y x) where
  abbrev BothCover : (Ival62 → ℕ → Ival62) → ℕ → Type 0
  BothCover row k = Covers (row y k) (row x k) × Covers (row y (suc k)) (row x (suc k))

  -- by induction, every entry of a row
  by_steps : (row : Ival62 → ℕ → Ival62) → BothCover row 0 → ((k : ℕ) → BothCover row k → Covers (row y (suc (suc k))) (row x (suc (suc k))))
      → (k : ℕ) → BothCover row k
  by_steps row first step zero = first
  by_steps row first step (suc k) = let both = by_steps row first step k in (both.1, step k both)

  t_next : (k : ℕ) → BothCover t_row k → Covers (t_row y (suc (suc k))) (t_row x (suc (suc k)))
  unfolding t_row
  t_next k both =
      Covers-next (t_size (suc (suc k)) * 2 ^ t_unit) y x (t_row y (suc k)) (t_row x (suc k)) nothing nothing (t_row y k) (t_row x k)
      is.ordered (t_ordered x is (suc k)) round both.1 (Covers-itself nothing) both.0

  u_next : (k : ℕ) → BothCover u_row k → Covers (u_row y (suc (suc k))) (u_row x (suc (suc k)))
  unfolding u_row
  u_next k both =
      Covers-next (u_size (suc (suc k)) * 2 ^ u_unit) y x (u_row y (suc k)) (u_row x (suc k)) nothing nothing (u_row y k) (u_row x k)
      is.ordered (u_ordered x is (suc k)) round both.1 (Covers-itself nothing) both.0

  pub Covers-t : (k : ℕ) → Covers (t_row y k) (t_row x k)
  unfolding t_row
  Covers-t k = (by_steps t_row (Covers-itself _, round) t_next k).0

  pub Covers-u : (k : ℕ) → Covers (u_row y k) (u_row x k)
  unfolding u_row
  Covers-u k = (by_steps u_row (Covers-itself _, Covers-shifted 9 y x round) u_next k).0

  pub Covers-q : (k : ℕ) → Covers (q_row y k) (q_row x k)
  unfolding q_row
  Covers-q k = (by_steps q_row (Covers-itself _, Covers-itself _) (λ k both. Covers-next (q_size (suc (suc k)) * 2 ^ q_unit) y x (q_row y (suc k)) (q_row x (suc k)) (shifted 13 (t_row y (suc k))) (shifted 13 (t_row x (suc k))) (q_row y k) (q_row x k) is.ordered (q_ordered x is (suc k)) round both.1 (Covers-shifted 13 (t_row y (suc k)) (t_row x (suc k)) (Covers-t (suc k))) both.0) k).0

  pub Covers-r : (k : ℕ) → Covers (r_row y k) (r_row x k)
  unfolding r_row
  Covers-r k = (by_steps r_row (Covers-itself _, Covers-itself _) (λ k both. Covers-next (r_size (suc (suc k)) * 2 ^ r_unit) y x (r_row y (suc k)) (r_row x (suc k)) (shifted 5 (u_row y (suc k))) (shifted 5 (u_row x (suc k))) (r_row y k) (r_row x k) is.ordered (r_ordered x is (suc k)) round both.1 (Covers-shifted 5 (u_row y (suc k)) (u_row x (suc k)) (Covers-u (suc k))) both.0) k).0
