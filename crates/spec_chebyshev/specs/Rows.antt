-- The rows of T_k, U_k and of their divided differences Q_k and R_k over an interval x of arguments.
-- Every entry is an interval in the unit of its row, rounded outward and cut to the size that the exact values keep.
use Rattle.std.specs.Prelude.{ℕ, zero, suc, ◌*◌, ◌/◌, ◌^◌, ℤ, pos, neg_ℤ, unsigned_abs, ◌+ℤ◌, ◌-ℤ◌, ◌*ℤ◌, ◌≤ℤ◌, List, slice_index_or}
use Rattle.std.specs.Int.{int_min, int_max}
use Rattle.spec_numbers.specs.Numbers.{floor_div, ceil_div}
use Rattle.spec_intervals.specs.Interval.{least4, greatest4}
use Rattle.spec_chebyshev.specs.Differences.{Within}
use Rattle.spec_chebyshev.specs.declared.ends.Ival62.{Ival62}

abbrev pub ends : ℤ → ℤ → Ival62
ends lo hi = record { lo = lo; hi = hi }

-- the unit of a row is 2^-60, 2^-50, 2^-46 or 2^-44; arguments are in units of 2^-60 too
abbrev pub t_unit : ℕ
t_unit = 60

abbrev pub u_unit : ℕ
u_unit = 50

abbrev pub q_unit : ℕ
q_unit = 46

abbrev pub r_unit : ℕ
r_unit = 44

-- the greatest sizes of T_k, U_k, Q_k and R_k at arguments between -1 and 1
abbrev pub t_size : ℕ → ℕ
t_size k = 1

abbrev pub u_size : ℕ → ℕ
u_size k = suc k

abbrev pub q_size : ℕ → ℕ
q_size k = k * k

abbrev pub r_size : ℕ → ℕ
r_size k = k * suc k * suc (suc k) / 3

-- e / 2^k, rounded outward
abbrev pub shifted : ℕ → Ival62 → Ival62
shifted k e = ends (floor_div e.lo (2 ^ k)) (ceil_div e.hi (2 ^ k))

-- 2 x e + extra - before, rounded outward and cut to a limit in size
abbrev pub low_end : ℕ → Ival62 → Ival62 → Ival62 → Ival62 → ℤ
low_end limit x e extra before = int_max (floor_div (least4 x.lo x.hi e.lo e.hi) (2 ^ 59) +ℤ extra.lo -ℤ before.hi) (neg_ℤ (pos limit))

abbrev pub high_end : ℕ → Ival62 → Ival62 → Ival62 → Ival62 → ℤ
high_end limit x e extra before = int_min (ceil_div (greatest4 x.lo x.hi e.lo e.hi) (2 ^ 59) +ℤ extra.hi -ℤ before.lo) (pos limit)

unfoldable pub next : ℕ → Ival62 → Ival62 → Ival62 → Ival62 → Ival62
next limit x e extra before = ends (low_end limit x e extra before) (high_end limit x e extra before)

abbrev pub nothing : Ival62
nothing = ends (pos 0) (pos 0)

unfoldable pub t_row : Ival62 → ℕ → Ival62
t_row x zero = ends (pos (2 ^ 60)) (pos (2 ^ 60))
t_row x (suc zero) = x
t_row x (suc (suc k)) = next (t_size (suc (suc k)) * 2 ^ t_unit) x (t_row x (suc k)) nothing (t_row x k)

-- 2 x is x / 2^9 in the unit of this row
unfoldable pub u_row : Ival62 → ℕ → Ival62
u_row x zero = ends (pos (2 ^ 50)) (pos (2 ^ 50))
u_row x (suc zero) = shifted 9 x
u_row x (suc (suc k)) = next (u_size (suc (suc k)) * 2 ^ u_unit) x (u_row x (suc k)) nothing (u_row x k)

-- 2 T is T / 2^13 in the unit of this row
unfoldable pub q_row : Ival62 → ℕ → Ival62
q_row x zero = nothing
q_row x (suc zero) = ends (pos (2 ^ 46)) (pos (2 ^ 46))
q_row x (suc (suc k)) = next (q_size (suc (suc k)) * 2 ^ q_unit) x (q_row x (suc k)) (shifted 13 (t_row x (suc k))) (q_row x k)

-- 2 U is U / 2^5 in the unit of this row
unfoldable pub r_row : Ival62 → ℕ → Ival62
r_row x zero = nothing
r_row x (suc zero) = ends (pos (2 ^ 45)) (pos (2 ^ 45))
r_row x (suc (suc k)) = next (r_size (suc (suc k)) * 2 ^ r_unit) x (r_row x (suc k)) (shifted 5 (u_row x (suc k))) (r_row x k)

-- the arguments from ua / length to ub / length
unfoldable pub argument_of : ℤ → ℤ → ℤ → Ival62
argument_of ua ub length = ends (floor_div (ua *ℤ pos (2 ^ 60)) (unsigned_abs length)) (ceil_div (ub *ℤ pos (2 ^ 60)) (unsigned_abs length))

-- e.lo / 2^s <= n / d <= e.hi / 2^s
pub record HoldsIn (s : ℕ) (e : Ival62) (n d : ℤ) : Type 0 where
  pub low : (e.lo *ℤ d) ≤ℤ (n *ℤ pos (2 ^ s))
  pub high : (n *ℤ pos (2 ^ s)) ≤ℤ (e.hi *ℤ d)

-- both ends are at most a limit in size
pub record EndsWithin (limit : ℕ) (e : Ival62) : Type 0 where
  pub lo : Within e.lo (pos limit)
  pub hi : Within e.hi (pos limit)

-- an interval of arguments: in order, and between -1 and 1
pub record IsArguments (e : Ival62) : Type 0 where
  pub unit : EndsWithin (2 ^ 60) e
  pub ordered : e.lo ≤ℤ e.hi

-- entry k of a row
abbrev pub entry : List Ival62 → ℕ → Ival62
entry row k = slice_index_or row k nothing
