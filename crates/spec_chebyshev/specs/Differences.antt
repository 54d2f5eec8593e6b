-- The divided differences of the Chebyshev polynomials, cleared of fractions: for x' = a / l and x = u / l,
-- (P_k(x') - P_k(x)) / (x' - x) is a whole number over l^(k-1).
use Rattle.std.specs.Prelude.{ℕ, zero, suc, ℤ, pos, neg_ℤ, ◌+ℤ◌, ◌-ℤ◌, ◌*ℤ◌, ◌≤ℤ◌, ◌<ℤ◌}
use Rattle.spec_chebyshev.specs.Polynomials.{cleared_t, cleared_u}

-- of T_k: Q_(k+2) = 2 x Q_(k+1) + 2 T_(k+1)(x') - Q_k
abbrev pub difference_t : ℤ → ℤ → ℤ → ℕ → ℤ
difference_t a u l zero = pos 0
difference_t a u l (suc zero) = pos 1
difference_t a u l (suc (suc k)) = pos 2 *ℤ u *ℤ difference_t a u l (suc k) +ℤ pos 2 *ℤ cleared_t a l (suc k) -ℤ l *ℤ l *ℤ difference_t a u l k

-- of U_k: R_(k+2) = 2 x R_(k+1) + 2 U_(k+1)(x') - R_k
abbrev pub difference_u : ℤ → ℤ → ℤ → ℕ → ℤ
difference_u a u l zero = pos 0
difference_u a u l (suc zero) = pos 2
difference_u a u l (suc (suc k)) = pos 2 *ℤ u *ℤ difference_u a u l (suc k) +ℤ pos 2 *ℤ cleared_u a l (suc k) -ℤ l *ℤ l *ℤ difference_u a u l k

-- the sum of f_j U_(m-1-j+i)(x) over j < m
abbrev pub weighted_sum : (ℕ → ℤ) → ℤ → ℤ → ℕ → ℕ → ℤ
weighted_sum f u l zero i = pos 0
weighted_sum f u l (suc m) i = weighted_sum f u l m (suc i) +ℤ f m *ℤ cleared_u u l i

-- the weights that make the divided differences: T_0 and 2 T_j, and 2 U_j, at x'
abbrev pub t_weight : ℤ → ℤ → ℕ → ℤ
t_weight a l zero = pos 1
t_weight a l (suc j) = pos 2 *ℤ cleared_t a l (suc j)

abbrev pub u_weight : ℤ → ℤ → ℕ → ℤ
u_weight a l j = pos 2 *ℤ cleared_u a l j

-- u / l is an argument: it lies between -1 and 1
pub record IsArgument (u l : ℤ) : Type 0 where
  pub positive : pos 0 <ℤ l
  pub low : neg_ℤ l ≤ℤ u
  pub high : u ≤ℤ l

-- z is at most b in size
pub record Within (z b : ℤ) : Type 0 where
  pub low : neg_ℤ b ≤ℤ z
  pub high : z ≤ℤ b
