-- The Chebyshev polynomials T_k and U_k cleared of fractions: at x = u / l they are whole numbers over l^k.
-- The recurrence is P_(k+2) = 2 x P_(k+1) - P_k, multiplied by l^(k+2).
use Rattle.std.specs.Prelude.{ℕ, zero, suc, ℤ, pos, ◌-ℤ◌, ◌*ℤ◌}

-- T_k(u / l) * l^k
abbrev pub cleared_t : ℤ → ℤ → ℕ → ℤ
cleared_t u l zero = pos 1
cleared_t u l (suc zero) = u
cleared_t u l (suc (suc k)) = pos 2 *ℤ u *ℤ cleared_t u l (suc k) -ℤ l *ℤ l *ℤ cleared_t u l k

-- U_k(u / l) * l^k
abbrev pub cleared_u : ℤ → ℤ → ℕ → ℤ
cleared_u u l zero = pos 1
cleared_u u l (suc zero) = pos 2 *ℤ u
cleared_u u l (suc (suc k)) = pos 2 *ℤ u *ℤ cleared_u u l (suc k) -ℤ l *ℤ l *ℤ cleared_u u l k
