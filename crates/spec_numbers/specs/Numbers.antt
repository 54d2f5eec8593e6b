-- Quotients and powers of whole numbers, and numbers below 0.
use Rattle.std.specs.Prelude.{ℕ, zero, suc, ℤ, pos, neg_ℤ, ◌*ℤ◌}
use lib.Signed.{shr_z}

-- -n
abbrev pub minus : ℕ → ℤ
minus n = neg_ℤ (pos n)

-- z / d rounded down, and rounded up, for d > 0
abbrev pub floor_div : ℤ → ℕ → ℤ
floor_div z d = shr_z z d

abbrev pub ceil_div : ℤ → ℕ → ℤ
ceil_div z d = neg_ℤ (shr_z (neg_ℤ z) d)

-- z^n
abbrev pub power : ℤ → ℕ → ℤ
power z zero = pos 1
power z (suc n) = z *ℤ power z n
