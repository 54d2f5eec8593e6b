-- A quotient is no larger than what is divided.
use Rattle.std.proofs.Common.{◌/◌, ◌≤◌, ℕ, suc, ℤ, pos, negsuc}
use Rattle.std.specs.Prelude.{int_div, unsigned_abs}
use Rattle.std.proofs.Math.Nat.{div-le_self}
use Rattle.spec_numbers.proofs.Sizes.{unsigned_abs-neg}

pub quotient_small : (z : ℤ) (n : ℕ) → unsigned_abs (int_div z (pos n)) ≤ unsigned_abs z
quotient_small (pos m) n = div-le_self m n
quotient_small (negsuc m) n = rw (unsigned_abs-neg (pos (suc m / n))) (div-le_self (suc m) n)
