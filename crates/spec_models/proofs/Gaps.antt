-- How far one exponent is below another.
use Rattle.std.proofs.Common.{◌≡◌, ℕ, arith, ℤ, pos, negsuc, ◌+ℤ◌, ◌-ℤ◌, ◌≤ℤ◌}
use Rattle.std.specs.Int.{int_gap}
use Rattle.spec_numbers.proofs.Order.{lin}

-- it reaches, wherever it begins
pub gap-reaches : (a b : ℤ) → b ≤ℤ (a +ℤ pos (int_gap a b))
gap-reaches (pos a) (pos b) = omega (arith, lin)
gap-reaches (pos a) (negsuc b) = omega (arith, lin)
gap-reaches (negsuc a) (pos b) = omega (arith, lin)
gap-reaches (negsuc a) (negsuc b) = omega (arith, lin)

-- and back down to where it began
pub brought : (b a : ℤ) (k : ℕ) → b ≡ a +ℤ pos k → b -ℤ pos k ≡ a
brought b a k e = omega (arith, lin)
