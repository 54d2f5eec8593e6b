-- The interval of arguments of a span of seconds.
use Rattle.std.proofs.Common.{ℕ, ◌*◌, ◌^◌, ◌<◌, ◌≤◌, arith, ℤ, pos, negsuc, ◌*ℤ◌, neg_ℤ, ◌≤ℤ◌, ◌<ℤ◌, unsigned_abs}
use Rattle.std.proofs.lemmas.Int.{ints}
use Rattle.spec_numbers.specs.Numbers.{floor_div, ceil_div}
use Rattle.spec_numbers.proofs.Order.{lin, le-mul}
use Rattle.spec_numbers.proofs.Floor.{floor_div-le, ceil_div-ge, floor_div-small, ceil_div-small, ordered_quotients}
use Rattle.spec_chebyshev.specs.Differences.{Within}
use Rattle.spec_chebyshev.specs.Rows.{argument_of, HoldsIn, IsArguments}

pub size_within : (z : ℤ) (m : ℕ) → unsigned_abs z ≤ m → Within z (pos m)
size_within z m h = record { low = omega (arith, ints); high = omega (arith, ints) }

pub within_size : (z : ℤ) (m : ℕ) → Within z (pos m) → unsigned_abs z ≤ m
within_size z m w = let l = w.low in let h = w.high in omega (arith, ints)

pub HoldsIn-argument : (ua ub u l : ℤ) → pos 0 <ℤ l → ua ≤ℤ u → u ≤ℤ ub → HoldsIn 60 (argument_of ua ub l) u l
unfolding argument_of
HoldsIn-argument ua ub u (negsuc n) p q r = absurd (omega (arith, ints))
HoldsIn-argument ua ub u (pos l) p q r =
    let l0 : 0 < l = omega (arith, ints) in
    let a : (floor_div (ua *ℤ pos (2 ^ 60)) l *ℤ pos l) ≤ℤ (ua *ℤ pos (2 ^ 60)) = floor_div-le (ua *ℤ pos (2 ^ 60)) l l0 in
    let b : (ub *ℤ pos (2 ^ 60)) ≤ℤ (ceil_div (ub *ℤ pos (2 ^ 60)) l *ℤ pos l) = ceil_div-ge (ub *ℤ pos (2 ^ 60)) l l0 in
    let c : (ua *ℤ pos (2 ^ 60)) ≤ℤ (u *ℤ pos (2 ^ 60)) = le-mul ua u (pos (2 ^ 60)) (omega (arith, lin)) q in
    let d : (u *ℤ pos (2 ^ 60)) ≤ℤ (ub *ℤ pos (2 ^ 60)) = le-mul u ub (pos (2 ^ 60)) (omega (arith, lin)) r in
    record { low = omega (arith, lin); high = omega (arith, lin) }

pub IsArguments-argument : (ua ub l : ℤ) → pos 0 <ℤ l → neg_ℤ l ≤ℤ ua → ua ≤ℤ ub → ub ≤ℤ l → IsArguments (argument_of ua ub l)
unfolding argument_of
IsArguments-argument ua ub (negsuc n) p q r s = absurd (omega (arith, ints))
IsArguments-argument ua ub (pos l) p q r s =
    let l0 : 0 < l = omega (arith, ints) in
    let a : unsigned_abs (ua *ℤ pos (2 ^ 60)) ≤ 2 ^ 60 * l = omega (arith, ints) in
    let b : unsigned_abs (ub *ℤ pos (2 ^ 60)) ≤ 2 ^ 60 * l = omega (arith, ints) in
    let o : (ua *ℤ pos (2 ^ 60)) ≤ℤ (ub *ℤ pos (2 ^ 60)) = le-mul ua ub (pos (2 ^ 60)) (omega (arith, lin)) r in
    record {
      unit = record {
        lo = size_within (floor_div (ua *ℤ pos (2 ^ 60)) l) (2 ^ 60) (floor_div-small (ua *ℤ pos (2 ^ 60)) l (2 ^ 60) l0 a);
        hi = size_within (ceil_div (ub *ℤ pos (2 ^ 60)) l) (2 ^ 60) (ceil_div-small (ub *ℤ pos (2 ^ 60)) l (2 ^ 60) l0 b);
      };
      ordered = ordered_quotients (ua *ℤ pos (2 ^ 60)) (ub *ℤ pos (2 ^ 60)) l l0 o;
    }
