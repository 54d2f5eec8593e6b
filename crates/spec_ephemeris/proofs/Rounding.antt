-- The pair of a number below 2^36 in size has ends of at most 2^60, and each number of a body has its pair.
use Rattle.std.proofs.Common.{◌≡◌, ◌*◌, ◌^◌, ◌≤◌, ℕ, List, map, nat_le, true, arith, refl, ℤ, pos, negsuc, unsigned_abs}
use Rattle.std.proofs.lemmas.Int.{unsigned_abs-mul}
use Rattle.spec_text.specs.declared.decimals.Decimal.{Decimal}
use Rattle.spec_ephemeris.specs.declared.limits.TheConstants.{BODY_COLUMNS}
use Rattle.spec_intervals.specs.Interval.{IsDistance, decimal_top, decimal_bottom, from_decimal}
use Rattle.spec_numbers.proofs.Floor.{floor_div-small, ceil_div-small}
use Rattle.spec_intervals.proofs.Decimals.{bottom_pos}
use Rattle.spec_intervals.proofs.DecimalEnds.{distance-size}
use Rattle.spec_ephemeris.specs.Rounding.{pair_of, pairs_of}
use borrow.Author.Differences.{up, down}

top_size : (m q : ℤ) → IsDistance m q → unsigned_abs (decimal_top m q (negsuc 23)) ≤ 2 ^ 60 * decimal_bottom q (negsuc 23)
top_size m q h =
    let e : unsigned_abs (decimal_top m q (negsuc 23)) ≡ unsigned_abs m * (10 ^ up q * 2 ^ 24) = unsigned_abs-mul m (pos (10 ^ up q * 2 ^ 24)) in
    let g : unsigned_abs m * (10 ^ up q * 2 ^ 24) ≤ 2 ^ 60 * 10 ^ down q = distance-size m q (negsuc 23) refl h in
    rw e (omega (arith, g))

pub low_size : (d : Decimal) → IsDistance d.mant d.exp → unsigned_abs (pair_of d).lo ≤ 2 ^ 60
unfolding from_decimal
low_size d h = floor_div-small (decimal_top d.mant d.exp (negsuc 23)) (decimal_bottom d.exp (negsuc 23)) (2 ^ 60) (bottom_pos d.exp (negsuc 23)) (top_size d.mant d.exp h)

pub high_size : (d : Decimal) → IsDistance d.mant d.exp → unsigned_abs (pair_of d).hi ≤ 2 ^ 60
unfolding from_decimal
high_size d h = ceil_div-small (decimal_top d.mant d.exp (negsuc 23)) (decimal_bottom d.exp (negsuc 23)) (2 ^ 60) (bottom_pos d.exp (negsuc 23)) (top_size d.mant d.exp h)

-- each number of a body has its pair
pub pairs_of_body : (number : ℕ) (numbers : List Decimal) → number ≤ BODY_COLUMNS → map pair_of numbers ≡ pairs_of number numbers
pairs_of_body number numbers body = let holds : nat_le number BODY_COLUMNS ≡ true = grind (arith, body) in rw holds refl
