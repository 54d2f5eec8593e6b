-- Which nodes a certificate may cut.
use Rattle.std.proofs.Common.{◌≡◌, ◌<◌, ◌≤◌, ◌&&◌, ◌||◌, ℕ, nat_lt, Bool, true, false, ℤ, pos, ◌<ℤ◌, ◌≤ℤ◌, int_lt, arith}
use Rattle.std.proofs.lemmas.Int.{ints}

pub cut_above : (width : ℤ) (crosses : Bool) (depth most : ℕ) → pos 1 <ℤ width → depth < most
    → (int_lt (pos 1) width && (crosses || nat_lt depth most)) ≡ true
cut_above width crosses depth most wide above = grind (arith, ints)

pub cut_at_border : (width : ℤ) (crosses deep : Bool) → pos 1 <ℤ width → crosses ≡ true → (int_lt (pos 1) width && (crosses || deep)) ≡ true
cut_at_border width crosses deep wide border = grind (arith, ints)

pub not_narrow : (width : ℤ) (deep : Bool) → width ≤ℤ pos 1 → (int_lt (pos 1) width && deep) ≡ false
not_narrow width deep narrow = grind (arith, ints)

pub not_below : (width : ℤ) (crosses : Bool) (depth most : ℕ) → crosses ≡ false → most ≤ depth
    → (int_lt (pos 1) width && (crosses || nat_lt depth most)) ≡ false
not_below width crosses depth most inside below = grind (arith, ints)
