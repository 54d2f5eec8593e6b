-- What an expression says, without its boxes; its two meanings, given those of its leaves; its size; and which are formulas.
use Rattle.std.specs.Prelude.{ℕ, ◌+◌, ◌<◌, ◌≤◌, ⊤, max, ℤ}
use Rattle.spec_text.specs.declared.decimals.Decimal.{Decimal}
use Rattle.spec_intervals.specs.Interval.{from_decimal, distance_exponent, cosine_exponent, IsDistance, IsCosine}
use Rattle.spec_intervals.specs.Fraction.{Fraction, decimal, fraction_add, fraction_sub, fraction_mul, fraction_signed_square}
use Rattle.spec_intervals.specs.Enclosure.{Enclosure, IsEnclosure, AllFractions, AllWithin, constant_of, sum_of, difference_of, product_of, signed_square_of}
use Rattle.spec_expressions.specs.declared.expressions.Expr.{Expr}
use Rattle.spec_expressions.specs.declared.expressions.Expr.TheVariants.{Pos, Vel, Length, Cosine, Add', Sub', Mul', SignedSquare'}

-- what changes with time by itself: a coordinate of a target, by the target's number and the axis
pub data Leaf : Type 0 where
  position : ℕ → ℕ → Leaf
  velocity : ℕ → ℕ → Leaf

-- a polynomial of leaves and constants, with the order of its operations
pub data Term : Type 0 where
  leaf : Leaf → Term
  length : Decimal → Term
  cosine : Decimal → Term
  sum : Term → Term → Term
  difference : Term → Term → Term
  product : Term → Term → Term
  signed_square : Term → Term

-- what an expression says
abbrev pub term : Expr → Term
term (Pos target axis) = leaf (position target axis)
term (Vel target axis) = leaf (velocity target axis)
term (Length km) = length km
term (Cosine number) = cosine number
term (Add' p x q y) = sum (term x) (term y)
term (Sub' p x q y) = difference (term x) (term y)
term (Mul' p x q y) = product (term x) (term y)
term (SignedSquare' p x) = signed_square (term x)

-- there are two targets and three axes
abbrev pub IsLeaf : Leaf → Type 0
IsLeaf (position target axis) = (target < 2) × (axis < 3)
IsLeaf (velocity target axis) = (target < 2) × (axis < 3)

-- ---- what is asked of the meanings of all leaves, over the times from a to b
abbrev pub LeavesAreNumbers : (Leaf → ℤ → Fraction) → ℤ → ℤ → Type 0
LeavesAreNumbers exact a b = (l : Leaf) → IsLeaf l → AllFractions (exact l) a b

abbrev pub LeavesAreEnclosed : (Leaf → ℤ → Fraction) → ℤ → ℤ → (Leaf → Enclosure) → Type 0
LeavesAreEnclosed exact a b answer = (l : Leaf) → IsLeaf l → IsEnclosure (exact l) a b (answer l)

abbrev pub LeavesAreWithin : ℕ → (Leaf → Enclosure) → Type 0
LeavesAreWithin n answer = (l : Leaf) → IsLeaf l → AllWithin n (answer l)

-- ---- the first meaning: the exact value at a time, given that of each leaf
abbrev pub exact_of : (Leaf → ℤ → Fraction) → Term → ℤ → Fraction
exact_of exact (leaf l) t = exact l t
exact_of exact (length d) t = decimal d.mant d.exp
exact_of exact (cosine d) t = decimal d.mant d.exp
exact_of exact (sum x y) t = fraction_add (exact_of exact x t) (exact_of exact y t)
exact_of exact (difference x y) t = fraction_sub (exact_of exact x t) (exact_of exact y t)
exact_of exact (product x y) t = fraction_mul (exact_of exact x t) (exact_of exact y t)
exact_of exact (signed_square x) t = fraction_signed_square (exact_of exact x t)

-- ---- the second: the enclosure over the times from a to b, given that of each leaf
abbrev pub enclosure_of : (Leaf → Enclosure) → ℤ → ℤ → Term → Enclosure
enclosure_of answer a b (leaf l) = answer l
enclosure_of answer a b (length d) = constant_of a b (from_decimal d.mant d.exp distance_exponent)
enclosure_of answer a b (cosine d) = constant_of a b (from_decimal d.mant d.exp cosine_exponent)
enclosure_of answer a b (sum x y) = sum_of a b (enclosure_of answer a b x) (enclosure_of answer a b y)
enclosure_of answer a b (difference x y) = difference_of a b (enclosure_of answer a b x) (enclosure_of answer a b y)
enclosure_of answer a b (product x y) = product_of a b (enclosure_of answer a b x) (enclosure_of answer a b y)
enclosure_of answer a b (signed_square x) = signed_square_of a b (enclosure_of answer a b x)

-- ---- the size of a term
abbrev pub nodes : Term → ℕ
nodes (leaf l) = 1
nodes (length d) = 1
nodes (cosine d) = 1
nodes (sum x y) = 1 + nodes x + nodes y
nodes (difference x y) = 1 + nodes x + nodes y
nodes (product x y) = 1 + nodes x + nodes y
nodes (signed_square x) = 1 + nodes x

-- the degree of the polynomial: leaves count 1, constants too, products add and sums take the greater
abbrev pub degree : Term → ℕ
degree (leaf l) = 1
degree (length d) = 1
degree (cosine d) = 1
degree (sum x y) = max (degree x) (degree y)
degree (difference x y) = max (degree x) (degree y)
degree (product x y) = degree x + degree y
degree (signed_square x) = degree x + degree x

-- ---- formulas
-- each length is below 2^36 km in size and each cosine at most 1
abbrev pub HasConstants : Term → Type 0
HasConstants (leaf l) = ⊤
HasConstants (length d) = IsDistance d.mant d.exp
HasConstants (cosine d) = IsCosine d.mant d.exp
HasConstants (sum x y) = HasConstants x × HasConstants y
HasConstants (difference x y) = HasConstants x × HasConstants y
HasConstants (product x y) = HasConstants x × HasConstants y
HasConstants (signed_square x) = HasConstants x

-- each leaf is a coordinate that there is
abbrev pub HasLeaves : Term → Type 0
HasLeaves (leaf l) = IsLeaf l
HasLeaves (length d) = ⊤
HasLeaves (cosine d) = ⊤
HasLeaves (sum x y) = HasLeaves x × HasLeaves y
HasLeaves (difference x y) = HasLeaves x × HasLeaves y
HasLeaves (product x y) = HasLeaves x × HasLeaves y
HasLeaves (signed_square x) = HasLeaves x

abbrev pub node_limit : ℕ
node_limit = 128

abbrev pub degree_limit : ℕ
degree_limit = 16

pub record IsFormula (e : Term) : Type 0 where
  pub leaves : HasLeaves e
  pub nodes_within : nodes e ≤ node_limit
  pub degree_within : degree e ≤ degree_limit
  pub constants : HasConstants e

-- the greatest exponents of the leaves and of every part of a formula's enclosure
abbrev pub leaf_exponent : ℕ
leaf_exponent = 1024

abbrev pub part_exponent : ℕ
part_exponent = 24000
