-- Every term over leaves that are enclosed is enclosed.
use Rattle.std.proofs.Common.{arith, ℤ, ◌≤ℤ◌}
use Rattle.std.proofs.Math.Nat.{one-le-pow}
use borrow.Author.Differences.{down}
use Rattle.spec_intervals.proofs.Decimals.{Holds-from_decimal}
use Rattle.spec_intervals.specs.Interval.{distance_exponent, cosine_exponent, from_decimal}
use Rattle.spec_intervals.specs.Fraction.{Fraction, IsFraction, decimal}
use Rattle.spec_intervals.specs.Enclosure.{Enclosure, IsEnclosure, AllFractions}
use Rattle.spec_expressions.specs.Term.{Leaf, Term, leaf, length, cosine, sum, difference, product, signed_square, IsLeaf, exact_of, enclosure_of, HasLeaves}
use Rattle.spec_numbers.proofs.Naturals.{positive_product}
use Rattle.spec_intervals.proofs.Enclosed.{IsEnclosure-constant, IsEnclosure-sum, IsEnclosure-difference, IsEnclosure-product, IsEnclosure-signed_square}

pub IsFraction-decimal : (m q : ℤ) → IsFraction (decimal m q)
IsFraction-decimal m q = one-le-pow (down q) 10 (omega arith)

module _ (exact : Leaf → ℤ → Fraction) (a b : ℤ) (numbers : (l : Leaf) → IsLeaf l → AllFractions (exact l) a b) where
  pub AllFractions-of : (e : Term) → HasLeaves e → AllFractions (exact_of exact e) a b
  AllFractions-of (leaf k) h t p q = numbers k h t p q
  AllFractions-of (length d) h t p q = IsFraction-decimal d.mant d.exp
  AllFractions-of (cosine d) h t p q = IsFraction-decimal d.mant d.exp
  AllFractions-of (sum x y) h t p q = positive_product _ _ (AllFractions-of x h.0 t p q) (AllFractions-of y h.1 t p q)
  AllFractions-of (difference x y) h t p q = positive_product _ _ (AllFractions-of x h.0 t p q) (AllFractions-of y h.1 t p q)
  AllFractions-of (product x y) h t p q = positive_product _ _ (AllFractions-of x h.0 t p q) (AllFractions-of y h.1 t p q)
  AllFractions-of (signed_square x) h t p q = positive_product _ _ (AllFractions-of x h t p q) (AllFractions-of x h t p q)

  module _ (ab : a ≤ℤ b) (answer : Leaf → Enclosure) (leaves : (l : Leaf) → IsLeaf l → IsEnclosure (exact l) a b (answer l)) where
    pub IsEnclosure-of : (e : Term) → HasLeaves e → IsEnclosure (exact_of exact e) a b (enclosure_of answer a b e)
    IsEnclosure-of (leaf k) h = leaves k h
    IsEnclosure-of (length d) h = IsEnclosure-constant a b ab (decimal d.mant d.exp) (IsFraction-decimal d.mant d.exp) (from_decimal d.mant d.exp distance_exponent) (Holds-from_decimal d.mant d.exp distance_exponent)
    IsEnclosure-of (cosine d) h = IsEnclosure-constant a b ab (decimal d.mant d.exp) (IsFraction-decimal d.mant d.exp) (from_decimal d.mant d.exp cosine_exponent) (Holds-from_decimal d.mant d.exp cosine_exponent)
    IsEnclosure-of (sum x y) h = IsEnclosure-sum a b ab (exact_of exact x) (exact_of exact y) (AllFractions-of x h.0) (AllFractions-of y h.1) _ _ (IsEnclosure-of x h.0) (IsEnclosure-of y h.1)
    IsEnclosure-of (difference x y) h = IsEnclosure-difference a b ab (exact_of exact x) (exact_of exact y) (AllFractions-of x h.0) (AllFractions-of y h.1) _ _ (IsEnclosure-of x h.0) (IsEnclosure-of y h.1)
    IsEnclosure-of (product x y) h = IsEnclosure-product a b ab (exact_of exact x) (exact_of exact y) (AllFractions-of x h.0) (AllFractions-of y h.1) _ _ (IsEnclosure-of x h.0) (IsEnclosure-of y h.1)
    IsEnclosure-of (signed_square x) h = IsEnclosure-signed_square a b ab (exact_of exact x) (AllFractions-of x h) _ (IsEnclosure-of x h)
