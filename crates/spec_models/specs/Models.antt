-- Models: polynomials in an argument p / q from -1 to 1, each with a bound of error, in whole numbers.
use Rattle.std.specs.Prelude.{ℕ, zero, suc, ◌+◌, ◌-◌, ◌*◌, ◌/◌, ◌^◌, ℤ, pos, neg_ℤ, ◌+ℤ◌, ◌-ℤ◌, ◌*ℤ◌, unsigned_abs, List, [], ◌∷◌, length, take, drop, slice_index_or}
use borrow.Author.Differences.{up, down}
use Rattle.spec_numbers.specs.Numbers.{floor_div, power}
use Rattle.spec_intervals.specs.Interval.{Interval}
use Rattle.spec_intervals.specs.Fraction.{Fraction, fraction, IsFraction}
use Rattle.spec_models.specs.Ends.{NoMore, low, high}

-- coefficients of 1, of p / q, of its square, .., and how far what is modelled may be from that polynomial at most;
-- all in units of 2^exponent
pub record Model : Type 0 where
  pub coefficients : List ℤ
  pub error : ℕ
  pub exponent : ℤ

abbrev pub model : List ℤ → ℕ → ℤ → Model
model xs e s = record { coefficients = xs; error = e; exponent = s }

-- ---- the polynomial at an argument
-- the sum of a_k p^k q^(d - k); over q^d it is the polynomial at p / q. No k is past d
abbrev pub at : ℤ → ℤ → ℕ → List ℤ → ℤ
at p q d [] = pos 0
at p q zero (x ∷ xs) = x
at p q (suc d) (x ∷ xs) = x *ℤ power q (suc d) +ℤ p *ℤ at p q d xs

-- the number of coefficients
abbrev pub degree : Model → ℕ
degree m = length m.coefficients

-- the polynomial at p / q, and z units more
abbrev pub beside : ℤ → Model → ℤ → ℤ → Fraction
beside z m p q = fraction ((at p q (degree m) m.coefficients +ℤ z *ℤ power q (degree m)) *ℤ pos (2 ^ up m.exponent)) (unsigned_abs (power q (degree m)) * 2 ^ down m.exponent)

abbrev pub value : Model → ℤ → ℤ → Fraction
value m p q = beside (pos 0) m p q

-- r is within the error of the polynomial at p / q
pub record IsNear (m : Model) (p q : ℤ) (r : Fraction) : Type 0 where
  pub is_fraction : IsFraction r
  pub low : NoMore (beside (neg_ℤ (pos m.error)) m p q) r
  pub high : NoMore r (beside (pos m.error) m p q)

-- both ends of an interval are
pub record Covers (m : Model) (p q : ℤ) (x : Interval) : Type 0 where
  pub low : IsNear m p q (low x)
  pub high : IsNear m p q (high x)

-- ---- sizes
-- the sum of |a_k|
abbrev pub sizes : List ℤ → ℕ
sizes [] = 0
sizes (x ∷ xs) = unsigned_abs x + sizes xs

-- no number near a model is past so many units in size
abbrev pub bulk : Model → ℕ
bulk m = sizes m.coefficients + m.error

-- the sum of (n + k) |a_k|
abbrev pub weighted_sizes : ℕ → List ℤ → ℕ
weighted_sizes n [] = 0
weighted_sizes n (x ∷ xs) = n * unsigned_abs x + weighted_sizes (suc n) xs

-- the sum of k |a_k|: so many units the polynomial changes at most where the argument changes by 1
abbrev pub slope : List ℤ → ℕ
slope xs = weighted_sizes 0 xs

-- the sum of (n + k + 1) (n + k) |a_k|
abbrev pub bent_sizes : ℕ → List ℤ → ℕ
bent_sizes n [] = 0
bent_sizes n (x ∷ xs) = suc n * n * unsigned_abs x + bent_sizes (suc n) xs

-- the sum of k (k - 1) |a_k|: so many units the derivative changes at most where the argument changes by 1
abbrev pub curvature : List ℤ → ℕ
curvature [] = 0
curvature (x ∷ xs) = bent_sizes 0 xs

-- ---- lists of coefficients
-- coefficient k, and 0 past the last
abbrev pub coefficient : List ℤ → ℕ → ℤ
coefficient xs k = slice_index_or xs k (pos 0)

abbrev pub added : List ℤ → List ℤ → List ℤ
added [] ys = ys
added (x ∷ xs) [] = x ∷ xs
added (x ∷ xs) (y ∷ ys) = (x +ℤ y) ∷ added xs ys

abbrev pub multiplied : ℤ → List ℤ → List ℤ
multiplied c [] = []
multiplied c (x ∷ xs) = (c *ℤ x) ∷ multiplied c xs

abbrev pub opposite : List ℤ → List ℤ
opposite [] = []
opposite (x ∷ xs) = neg_ℤ x ∷ opposite xs

-- the sum of a_j b_(k - j) at k
abbrev pub convolved : List ℤ → List ℤ → List ℤ
convolved [] ys = []
convolved (x ∷ xs) ys = added (multiplied x ys) (pos 0 ∷ convolved xs ys)

-- the sum of a_j b_(k - j) over j < n
abbrev pub products_upto : ℕ → ℕ → List ℤ → List ℤ → ℤ
products_upto zero k xs ys = pos 0
products_upto (suc n) k xs ys = products_upto n k xs ys +ℤ coefficient xs n *ℤ coefficient ys (k - n)

-- (n + k) a_k at k
abbrev pub by_place : ℕ → List ℤ → List ℤ
by_place n [] = []
by_place n (x ∷ xs) = (pos n *ℤ x) ∷ by_place (suc n) xs

-- (k + 1) a_(k + 1) at k
abbrev pub derivative : List ℤ → List ℤ
derivative [] = []
derivative (x ∷ xs) = by_place 1 xs

abbrev pub halved : ℕ → List ℤ → List ℤ
halved k [] = []
halved k (x ∷ xs) = floor_div x (2 ^ k) ∷ halved k xs

-- ---- models from models
-- a greater error
abbrev pub widened : ℕ → Model → Model
widened d m = model m.coefficients (m.error + d) m.exponent

-- in units that are 2^k as great: the error is rounded up, and one unit more for what each coefficient loses
abbrev pub raised : ℕ → Model → Model
raised k m = model (halved k m.coefficients) (suc (m.error / 2 ^ k) + length m.coefficients) (m.exponent +ℤ pos k)

-- the same in units that 2^k is as great as
abbrev pub lowered : ℕ → Model → Model
lowered k m = model (multiplied (pos (2 ^ k)) m.coefficients) (m.error * 2 ^ k) (m.exponent -ℤ pos k)

-- the first n coefficients, with the others in the error
abbrev pub cut : ℕ → Model → Model
cut n m = model (take n m.coefficients) (m.error + sizes (drop n m.coefficients)) m.exponent

abbrev pub negated : Model → Model
negated m = model (opposite m.coefficients) m.error m.exponent

-- of two models with one exponent
abbrev pub sum_model : Model → Model → Model
sum_model m n = model (added m.coefficients n.coefficients) (m.error + n.error) m.exponent

abbrev pub difference_model : Model → Model → Model
difference_model m n = sum_model m (negated n)

-- of any two
abbrev pub product_model : Model → Model → Model
product_model m n = model (convolved m.coefficients n.coefficients) (sizes m.coefficients * n.error + sizes n.coefficients * m.error + m.error * n.error) (m.exponent +ℤ n.exponent)

-- a number, known within an error, and the argument p / q itself
abbrev pub constant : ℤ → ℕ → ℤ → Model
constant a e s = model (a ∷ []) e s

abbrev pub argument : Model
argument = model (pos 0 ∷ pos 1 ∷ []) 0 (pos 0)
