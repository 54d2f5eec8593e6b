-- The exponents of a term's enclosure stay within a bound that its shape tells.
use Rattle.std.proofs.Common.{◌≡◌, ℕ, ◌+◌, ◌*◌, max, ◌≤◌, arith, ℤ}
use Rattle.std.proofs.lemmas.Nat.{mul-le}
use Rattle.std.proofs.Math.Nat.{mul-add, add-mul}
use Rattle.spec_intervals.specs.Interval.{from_decimal, distance_exponent, cosine_exponent}
use Rattle.spec_intervals.specs.Enclosure.{Enclosure, IsSpan, AllWithin}
use Rattle.spec_expressions.specs.Term.{Leaf, Term, leaf, length, cosine, sum, difference, product, signed_square, IsLeaf, leaf_exponent, part_exponent, enclosure_of, nodes, degree, HasLeaves, HasConstants, IsFormula}
use Rattle.spec_intervals.proofs.Exponents.{IsWithin-more, within-between, distance-within, cosine-within}
use Rattle.spec_intervals.proofs.EnclosureExponents.{AreBetween, all-more, all_within-between, between-all_within, constant_of-between, sum_of-between, difference_of-between, product_of-between, signed_square_of-between}

-- ---- by the shape of the term
abbrev pub reach : ℕ → Term → ℕ
reach l (leaf k) = l
reach l (length d) = l
reach l (cosine d) = l
reach l (sum x y) = max (reach l x) (reach l y) + 1
reach l (difference x y) = max (reach l x) (reach l y) + 1
reach l (product x y) = reach l x + reach l y + 126
reach l (signed_square x) = reach l x + reach l x + 126

module _ (a b : ℤ) (span : IsSpan a b) (l : ℕ) (least : 60 ≤ l) (answer : Leaf → Enclosure) (leaves : (k : Leaf) → IsLeaf k → AllWithin l (answer k)) where
  -- two operands, at the limits of the one that reaches further
  module _ (m n : ℕ) (x y : Enclosure) (p : AreBetween m m x) (q : AreBetween n n y) where
    first : AreBetween (max m n) (max m n) x
    first = all-more m m (max m n) (max m n) x (omega arith) (omega arith) p

    second : AreBetween (max m n) (max m n) y
    second = all-more n n (max m n) (max m n) y (omega arith) (omega arith) q

  one_higher : (n : ℕ) (e : Enclosure) → AreBetween n (n + 1) e → AreBetween (n + 1) (n + 1) e
  one_higher n e p = all-more n (n + 1) (n + 1) (n + 1) e (omega arith) (omega arith) p

  higher : (n : ℕ) (e : Enclosure) → AreBetween n (n + 126) e → AreBetween (n + 126) (n + 126) e
  higher n e p = all-more n (n + 126) (n + 126) (n + 126) e (omega arith) (omega arith) p

  pub AreBetween-of : (e : Term) → HasLeaves e → HasConstants e → AreBetween (reach l e) (reach l e) (enclosure_of answer a b e)
  AreBetween-of (leaf k) h c = all_within-between l (answer k) (leaves k h)
  AreBetween-of (length d) h c = constant_of-between a b span l l (from_decimal d.mant d.exp distance_exponent) (within-between l _ (IsWithin-more 24 l (from_decimal d.mant d.exp distance_exponent) (omega arith) (distance-within d.mant d.exp c)))
  AreBetween-of (cosine d) h c = constant_of-between a b span l l (from_decimal d.mant d.exp cosine_exponent) (within-between l _ (IsWithin-more 60 l (from_decimal d.mant d.exp cosine_exponent) least (cosine-within d.mant d.exp c)))
  AreBetween-of (sum x y) h c =
      let s = AreBetween-of x h.0 c.0 in
      let t = AreBetween-of y h.1 c.1 in
      one_higher (max (reach l x) (reach l y)) _ (sum_of-between a b span (max (reach l x) (reach l y)) (max (reach l x) (reach l y)) (enclosure_of answer a b x) (enclosure_of answer a b y) (first (reach l x) (reach l y) (enclosure_of answer a b x) (enclosure_of answer a b y) s t) (second (reach l x) (reach l y) (enclosure_of answer a b x) (enclosure_of answer a b y) s t))
  AreBetween-of (difference x y) h c =
      let s = AreBetween-of x h.0 c.0 in
      let t = AreBetween-of y h.1 c.1 in
      one_higher (max (reach l x) (reach l y)) _ (difference_of-between a b span (max (reach l x) (reach l y)) (max (reach l x) (reach l y)) (enclosure_of answer a b x) (enclosure_of answer a b y) (first (reach l x) (reach l y) (enclosure_of answer a b x) (enclosure_of answer a b y) s t) (second (reach l x) (reach l y) (enclosure_of answer a b x) (enclosure_of answer a b y) s t))
  AreBetween-of (product x y) h c = higher (reach l x + reach l y) _ (product_of-between a b span (reach l x) (reach l x) (reach l y) (reach l y) (enclosure_of answer a b x) (enclosure_of answer a b y) (AreBetween-of x h.0 c.0) (AreBetween-of y h.1 c.1))
  AreBetween-of (signed_square x) h c = higher (reach l x + reach l x) _ (signed_square_of-between a b span (reach l x) (reach l x) (enclosure_of answer a b x) (AreBetween-of x h c))

-- ---- and by its degree and its number of nodes
degree_pos : (e : Term) → 1 ≤ degree e
degree_pos (leaf k) = omega arith
degree_pos (length d) = omega arith
degree_pos (cosine d) = omega arith
degree_pos (sum x y) = let h = degree_pos x in omega arith
degree_pos (difference x y) = let h = degree_pos x in omega arith
degree_pos (product x y) = let h = degree_pos x in omega arith
degree_pos (signed_square x) = let h = degree_pos x in omega arith

sum_bound : (r r' d d' n n' c : ℕ) → 1 ≤ d → r + 126 ≤ d * (c + n) → r' + 126 ≤ d' * (c + n') → max r r' + 1 + 126 ≤ max d d' * (c + (1 + n + n'))
sum_bound r r' d d' n n' c o p q =
    let u : d * (c + n) ≤ max d d' * (c + n + n') = mul-le d (c + n) (max d d') (c + n + n') (omega arith) (omega arith) in
    let w : d' * (c + n') ≤ max d d' * (c + n + n') = mul-le d' (c + n') (max d d') (c + n + n') (omega arith) (omega arith) in
    let e : max d d' * (c + n + n' + 1) ≡ max d d' * (c + n + n') + max d d' * 1 = mul-add (max d d') (c + n + n') 1 in
    let f : c + (1 + n + n') ≡ c + n + n' + 1 = omega arith in
    rw f (omega arith)

product_bound : (r r' d d' n n' c : ℕ) → r + 126 ≤ d * (c + n) → r' + 126 ≤ d' * (c + n') → r + r' + 126 + 126 ≤ (d + d') * (c + (1 + n + n'))
product_bound r r' d d' n n' c p q =
    let u : d * (c + n) ≤ d * (c + (1 + n + n')) = mul-le d (c + n) d (c + (1 + n + n')) (omega arith) (omega arith) in
    let w : d' * (c + n') ≤ d' * (c + (1 + n + n')) = mul-le d' (c + n') d' (c + (1 + n + n')) (omega arith) (omega arith) in
    let e : (d + d') * (c + (1 + n + n')) ≡ d * (c + (1 + n + n')) + d' * (c + (1 + n + n')) = add-mul d d' (c + (1 + n + n')) in
    rw e (omega arith)

square_bound : (r d n c : ℕ) → r + 126 ≤ d * (c + n) → r + r + 126 + 126 ≤ (d + d) * (c + (1 + n))
square_bound r d n c p =
    let u : d * (c + n) ≤ d * (c + (1 + n)) = mul-le d (c + n) d (c + (1 + n)) (omega arith) (omega arith) in
    let e : (d + d) * (c + (1 + n)) ≡ d * (c + (1 + n)) + d * (c + (1 + n)) = add-mul d d (c + (1 + n)) in
    rw e (omega arith)

pub reach-le : (l : ℕ) (e : Term) → reach l e + 126 ≤ degree e * (l + 126 + nodes e)
reach-le l (leaf k) = omega arith
reach-le l (length d) = omega arith
reach-le l (cosine d) = omega arith
reach-le l (sum x y) = sum_bound (reach l x) (reach l y) (degree x) (degree y) (nodes x) (nodes y) (l + 126) (degree_pos x) (reach-le l x) (reach-le l y)
reach-le l (difference x y) = sum_bound (reach l x) (reach l y) (degree x) (degree y) (nodes x) (nodes y) (l + 126) (degree_pos x) (reach-le l x) (reach-le l y)
reach-le l (product x y) = product_bound (reach l x) (reach l y) (degree x) (degree y) (nodes x) (nodes y) (l + 126) (reach-le l x) (reach-le l y)
reach-le l (signed_square x) = square_bound (reach l x) (degree x) (nodes x) (l + 126) (reach-le l x)

-- leaves within 1,024, at most 128 nodes and a degree of at most 16 keep every exponent within 24,000
reach-limits : (e : Term) → nodes e ≤ 128 → degree e ≤ 16 → reach 1024 e ≤ 20322
reach-limits e p q =
    let h = reach-le 1024 e in
    let u : degree e * (1024 + 126 + nodes e) ≤ 16 * (1024 + 126 + 128) = mul-le (degree e) (1024 + 126 + nodes e) 16 (1024 + 126 + 128) q (omega arith) in
    omega arith

pub AllWithin-of : (a b : ℤ) → IsSpan a b → (answer : Leaf → Enclosure) → ((k : Leaf) → IsLeaf k → AllWithin leaf_exponent (answer k)) → (e : Term) → IsFormula e → AllWithin part_exponent (enclosure_of answer a b e)
AllWithin-of a b span answer leaves e h =
    let r = reach-limits e h.nodes_within h.degree_within in
    let f = AreBetween-of a b span leaf_exponent (omega arith) answer leaves e h.leaves h.constants in
    between-all_within (reach 1024 e) (reach 1024 e) 24000 (enclosure_of answer a b e) (omega arith) (omega arith) f
