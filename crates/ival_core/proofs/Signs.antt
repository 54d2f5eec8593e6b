-- The least and the greatest of four products of ends in order, by their signs.
use Rattle.std.proofs.Common.{◌≡◌, arith, ℤ, pos, ◌*ℤ◌, ◌≤ℤ◌, ◌∙◌}
use Rattle.std.proofs.lemmas.Int.{ints}
use Rattle.std.specs.Int.{int_min, int_max}
use Rattle.spec_intervals.specs.Interval.{least4, greatest4}
use Rattle.spec_numbers.proofs.Order.{lin, le-mul, le-mul_neg}
use Rattle.spec_numbers.proofs.Whole.{mul_comm}

pub min_first : (p q : ℤ) → p ≤ℤ q → p ≡ int_min p q
min_first p q h = grind (arith, ints)

pub min_second : (p q : ℤ) → q ≤ℤ p → q ≡ int_min p q
min_second p q h = grind (arith, ints)

pub max_first : (p q : ℤ) → q ≤ℤ p → p ≡ int_max p q
max_first p q h = grind (arith, ints)

pub max_second : (p q : ℤ) → p ≤ℤ q → q ≡ int_max p q
max_second p q h = grind (arith, ints)

-- `z a` grows with a where z >= 0, and falls where z <= 0
pub le-times : (z a b : ℤ) → pos 0 ≤ℤ z → a ≤ℤ b → (z *ℤ a) ≤ℤ (z *ℤ b)
le-times z a b h o = rw (mul_comm z a, mul_comm z b) (le-mul a b z h o)

pub le-times_neg : (z a b : ℤ) → z ≤ℤ pos 0 → a ≤ℤ b → (z *ℤ b) ≤ℤ (z *ℤ a)
le-times_neg z a b h o = rw (mul_comm z a, mul_comm z b) (le-mul_neg a b z h o)

module _ (a b c d : ℤ) (o : c ≤ℤ d) where
  least_of : (m n : ℤ) → m ≡ int_min (a *ℤ c) (a *ℤ d) → n ≡ int_min (b *ℤ c) (b *ℤ d) → int_min m n ≡ least4 a b c d
  least_of m n f g = λ i. int_min (f i) (g i)

  greatest_of : (m n : ℤ) → m ≡ int_max (a *ℤ c) (a *ℤ d) → n ≡ int_max (b *ℤ c) (b *ℤ d) → int_max m n ≡ greatest4 a b c d
  greatest_of m n f g = λ i. int_max (f i) (g i)

  -- a and b are at least 0
  pub above : a ≤ℤ b → pos 0 ≤ℤ a → (int_min (a *ℤ c) (b *ℤ c) ≡ least4 a b c d) × (int_max (a *ℤ d) (b *ℤ d) ≡ greatest4 a b c d)
  above q h =
      let k : pos 0 ≤ℤ b = omega (arith, lin) in
      (least_of _ _ (min_first (a *ℤ c) (a *ℤ d) (le-times a c d h o)) (min_first (b *ℤ c) (b *ℤ d) (le-times b c d k o)), greatest_of _ _ (max_second (a *ℤ c) (a *ℤ d) (le-times a c d h o)) (max_second (b *ℤ c) (b *ℤ d) (le-times b c d k o)))

  -- a and b are at most 0
  pub below : a ≤ℤ b → b ≤ℤ pos 0 → (int_min (a *ℤ d) (b *ℤ d) ≡ least4 a b c d) × (int_max (a *ℤ c) (b *ℤ c) ≡ greatest4 a b c d)
  below q k =
      let h : a ≤ℤ pos 0 = omega (arith, lin) in
      (least_of _ _ (min_second (a *ℤ c) (a *ℤ d) (le-times_neg a c d h o)) (min_second (b *ℤ c) (b *ℤ d) (le-times_neg b c d k o)), greatest_of _ _ (max_first (a *ℤ c) (a *ℤ d) (le-times_neg a c d h o)) (max_first (b *ℤ c) (b *ℤ d) (le-times_neg b c d k o)))

  -- 0 lies between a and b
  module _ (h : a ≤ℤ pos 0) (k : pos 0 ≤ℤ b) where
    pub least-across : int_min (a *ℤ d) (b *ℤ c) ≡ least4 a b c d
    least-across = least_of _ _ (min_second (a *ℤ c) (a *ℤ d) (le-times_neg a c d h o)) (min_first (b *ℤ c) (b *ℤ d) (le-times b c d k o))

    pub greatest-across : int_max (a *ℤ c) (b *ℤ d) ≡ greatest4 a b c d
    greatest-across = greatest_of _ _ (max_first (a *ℤ c) (a *ℤ d) (le-times_neg a c d h o)) (max_second (b *ℤ c) (b *ℤ d) (le-times b c d k o))

    -- and c and d have one sign
    pub across-above : pos 0 ≤ℤ c → (a *ℤ d ≡ least4 a b c d) × (b *ℤ d ≡ greatest4 a b c d)
    across-above g =
        let p : (a *ℤ d) ≤ℤ (b *ℤ d) = le-mul a b d (omega (arith, lin)) (omega (arith, lin)) in
        let q : (b *ℤ c) ≤ℤ (b *ℤ d) = le-times b c d k o in
        let r : (a *ℤ c) ≤ℤ (b *ℤ c) = le-mul a b c g (omega (arith, lin)) in
        let t : (a *ℤ d) ≤ℤ (a *ℤ c) = le-times_neg a c d h o in
        (min_first (a *ℤ d) (b *ℤ c) (omega (arith, lin)) ∙ least-across, max_second (a *ℤ c) (b *ℤ d) (omega (arith, lin)) ∙ greatest-across)

    pub across-below : d ≤ℤ pos 0 → (b *ℤ c ≡ least4 a b c d) × (a *ℤ c ≡ greatest4 a b c d)
    across-below g =
        let p : (b *ℤ c) ≤ℤ (a *ℤ c) = le-mul_neg a b c (omega (arith, lin)) (omega (arith, lin)) in
        let q : (b *ℤ d) ≤ℤ (a *ℤ d) = le-mul_neg a b d g (omega (arith, lin)) in
        let r : (a *ℤ d) ≤ℤ (a *ℤ c) = le-times_neg a c d h o in
        let t : (b *ℤ c) ≤ℤ (b *ℤ d) = le-times b c d k o in
        (min_second (a *ℤ d) (b *ℤ c) (omega (arith, lin)) ∙ least-across, max_first (a *ℤ c) (b *ℤ d) (omega (arith, lin)) ∙ greatest-across)
