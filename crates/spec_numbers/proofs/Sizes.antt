-- The size |z| of a whole number, and what that of a sum, a product, a least or a greatest number is at most.
use Rattle.std.proofs.Common.{◌≡◌, ℕ, zero, suc, ◌+◌, ◌*◌, ◌≤◌, arith, refl, [], ◌∷◌, ℤ, pos, negsuc, neg_ℤ, ◌+ℤ◌, ◌*ℤ◌, ◌≤ℤ◌, unsigned_abs}
use Rattle.std.proofs.lemmas.Int.{ints, unsigned_abs-mul}
use Rattle.std.proofs.lemmas.Nat.{mul-le}
use Rattle.std.specs.Int.{int_min, int_max}
use Rattle.spec_numbers.proofs.Ring.{v, ◌⊗◌, minus, ring}
use Rattle.spec_numbers.proofs.Order.{lin, le-mul}

pub unsigned_abs-neg : (z : ℤ) → unsigned_abs (neg_ℤ z) ≡ unsigned_abs z
unsigned_abs-neg (pos zero) = refl
unsigned_abs-neg (pos (suc n)) = refl
unsigned_abs-neg (negsuc n) = refl

-- a number of at least 1 is its own size
pub own_size : (z : ℤ) → pos 1 ≤ℤ z → pos (unsigned_abs z) ≡ z
own_size (pos n) h = refl
own_size (negsuc n) h = absurd (omega (arith, ints, h))

pub scaled_size : (z : ℤ) (n : ℕ) → unsigned_abs (z *ℤ pos n) ≡ unsigned_abs z * n
scaled_size (pos m) n = refl
scaled_size (negsuc m) n = unsigned_abs-neg (pos (suc m * n))

pub sum_size : (a b : ℤ) (m n : ℕ) → unsigned_abs a ≤ m → unsigned_abs b ≤ n → unsigned_abs (a +ℤ b) ≤ m + n
sum_size a b m n p q = omega (arith, ints)

pub product_size : (a b : ℤ) (m n : ℕ) → unsigned_abs a ≤ m → unsigned_abs b ≤ n → unsigned_abs (a *ℤ b) ≤ m * n
product_size a b m n p q = rw (unsigned_abs-mul a b) (mul-le (unsigned_abs a) (unsigned_abs b) m n p q)

pub min_size : (a b : ℤ) (m : ℕ) → unsigned_abs a ≤ m → unsigned_abs b ≤ m → unsigned_abs (int_min a b) ≤ m
min_size a b m p q = grind (arith, ints)

pub max_size : (a b : ℤ) (m : ℕ) → unsigned_abs a ≤ m → unsigned_abs b ≤ m → unsigned_abs (int_max a b) ≤ m
max_size a b m p q = grind (arith, ints)

-- the greater and the lesser of two
pub either_size : (a b : ℤ) (m : ℕ) → unsigned_abs a ≤ m → unsigned_abs b ≤ m → (unsigned_abs (int_max a b) ≤ m) × (unsigned_abs (int_min a b) ≤ m)
either_size a b m p q = (max_size a b m p q, min_size a b m p q)

-- the least and the greatest of four
module _ (a b c d : ℤ) (m : ℕ) (p : unsigned_abs a ≤ m) (q : unsigned_abs b ≤ m) (r : unsigned_abs c ≤ m) (s : unsigned_abs d ≤ m) where
  pub least_size : unsigned_abs (int_min (int_min a b) (int_min c d)) ≤ m
  least_size = min_size (int_min a b) (int_min c d) m (min_size a b m p q) (min_size c d m r s)

  pub greatest_size : unsigned_abs (int_max (int_max a b) (int_max c d)) ≤ m
  greatest_size = max_size (int_max a b) (int_max c d) m (max_size a b m p q) (max_size c d m r s)

pub four_sizes : (a b c d : ℤ) (m : ℕ) → unsigned_abs a ≤ m → unsigned_abs b ≤ m → unsigned_abs c ≤ m → unsigned_abs d ≤ m
    → (unsigned_abs (int_min (int_min a b) (int_min c d)) ≤ m) × (unsigned_abs (int_max (int_max a b) (int_max c d)) ≤ m)
four_sizes a b c d m p q r s = (least_size a b c d m p q r s, greatest_size a b c d m p q r s)

-- a number between the multiples of two others is no greater in size than d times one of them
pub size_between : (a b z : ℤ) (m d : ℕ) → unsigned_abs a ≤ m → unsigned_abs b ≤ m → (a *ℤ pos d) ≤ℤ z → z ≤ℤ (b *ℤ pos d) → unsigned_abs z ≤ m * d
size_between a b z m d p q r s =
    let low = le-mul (neg_ℤ (pos m)) a (pos d) (omega (arith, lin)) (omega (arith, lin)) in
    let high = le-mul b (pos m) (pos d) (omega (arith, lin)) (omega (arith, lin)) in
    let e : neg_ℤ (pos m) *ℤ pos d ≡ neg_ℤ (pos (m * d)) = ring (pos m ∷ pos d ∷ []) (minus (v 0) ⊗ v 1) (minus (v 0 ⊗ v 1)) tt in
    omega (arith, lin)
