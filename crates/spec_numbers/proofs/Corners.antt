-- A product of two numbers lies between the products of the ends that they lie between.
use Rattle.std.proofs.Common.{◌≡◌, arith, [], ◌∷◌, ℤ, pos, negsuc, ◌*ℤ◌, neg_ℤ, ◌≤ℤ◌, ◌⊎◌, inl, inr}
use Rattle.spec_numbers.proofs.Whole.{mul_comm}
use Rattle.spec_numbers.proofs.Ring.{v, ◌⊗◌, minus, ring}
use Rattle.spec_numbers.proofs.Order.{lin, le-mul, le-mul_neg}

pub sign_cases : (z : ℤ) → (pos 0 ≤ℤ z) ⊎ (z ≤ℤ pos 0)
sign_cases (pos n) = inl (omega (arith, lin))
sign_cases (negsuc n) = inr (omega (arith, lin))

-- a bound of the products with both ends is a bound of each product between
pub between_low : (m x c d y : ℤ) → c ≤ℤ y → y ≤ℤ d → m ≤ℤ (x *ℤ c) → m ≤ℤ (x *ℤ d) → m ≤ℤ (x *ℤ y)
between_low m x c d y p q r s = by (sign_cases x)
  where
    by : (pos 0 ≤ℤ x) ⊎ (x ≤ℤ pos 0) → m ≤ℤ (x *ℤ y)
    by (inl h) =
        let g : (c *ℤ x) ≤ℤ (y *ℤ x) = le-mul c y x h p in
        let e : c *ℤ x ≡ x *ℤ c = mul_comm c x in
        let f : y *ℤ x ≡ x *ℤ y = mul_comm y x in omega (arith, lin)
    by (inr h) =
        let g : (d *ℤ x) ≤ℤ (y *ℤ x) = le-mul_neg y d x h q in
        let e : d *ℤ x ≡ x *ℤ d = mul_comm d x in
        let f : y *ℤ x ≡ x *ℤ y = mul_comm y x in omega (arith, lin)

pub corner_low : (m a b c d x y : ℤ) → a ≤ℤ x → x ≤ℤ b → c ≤ℤ y → y ≤ℤ d → m ≤ℤ (a *ℤ c) → m ≤ℤ (a *ℤ d) → m ≤ℤ (b *ℤ c) → m ≤ℤ (b *ℤ d) → m ≤ℤ (x *ℤ y)
corner_low m a b c d x y p q r s ac ad bc bd =
    let low : m ≤ℤ (a *ℤ y) = between_low m a c d y r s ac ad in
    let high : m ≤ℤ (b *ℤ y) = between_low m b c d y r s bc bd in
    let e : y *ℤ a ≡ a *ℤ y = mul_comm y a in
    let f : y *ℤ b ≡ b *ℤ y = mul_comm y b in
    let g : y *ℤ x ≡ x *ℤ y = mul_comm y x in
    let h : m ≤ℤ (y *ℤ x) = between_low m y a b x p q (omega (arith, lin)) (omega (arith, lin)) in
    omega (arith, lin)

pub corner_high : (m a b c d x y : ℤ) → a ≤ℤ x → x ≤ℤ b → c ≤ℤ y → y ≤ℤ d → (a *ℤ c) ≤ℤ m → (a *ℤ d) ≤ℤ m → (b *ℤ c) ≤ℤ m → (b *ℤ d) ≤ℤ m → (x *ℤ y) ≤ℤ m
corner_high m a b c d x y p q r s ac ad bc bd =
    let e : (w z : ℤ) → neg_ℤ w *ℤ z ≡ neg_ℤ (w *ℤ z) = λ w z. ring (w ∷ z ∷ []) (minus (v 0) ⊗ v 1) (minus (v 0 ⊗ v 1)) tt in
    let h : neg_ℤ m ≤ℤ (neg_ℤ x *ℤ y) = corner_low (neg_ℤ m) (neg_ℤ b) (neg_ℤ a) c d (neg_ℤ x) y (omega (arith, lin)) (omega (arith, lin)) r s (rw (e b c) (omega (arith, lin))) (rw (e b d) (omega (arith, lin))) (rw (e a c) (omega (arith, lin))) (rw (e a d) (omega (arith, lin))) in
    let g : neg_ℤ x *ℤ y ≡ neg_ℤ (x *ℤ y) = e x y in
    omega (arith, lin)

pub between_high : (m x c d y : ℤ) → c ≤ℤ y → y ≤ℤ d → (x *ℤ c) ≤ℤ m → (x *ℤ d) ≤ℤ m → (x *ℤ y) ≤ℤ m
between_high m x c d y p q r s = corner_high m x x c d x y (omega (arith, lin)) (omega (arith, lin)) p q r s r s
