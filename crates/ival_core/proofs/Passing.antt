-- Numbers that fit are passed from call to call as they are.
use Rattle.std.proofs.Common.{◌≡◌, ℕ, ◌≤ℤ◌, ◌*◌, ◌^◌, ◌≤◌, ◌∙◌, ℤ, ◌*ℤ◌, unsigned_abs, to_z, of_z, w32, w64, arith}
use Rattle.std.proofs.lemmas.Int.{ints, to_z-of_z}
use mir.Syntax.{w128}
use mir.Val.{SFits}
use lib.Signed.{le_z}
use Rattle.spec_intervals.specs.Interval.{IsExponent, end_limit, exponent_limit}

pub kept : (z v : ℤ) → SFits w128 z → z ≡ v → to_z w128 (of_z w128 z) ≡ v
kept z v f e = to_z-of_z w128 z f ∙ e

-- what a call makes of two ends
pub made_of_ends : (op : ℤ → ℤ → ℤ) (a b r : ℤ) → SFits w64 a → SFits w64 b → SFits w128 r → r ≡ op (to_z w64 (of_z w64 a)) (to_z w64 (of_z w64 b)) → to_z w128 (of_z w128 r) ≡ op a b
made_of_ends op a b r f g h e = to_z-of_z w128 r h ∙ (rw (to_z-of_z w64 a f, to_z-of_z w64 b g) at e)

pub product_kept : (a b r : ℤ) → SFits w64 a → SFits w64 b → SFits w128 r → r ≡ to_z w64 (of_z w64 a) *ℤ to_z w64 (of_z w64 b) → to_z w128 (of_z w128 r) ≡ a *ℤ b
product_kept a b r f g h e = made_of_ends (λ m n. m *ℤ n) a b r f g h e

-- what a call makes of two numbers of 128 bits
pub made_of : (op : ℤ → ℤ → ℤ) (a b r : ℤ) → SFits w128 a → SFits w128 b → SFits w128 r → r ≡ op (to_z w128 (of_z w128 a)) (to_z w128 (of_z w128 b)) → to_z w128 (of_z w128 r) ≡ op a b
made_of op a b r f g h e = to_z-of_z w128 r h ∙ (rw (to_z-of_z w128 a f, to_z-of_z w128 b g) at e)

-- what a call makes of an end and a count
pub shifted : (op : ℤ → ℕ → ℤ) (z v r : ℤ) (k n : ℕ) → SFits w64 z → SFits w128 r → r ≡ op (to_z w64 (of_z w64 z)) k → z ≡ v → k ≡ n → to_z w128 (of_z w128 r) ≡ op v n
shifted op z v r k n f g e p q = to_z-of_z w128 r g ∙ ((rw (to_z-of_z w64 z f) at e) ∙ λ i. op (p i) (q i))

-- what a call makes of the products of two ends with a third
pub made_of_products : (op : ℤ → ℤ → ℤ) (a b z r : ℤ) → SFits w64 a → SFits w64 b → SFits w64 z → SFits w128 r → r ≡ op (to_z w64 (of_z w64 a) *ℤ to_z w64 (of_z w64 z)) (to_z w64 (of_z w64 b) *ℤ to_z w64 (of_z w64 z)) → to_z w128 (of_z w128 r) ≡ op (a *ℤ z) (b *ℤ z)
made_of_products op a b z r f g h k e = to_z-of_z w128 r k ∙ (rw (to_z-of_z w64 a f, to_z-of_z w64 b g, to_z-of_z w64 z h) at e)

-- ---- bounds and order of what is passed on

pub small_end_kept : (z : ℤ) → unsigned_abs z ≤ end_limit → unsigned_abs (to_z w64 (of_z w64 z)) ≤ end_limit
small_end_kept z h = omega (arith, ints)

pub end_kept : (z : ℤ) → unsigned_abs z ≤ end_limit → unsigned_abs (to_z w128 (of_z w128 z)) ≤ end_limit
end_kept z h = omega (arith, ints)

pub lifted_kept : (z : ℤ) → unsigned_abs z ≤ 2 ^ 122 → unsigned_abs (to_z w128 (of_z w128 z)) ≤ 2 ^ 122
lifted_kept z h = omega (arith, ints)

pub wide_kept : (z : ℤ) → unsigned_abs z ≤ 2 ^ 124 → unsigned_abs (to_z w128 (of_z w128 z)) ≤ 2 ^ 124
wide_kept z h = omega (arith, ints)

pub step_kept : (z : ℤ) → unsigned_abs z ≤ 2 ^ 123 → unsigned_abs (to_z w128 (of_z w128 z)) ≤ 2 ^ 124
step_kept z h = omega (arith, ints)

pub exponent_kept : (z : ℤ) → unsigned_abs z ≤ 4 * exponent_limit → unsigned_abs (to_z w32 (of_z w32 z)) ≤ 4 * exponent_limit
exponent_kept z h = omega (arith, ints)

pub order_of_ends : (a b : ℤ) → SFits w64 a → SFits w64 b → a ≤ℤ b → to_z w64 (of_z w64 a) ≤ℤ to_z w64 (of_z w64 b)
order_of_ends a b f g h = omega (arith, ints)

pub order_kept : (a b : ℤ) → unsigned_abs a ≤ 2 ^ 124 → unsigned_abs b ≤ 2 ^ 124 → a ≤ℤ b → to_z w128 (of_z w128 a) ≤ℤ to_z w128 (of_z w128 b)
order_kept a b p q h = omega (arith, ints)

-- how two exponents compare as the code has them
pub compared : (a b s t : ℤ) → a ≡ s → b ≡ t → IsExponent s → IsExponent t → le_z (to_z w32 (of_z w32 a)) (to_z w32 (of_z w32 b)) ≡ le_z s t
compared a b s t p q small other =
    let f : SFits w32 a = rw p (omega (arith, ints)) in
    let g : SFits w32 b = rw q (omega (arith, ints)) in
    λ i. le_z ((to_z-of_z w32 a f ∙ p) i) ((to_z-of_z w32 b g ∙ q) i)
