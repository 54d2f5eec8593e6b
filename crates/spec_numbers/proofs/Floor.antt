-- Division rounded down and up.
use Rattle.std.proofs.Common.{◌≡◌, ℕ, zero, suc, ◌+◌, ◌*◌, ◌/◌, ◌<◌, ◌≤◌, ◌^◌, min, ◌⊎◌, inl, inr, arith, sym, ap, ◌∙◌, [], ◌∷◌, ℤ, pos, negsuc, ◌+ℤ◌, ◌*ℤ◌, neg_ℤ, ◌≤ℤ◌, ◌<ℤ◌, unsigned_abs}
use Rattle.std.proofs.lemmas.Int.{ints, by_lt_z}
use Rattle.std.proofs.lemmas.Bool.{cases_lt}
use Rattle.std.proofs.lemmas.Nat.{pow_pos}
use Rattle.std.proofs.Math.Nat.{div-eq_of_lt, div-mul-le_self, lt-div-mul-add, div-lt_iff_lt-mul, pow-le-pow_right}
use Rattle.std.proofs.Math.IntN.{neg_ℤ-neg_ℤ}
use Rattle.spec_numbers.specs.Numbers.{floor_div, ceil_div}
use Rattle.spec_numbers.proofs.Ring.{v, ◌⊕◌, ◌⊗◌, ring, minus}
use Rattle.spec_numbers.proofs.Order.{lin, le-mul, le-mul_cancel, lt-mul_cancel}
use Rattle.spec_numbers.proofs.Sizes.{unsigned_abs-neg}

pub floor_div-one : (z : ℤ) → floor_div z 1 ≡ z
floor_div-one (pos n) = ap pos (omega arith)
floor_div-one (negsuc n) = ap negsuc (omega arith)

pub ceil_div-one : (z : ℤ) → ceil_div z 1 ≡ z
ceil_div-one z = ap neg_ℤ (floor_div-one (neg_ℤ z)) ∙ neg_ℤ-neg_ℤ z

pub floor_div-le : (z : ℤ) (d : ℕ) → 0 < d → (floor_div z d *ℤ pos d) ≤ℤ z
floor_div-le (pos n) d h = let p : n / d * d ≤ n = div-mul-le_self n d in omega (arith, ints)
floor_div-le (negsuc n) d h = let p : n < n / d * d + d = lt-div-mul-add h in omega (arith, ints)

pub floor_div-lt : (z : ℤ) (d : ℕ) → 0 < d → z <ℤ (floor_div z d *ℤ pos d +ℤ pos d)
floor_div-lt (pos n) d h = let p : n < n / d * d + d = lt-div-mul-add h in omega (arith, ints)
floor_div-lt (negsuc n) d h = let p : n / d * d ≤ n = div-mul-le_self n d in omega (arith, ints)

pub ceil_div-ge : (z : ℤ) (d : ℕ) → 0 < d → z ≤ℤ (ceil_div z d *ℤ pos d)
ceil_div-ge z d h =
    let p : (floor_div (neg_ℤ z) d *ℤ pos d) ≤ℤ neg_ℤ z = floor_div-le (neg_ℤ z) d h in
    let e : neg_ℤ (floor_div (neg_ℤ z) d) *ℤ pos d ≡ neg_ℤ (floor_div (neg_ℤ z) d *ℤ pos d) = ring (floor_div (neg_ℤ z) d ∷ pos d ∷ []) (minus (v 0) ⊗ v 1) (minus (v 0 ⊗ v 1)) tt in
    rw e (omega (arith, lin))

-- a number of at most m * d is divided to at most m
pub floor_div-small : (z : ℤ) (d m : ℕ) → 0 < d → unsigned_abs z ≤ m * d → unsigned_abs (floor_div z d) ≤ m
floor_div-small (pos n) d m p h = let q : n / d < suc m = (div-lt_iff_lt-mul p).1 (omega arith) in omega arith
floor_div-small (negsuc n) d m p h = let q : n / d < m = (div-lt_iff_lt-mul p).1 (omega arith) in omega arith

pub ceil_div-small : (z : ℤ) (d m : ℕ) → 0 < d → unsigned_abs z ≤ m * d → unsigned_abs (ceil_div z d) ≤ m
ceil_div-small z d m p h = rw unsigned_abs-neg (floor_div-small (neg_ℤ z) d m p (rw unsigned_abs-neg h))

-- ends in order stay in order
pub ordered_quotients : (lo hi : ℤ) (d : ℕ) → 0 < d → lo ≤ℤ hi → floor_div lo d ≤ℤ ceil_div hi d
ordered_quotients lo hi d p h =
    let a : (floor_div lo d *ℤ pos d) ≤ℤ lo = floor_div-le lo d p in
    let b : hi ≤ℤ (ceil_div hi d *ℤ pos d) = ceil_div-ge hi d p in
    le-mul_cancel (floor_div lo d) (ceil_div hi d) d p (omega (arith, lin))

-- the quotient rounded up is that rounded down where nothing is left, and else the next
pub ceil_div-lt : (z : ℤ) (d : ℕ) → 0 < d → (ceil_div z d *ℤ pos d) <ℤ (z +ℤ pos d)
ceil_div-lt z d h =
    let p : neg_ℤ z <ℤ (floor_div (neg_ℤ z) d *ℤ pos d +ℤ pos d) = floor_div-lt (neg_ℤ z) d h in
    let e : neg_ℤ (floor_div (neg_ℤ z) d) *ℤ pos d ≡ neg_ℤ (floor_div (neg_ℤ z) d *ℤ pos d) = ring (floor_div (neg_ℤ z) d ∷ pos d ∷ []) (minus (v 0) ⊗ v 1) (minus (v 0 ⊗ v 1)) tt in
    rw e (omega (arith, lin))

more : (a : ℤ) (k d : ℕ) → (a +ℤ pos k) *ℤ pos d ≡ a *ℤ pos d +ℤ pos (k * d)
more a k d = ring (a ∷ pos k ∷ pos d ∷ []) ((v 0 ⊕ v 1) ⊗ v 2) (v 0 ⊗ v 2 ⊕ v 1 ⊗ v 2) tt

pub ceil_div-exact : (z : ℤ) (d : ℕ) → 0 < d → floor_div z d *ℤ pos d ≡ z → ceil_div z d ≡ floor_div z d
ceil_div-exact z d h e =
    let a : z ≤ℤ (ceil_div z d *ℤ pos d) = ceil_div-ge z d h in
    let b : (ceil_div z d *ℤ pos d) <ℤ (z +ℤ pos d) = ceil_div-lt z d h in
    let m : (floor_div z d +ℤ pos 1) *ℤ pos d ≡ floor_div z d *ℤ pos d +ℤ pos (1 * d) = more (floor_div z d) 1 d in
    let p : floor_div z d ≤ℤ ceil_div z d = le-mul_cancel (floor_div z d) (ceil_div z d) d h (omega (arith, lin)) in
    let q : ceil_div z d <ℤ (floor_div z d +ℤ pos 1) = lt-mul_cancel (ceil_div z d) (floor_div z d +ℤ pos 1) d (omega (arith, lin)) in
    omega (arith, lin)

pub ceil_div-next : (z : ℤ) (d : ℕ) → 0 < d → (floor_div z d *ℤ pos d ≡ z → ⊥) → ceil_div z d ≡ floor_div z d +ℤ pos 1
ceil_div-next z d h n =
    let f : (floor_div z d *ℤ pos d) ≤ℤ z = floor_div-le z d h in
    let g : z <ℤ (floor_div z d *ℤ pos d +ℤ pos d) = floor_div-lt z d h in
    let a : z ≤ℤ (ceil_div z d *ℤ pos d) = ceil_div-ge z d h in
    let b : (ceil_div z d *ℤ pos d) <ℤ (z +ℤ pos d) = ceil_div-lt z d h in
    let l : (floor_div z d *ℤ pos d) <ℤ z = by_lt_z (floor_div z d *ℤ pos d) z (λ p. p) (λ q. absurd (n (omega (arith, lin)))) in
    let m : (floor_div z d +ℤ pos 2) *ℤ pos d ≡ floor_div z d *ℤ pos d +ℤ pos (2 * d) = more (floor_div z d) 2 d in
    let p : floor_div z d <ℤ ceil_div z d = lt-mul_cancel (floor_div z d) (ceil_div z d) d (omega (arith, lin)) in
    let q : ceil_div z d <ℤ (floor_div z d +ℤ pos 2) = lt-mul_cancel (ceil_div z d) (floor_div z d +ℤ pos 2) d (omega (arith, lin)) in
    omega (arith, lin)

-- where the quotient rounded down is below 0, the one rounded up is not above it
pub quotients_of_one_sign : (z : ℤ) (d : ℕ) → 0 < d → floor_div z d <ℤ pos 0 → ceil_div z d ≤ℤ pos 0
quotients_of_one_sign z d positive below =
    let f = floor_div-lt z d positive in
    let c = ceil_div-lt z d positive in
    let g : (floor_div z d *ℤ pos d) ≤ℤ (neg_ℤ (pos 1) *ℤ pos d) = le-mul (floor_div z d) (neg_ℤ (pos 1)) (pos d) (omega (arith, lin)) (omega (arith, lin)) in
    let e : (ceil_div z d *ℤ pos d) <ℤ (pos 1 *ℤ pos d) = omega (arith, ints) in
    let r = lt-mul_cancel (ceil_div z d) (pos 1) d e in
    omega (arith, lin)

-- by a divisor past its size a number is divided to 0 or -1
pub floor_div-past : (z : ℤ) (d e : ℕ) → unsigned_abs z < d → unsigned_abs z < e → floor_div z d ≡ floor_div z e
floor_div-past (pos n) d e p q =
    let a : n / d ≡ 0 = div-eq_of_lt (omega arith) in
    let b : n / e ≡ 0 = div-eq_of_lt (omega arith) in
    ap pos (a ∙ sym b)
floor_div-past (negsuc n) d e p q =
    let a : n / d ≡ 0 = div-eq_of_lt (omega arith) in
    let b : n / e ≡ 0 = div-eq_of_lt (omega arith) in
    ap negsuc (a ∙ sym b)

-- ---- quotients by powers of 2, of numbers of at most 2^62
pub capped_shift : (z : ℤ) (k m : ℕ) → unsigned_abs z ≤ 2 ^ 62 → m ≡ min k 63 → floor_div z (2 ^ m) ≡ floor_div z (2 ^ k)
capped_shift z k m h e = by (cases_lt k 63)
  where
    by : (k < 63) ⊎ (63 ≤ k) → floor_div z (2 ^ m) ≡ floor_div z (2 ^ k)
    by (inl r) = let f : m ≡ k = omega arith in ap (λ n. floor_div z (2 ^ n)) f
    by (inr r) = let f : m ≡ 63 = omega arith in let p : 2 ^ 63 ≤ 2 ^ k = pow-le-pow_right (omega arith) r in ap (λ n. floor_div z (2 ^ n)) f ∙ floor_div-past z (2 ^ 63) (2 ^ k) (omega arith) (omega arith)

-- a quotient is no greater in size
pub shift_small : (z : ℤ) (k limit : ℕ) → unsigned_abs z ≤ limit → unsigned_abs (floor_div z (2 ^ k)) ≤ limit
shift_small z k limit h = floor_div-small z (2 ^ k) limit (pow_pos k) (wider (2 ^ k) (pow_pos k))
  where
    wider : (d : ℕ) → 0 < d → unsigned_abs z ≤ limit * d
    wider zero p = absurd (omega arith)
    wider (suc d) p = omega arith
