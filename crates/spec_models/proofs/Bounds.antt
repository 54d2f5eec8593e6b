-- How great a polynomial is at an argument, how far it is from one with fewer or rounded coefficients, and how much it
-- changes from one argument to another.
use Rattle.std.proofs.Common.{◌≡◌, ℕ, zero, suc, ◌+◌, ◌*◌, ◌^◌, ◌<◌, arith, refl, sym, ap, ◌∙◌, List, [], ◌∷◌, length, take, drop, ℤ, pos, ◌+ℤ◌, ◌-ℤ◌, ◌*ℤ◌, neg_ℤ, ◌≤ℤ◌, ◌<ℤ◌, unsigned_abs}
use Rattle.std.proofs.lemmas.Int.{ints}
use Rattle.std.proofs.lemmas.Nat.{pow_pos}
use Rattle.spec_numbers.specs.Numbers.{power, floor_div}
use Rattle.spec_numbers.proofs.Ring.{v, k as lit, ◌⊕◌, ◌⊖◌, ◌⊗◌, minus, ring}
use Rattle.spec_numbers.proofs.Order.{lin, le-mul, le-mul_cancel}
use Rattle.spec_numbers.proofs.Whole.{nonneg-mul}
use Rattle.spec_numbers.proofs.Floor.{floor_div-le, floor_div-lt}
use Rattle.spec_chebyshev.specs.Differences.{IsArgument, Within}
use Rattle.spec_chebyshev.proofs.Polynomials.{nonneg-power}
use Rattle.spec_chebyshev.proofs.Sizes.{Within-mul, Within-add}
use Rattle.spec_models.specs.Models.{at, sizes, halved, weighted_sizes, slope}

-- ---- sizes of products and sums
pub Within-neg : (p a : ℤ) → Within p a → Within (neg_ℤ p) a
Within-neg p a w =
    let l = w.low in
    let h = w.high in
    record { low = omega (arith, lin); high = omega (arith, lin) }

pub Within-more : (z a b : ℤ) → a ≤ℤ b → Within z a → Within z b
Within-more z a b h w =
    let l = w.low in
    let g = w.high in
    record { low = omega (arith, lin); high = omega (arith, lin) }

-- another form of the number, and of its bound
pub Within-is : (y z a b : ℤ) → y ≡ z → a ≡ b → Within y a → Within z b
Within-is y z a b e f w =
    let l = w.low in
    let h = w.high in
    record { low = omega (arith, lin); high = omega (arith, lin) }

pub Within-zero : (b : ℤ) → pos 0 ≤ℤ b → Within (pos 0) b
Within-zero b h = record { low = omega (arith, lin); high = h }

pub Within-scale : (z b c : ℤ) → pos 0 ≤ℤ c → Within z b → Within (z *ℤ c) (b *ℤ c)
Within-scale z b c h w =
    let l : (neg_ℤ b *ℤ c) ≤ℤ (z *ℤ c) = le-mul (neg_ℤ b) z c h w.low in
    let g : (z *ℤ c) ≤ℤ (b *ℤ c) = le-mul z b c h w.high in
    let e : neg_ℤ b *ℤ c ≡ neg_ℤ (b *ℤ c) = ring (b ∷ c ∷ []) (minus (v 0) ⊗ v 1) (minus (v 0 ⊗ v 1)) tt in
    record { low = omega (arith, lin); high = g }

pub Within-cancel : (z b : ℤ) (c : ℕ) → 0 < c → Within (z *ℤ pos c) (b *ℤ pos c) → Within z b
Within-cancel z b c h w =
    let l = w.low in
    let e : neg_ℤ b *ℤ pos c ≡ neg_ℤ (b *ℤ pos c) = ring (b ∷ pos c ∷ []) (minus (v 0) ⊗ v 1) (minus (v 0 ⊗ v 1)) tt in
    record { low = le-mul_cancel (neg_ℤ b) z c h (omega (arith, lin)); high = le-mul_cancel z b c h w.high }

pub Within-size : (z : ℤ) → Within z (pos (unsigned_abs z))
Within-size z = record { low = omega (arith, ints); high = omega (arith, ints) }

-- ---- one coefficient more: h is its part, a what the others are
module _ (p q Q : ℤ) (g : IsArgument p q) (n0 : pos 0 ≤ℤ Q) where
  unit : pos 0 ≤ℤ q
  unit = let p0 = g.positive in omega (arith, lin)

  pub Within-times : (a : ℤ) (n : ℕ) → Within a (pos n *ℤ Q) → Within (p *ℤ a) (pos n *ℤ (q *ℤ Q))
  Within-times a n wa =
      let t : Within (p *ℤ a) (q *ℤ (pos n *ℤ Q)) = Within-mul p a q (pos n *ℤ Q) unit (nonneg-mul (pos n) Q (omega (arith, lin)) n0) (record { low = g.low; high = g.high }) wa in
      Within-is (p *ℤ a) (p *ℤ a) (q *ℤ (pos n *ℤ Q)) (pos n *ℤ (q *ℤ Q)) refl (ring (q ∷ pos n ∷ Q ∷ []) (v 0 ⊗ (v 1 ⊗ v 2)) (v 1 ⊗ (v 0 ⊗ v 2)) tt) t

  pub Within-next : (h a : ℤ) (m n : ℕ) → Within h (pos m) → Within a (pos n *ℤ Q) → Within (h *ℤ (q *ℤ Q) +ℤ p *ℤ a) (pos (m + n) *ℤ (q *ℤ Q))
  Within-next h a m n wh wa =
      let s : Within (h *ℤ (q *ℤ Q)) (pos m *ℤ (q *ℤ Q)) = Within-scale h (pos m) (q *ℤ Q) (nonneg-mul q Q unit n0) wh in
      let t : Within (p *ℤ a) (pos n *ℤ (q *ℤ Q)) = Within-times a n wa in
      let u : Within (h *ℤ (q *ℤ Q) +ℤ p *ℤ a) (pos m *ℤ (q *ℤ Q) +ℤ pos n *ℤ (q *ℤ Q)) = Within-add (h *ℤ (q *ℤ Q)) (p *ℤ a) (pos m *ℤ (q *ℤ Q)) (pos n *ℤ (q *ℤ Q)) s t in
      Within-is (h *ℤ (q *ℤ Q) +ℤ p *ℤ a) (h *ℤ (q *ℤ Q) +ℤ p *ℤ a) (pos m *ℤ (q *ℤ Q) +ℤ pos n *ℤ (q *ℤ Q)) (pos (m + n) *ℤ (q *ℤ Q)) refl (ring (pos m ∷ pos n ∷ q ∷ Q ∷ []) (v 0 ⊗ (v 2 ⊗ v 3) ⊕ v 1 ⊗ (v 2 ⊗ v 3)) ((v 0 ⊕ v 1) ⊗ (v 2 ⊗ v 3)) tt) u

pub power0 : (p q : ℤ) (d : ℕ) → IsArgument p q → pos 0 ≤ℤ power q d
power0 p q d g = let p0 = g.positive in nonneg-power q d (omega (arith, lin))

nonneg-times : (n : ℕ) (Q : ℤ) → pos 0 ≤ℤ Q → pos 0 ≤ℤ (pos n *ℤ Q)
nonneg-times n Q h = nonneg-mul (pos n) Q (omega (arith, lin)) h

-- ---- at most the sizes of its coefficients
pub Within-at : (p q : ℤ) (d : ℕ) (xs : List ℤ) → IsArgument p q → Within (at p q d xs) (pos (sizes xs) *ℤ power q d)
Within-at p q zero [] g = record { low = omega (arith, lin); high = omega (arith, lin) }
Within-at p q (suc d) [] g = Within-zero (pos 0 *ℤ power q (suc d)) (nonneg-times 0 (power q (suc d)) (power0 p q (suc d) g))
Within-at p q zero (x ∷ xs) g =
    Within-is x x (pos (unsigned_abs x + sizes xs)) (pos (unsigned_abs x + sizes xs) *ℤ pos 1) refl (ring (pos (unsigned_abs x + sizes xs) ∷ []) (v 0) (v 0 ⊗ lit (pos 1)) tt) (Within-more x (pos (unsigned_abs x)) (pos (unsigned_abs x + sizes xs)) (omega (arith, lin)) (Within-size x))
Within-at p q (suc d) (x ∷ xs) g =
    Within-next p q (power q d) g (power0 p q d g) x (at p q d xs) (unsigned_abs x) (sizes xs) (Within-size x) (Within-at p q d xs g)

-- ---- at most one unit for each coefficient from one whose coefficients are rounded
lost : (x : ℤ) (k : ℕ) → Within (x -ℤ pos (2 ^ k) *ℤ floor_div x (2 ^ k)) (pos (2 ^ k))
lost x k =
    let a : (floor_div x (2 ^ k) *ℤ pos (2 ^ k)) ≤ℤ x = floor_div-le x (2 ^ k) (pow_pos k) in
    let b : x <ℤ (floor_div x (2 ^ k) *ℤ pos (2 ^ k) +ℤ pos (2 ^ k)) = floor_div-lt x (2 ^ k) (pow_pos k) in
    let e : pos (2 ^ k) *ℤ floor_div x (2 ^ k) ≡ floor_div x (2 ^ k) *ℤ pos (2 ^ k) = ring (floor_div x (2 ^ k) ∷ pos (2 ^ k) ∷ []) (v 1 ⊗ v 0) (v 0 ⊗ v 1) tt in
    record { low = omega (arith, lin); high = omega (arith, lin) }

pub Within-halved : (p q : ℤ) (d k : ℕ) (xs : List ℤ) → IsArgument p q → Within (at p q d xs -ℤ pos (2 ^ k) *ℤ at p q d (halved k xs)) (pos (length xs * 2 ^ k) *ℤ power q d)
Within-halved p q zero k [] g =
    Within-is (pos 0) (pos 0 -ℤ pos (2 ^ k) *ℤ pos 0) (pos (0 * 2 ^ k) *ℤ pos 1) (pos (0 * 2 ^ k) *ℤ pos 1) (ring (pos (2 ^ k) ∷ []) (lit (pos 0)) (lit (pos 0) ⊖ v 0 ⊗ lit (pos 0)) tt) refl (Within-zero (pos (0 * 2 ^ k) *ℤ pos 1) (nonneg-times (0 * 2 ^ k) (pos 1) (omega (arith, lin))))
Within-halved p q (suc d) k [] g =
    Within-is (pos 0) (pos 0 -ℤ pos (2 ^ k) *ℤ pos 0) (pos (0 * 2 ^ k) *ℤ power q (suc d)) (pos (0 * 2 ^ k) *ℤ power q (suc d)) (ring (pos (2 ^ k) ∷ []) (lit (pos 0)) (lit (pos 0) ⊖ v 0 ⊗ lit (pos 0)) tt) refl (Within-zero (pos (0 * 2 ^ k) *ℤ power q (suc d)) (nonneg-times (0 * 2 ^ k) (power q (suc d)) (power0 p q (suc d) g)))
Within-halved p q zero k (x ∷ xs) g =
    let w : Within (x -ℤ pos (2 ^ k) *ℤ floor_div x (2 ^ k)) (pos (suc (length xs) * 2 ^ k)) = Within-more (x -ℤ pos (2 ^ k) *ℤ floor_div x (2 ^ k)) (pos (2 ^ k)) (pos (suc (length xs) * 2 ^ k)) (omega (arith, lin)) (lost x k) in
    Within-is (x -ℤ pos (2 ^ k) *ℤ floor_div x (2 ^ k)) (x -ℤ pos (2 ^ k) *ℤ floor_div x (2 ^ k)) (pos (suc (length xs) * 2 ^ k)) (pos (suc (length xs) * 2 ^ k) *ℤ pos 1) refl (ring (pos (suc (length xs) * 2 ^ k) ∷ []) (v 0) (v 0 ⊗ lit (pos 1)) tt) w
Within-halved p q (suc d) k (x ∷ xs) g =
    let w : Within ((x -ℤ pos (2 ^ k) *ℤ floor_div x (2 ^ k)) *ℤ (q *ℤ power q d) +ℤ p *ℤ (at p q d xs -ℤ pos (2 ^ k) *ℤ at p q d (halved k xs))) (pos (2 ^ k + length xs * 2 ^ k) *ℤ (q *ℤ power q d)) = Within-next p q (power q d) g (power0 p q d g) (x -ℤ pos (2 ^ k) *ℤ floor_div x (2 ^ k)) (at p q d xs -ℤ pos (2 ^ k) *ℤ at p q d (halved k xs)) (2 ^ k) (length xs * 2 ^ k) (lost x k) (Within-halved p q d k xs g) in
    let n : 2 ^ k + length xs * 2 ^ k ≡ suc (length xs) * 2 ^ k = omega arith in
    Within-is ((x -ℤ pos (2 ^ k) *ℤ floor_div x (2 ^ k)) *ℤ (q *ℤ power q d) +ℤ p *ℤ (at p q d xs -ℤ pos (2 ^ k) *ℤ at p q d (halved k xs))) (at p q (suc d) (x ∷ xs) -ℤ pos (2 ^ k) *ℤ at p q (suc d) (halved k (x ∷ xs))) (pos (2 ^ k + length xs * 2 ^ k) *ℤ (q *ℤ power q d)) (pos (suc (length xs) * 2 ^ k) *ℤ (q *ℤ power q d)) (ring (p ∷ q ∷ x ∷ pos (2 ^ k) ∷ floor_div x (2 ^ k) ∷ power q d ∷ at p q d xs ∷ at p q d (halved k xs) ∷ []) ((v 2 ⊖ v 3 ⊗ v 4) ⊗ (v 1 ⊗ v 5) ⊕ v 0 ⊗ (v 6 ⊖ v 3 ⊗ v 7)) ((v 2 ⊗ (v 1 ⊗ v 5) ⊕ v 0 ⊗ v 6) ⊖ v 3 ⊗ (v 4 ⊗ (v 1 ⊗ v 5) ⊕ v 0 ⊗ v 7)) tt) (ap (λ m. pos m *ℤ (q *ℤ power q d)) n) w

-- ---- at most the sizes of the others from one with the first coefficients alone
same_apart : (a b : ℤ) → pos 0 ≤ℤ b → Within (a -ℤ a) b
same_apart a b h = record { low = omega (arith, lin); high = omega (arith, lin) }

none_apart : (a b : ℤ) → Within a b → Within (a -ℤ pos 0) b
none_apart a b w =
    let l = w.low in
    let h = w.high in
    record { low = omega (arith, lin); high = omega (arith, lin) }

pub Within-cut : (p q : ℤ) (d n : ℕ) (xs : List ℤ) → IsArgument p q → Within (at p q d xs -ℤ at p q d (take n xs)) (pos (sizes (drop n xs)) *ℤ power q d)
Within-cut p q zero zero xs g = none_apart (at p q 0 xs) (pos (sizes xs) *ℤ power q 0) (Within-at p q 0 xs g)
Within-cut p q (suc d) zero xs g = none_apart (at p q (suc d) xs) (pos (sizes xs) *ℤ power q (suc d)) (Within-at p q (suc d) xs g)
Within-cut p q zero (suc n) [] g = record { low = omega (arith, lin); high = omega (arith, lin) }
Within-cut p q (suc d) (suc n) [] g = same_apart (pos 0) (pos 0 *ℤ power q (suc d)) (nonneg-times 0 (power q (suc d)) (power0 p q (suc d) g))
Within-cut p q zero (suc n) (x ∷ xs) g = same_apart x (pos (sizes (drop n xs)) *ℤ pos 1) (nonneg-times (sizes (drop n xs)) (pos 1) (omega (arith, lin)))
Within-cut p q (suc d) (suc n) (x ∷ xs) g =
    let w : Within (p *ℤ (at p q d xs -ℤ at p q d (take n xs))) (pos (sizes (drop n xs)) *ℤ (q *ℤ power q d)) = Within-times p q (power q d) g (power0 p q d g) (at p q d xs -ℤ at p q d (take n xs)) (sizes (drop n xs)) (Within-cut p q d n xs g) in
    Within-is (p *ℤ (at p q d xs -ℤ at p q d (take n xs))) (at p q (suc d) (x ∷ xs) -ℤ at p q (suc d) (x ∷ take n xs)) (pos (sizes (drop n xs)) *ℤ (q *ℤ power q d)) (pos (sizes (drop n xs)) *ℤ (q *ℤ power q d)) (ring (p ∷ x ∷ (q *ℤ power q d) ∷ at p q d xs ∷ at p q d (take n xs) ∷ []) (v 0 ⊗ (v 3 ⊖ v 4)) ((v 1 ⊗ v 2 ⊕ v 0 ⊗ v 3) ⊖ (v 1 ⊗ v 2 ⊕ v 0 ⊗ v 4)) tt) refl w

-- ---- and from one argument to another at most the slope times the distance
pub weighted-suc : (n : ℕ) (xs : List ℤ) → weighted_sizes (suc n) xs ≡ sizes xs + weighted_sizes n xs
weighted-suc n [] = refl
weighted-suc n (x ∷ xs) = let ih : weighted_sizes (suc (suc n)) xs ≡ sizes xs + weighted_sizes (suc n) xs = weighted-suc (suc n) xs in omega arith

slope-next : (x : ℤ) (xs : List ℤ) → slope (x ∷ xs) ≡ sizes xs + slope xs
slope-next x xs = let e : weighted_sizes 1 xs ≡ sizes xs + weighted_sizes 0 xs = weighted-suc 0 xs in omega arith

pub Within-moved : (p o q : ℤ) (d : ℕ) (xs : List ℤ) → IsArgument p q → IsArgument o q → Within ((at p q d xs -ℤ at o q d xs) *ℤ q) (pos (unsigned_abs (p -ℤ o) * slope xs) *ℤ power q d)
Within-moved p o q zero [] g h =
    Within-is (pos 0) ((pos 0 -ℤ pos 0) *ℤ q) (pos (unsigned_abs (p -ℤ o) * 0) *ℤ pos 1) (pos (unsigned_abs (p -ℤ o) * 0) *ℤ pos 1) (ring (q ∷ []) (lit (pos 0)) ((lit (pos 0) ⊖ lit (pos 0)) ⊗ v 0) tt) refl (Within-zero (pos (unsigned_abs (p -ℤ o) * 0) *ℤ pos 1) (nonneg-times (unsigned_abs (p -ℤ o) * 0) (pos 1) (omega (arith, lin))))
Within-moved p o q (suc d) [] g h =
    Within-is (pos 0) ((pos 0 -ℤ pos 0) *ℤ q) (pos (unsigned_abs (p -ℤ o) * 0) *ℤ power q (suc d)) (pos (unsigned_abs (p -ℤ o) * 0) *ℤ power q (suc d)) (ring (q ∷ []) (lit (pos 0)) ((lit (pos 0) ⊖ lit (pos 0)) ⊗ v 0) tt) refl (Within-zero (pos (unsigned_abs (p -ℤ o) * 0) *ℤ power q (suc d)) (nonneg-times (unsigned_abs (p -ℤ o) * 0) (power q (suc d)) (power0 p q (suc d) g)))
Within-moved p o q zero (x ∷ xs) g h =
    Within-is (pos 0) ((x -ℤ x) *ℤ q) (pos (unsigned_abs (p -ℤ o) * slope (x ∷ xs)) *ℤ pos 1) (pos (unsigned_abs (p -ℤ o) * slope (x ∷ xs)) *ℤ pos 1) (ring (x ∷ q ∷ []) (lit (pos 0)) ((v 0 ⊖ v 0) ⊗ v 1) tt) refl (Within-zero (pos (unsigned_abs (p -ℤ o) * slope (x ∷ xs)) *ℤ pos 1) (nonneg-times (unsigned_abs (p -ℤ o) * slope (x ∷ xs)) (pos 1) (omega (arith, lin))))
Within-moved p o q (suc d) (x ∷ xs) g h =
    let p0 = g.positive in
    let u : pos 0 ≤ℤ q = omega (arith, lin) in
    let n0 : pos 0 ≤ℤ power q d = power0 p q d g in
    let s : Within ((p -ℤ o) *ℤ at p q d xs) (pos (unsigned_abs (p -ℤ o)) *ℤ (pos (sizes xs) *ℤ power q d)) = Within-mul (p -ℤ o) (at p q d xs) (pos (unsigned_abs (p -ℤ o))) (pos (sizes xs) *ℤ power q d) (omega (arith, lin)) (nonneg-times (sizes xs) (power q d) n0) (Within-size (p -ℤ o)) (Within-at p q d xs g) in
    let s' : Within ((p -ℤ o) *ℤ at p q d xs *ℤ q) (pos (unsigned_abs (p -ℤ o)) *ℤ (pos (sizes xs) *ℤ power q d) *ℤ q) = Within-scale ((p -ℤ o) *ℤ at p q d xs) (pos (unsigned_abs (p -ℤ o)) *ℤ (pos (sizes xs) *ℤ power q d)) q u s in
    let t : Within (o *ℤ ((at p q d xs -ℤ at o q d xs) *ℤ q)) (pos (unsigned_abs (p -ℤ o) * slope xs) *ℤ (q *ℤ power q d)) = Within-times o q (power q d) h n0 ((at p q d xs -ℤ at o q d xs) *ℤ q) (unsigned_abs (p -ℤ o) * slope xs) (Within-moved p o q d xs g h) in
    let w : Within ((p -ℤ o) *ℤ at p q d xs *ℤ q +ℤ o *ℤ ((at p q d xs -ℤ at o q d xs) *ℤ q)) (pos (unsigned_abs (p -ℤ o)) *ℤ (pos (sizes xs) *ℤ power q d) *ℤ q +ℤ pos (unsigned_abs (p -ℤ o) * slope xs) *ℤ (q *ℤ power q d)) = Within-add ((p -ℤ o) *ℤ at p q d xs *ℤ q) (o *ℤ ((at p q d xs -ℤ at o q d xs) *ℤ q)) (pos (unsigned_abs (p -ℤ o)) *ℤ (pos (sizes xs) *ℤ power q d) *ℤ q) (pos (unsigned_abs (p -ℤ o) * slope xs) *ℤ (q *ℤ power q d)) s' t in
    let e : (p -ℤ o) *ℤ at p q d xs *ℤ q +ℤ o *ℤ ((at p q d xs -ℤ at o q d xs) *ℤ q) ≡ (at p q (suc d) (x ∷ xs) -ℤ at o q (suc d) (x ∷ xs)) *ℤ q = ring (p ∷ o ∷ q ∷ x ∷ (q *ℤ power q d) ∷ at p q d xs ∷ at o q d xs ∷ []) ((v 0 ⊖ v 1) ⊗ v 5 ⊗ v 2 ⊕ v 1 ⊗ ((v 5 ⊖ v 6) ⊗ v 2)) (((v 3 ⊗ v 4 ⊕ v 0 ⊗ v 5) ⊖ (v 3 ⊗ v 4 ⊕ v 1 ⊗ v 6)) ⊗ v 2) tt in
    let f : pos (unsigned_abs (p -ℤ o)) *ℤ (pos (sizes xs) *ℤ power q d) *ℤ q +ℤ pos (unsigned_abs (p -ℤ o) * slope xs) *ℤ (q *ℤ power q d) ≡ pos (unsigned_abs (p -ℤ o) * (sizes xs + slope xs)) *ℤ (q *ℤ power q d) = ring (pos (unsigned_abs (p -ℤ o)) ∷ pos (sizes xs) ∷ pos (slope xs) ∷ q ∷ power q d ∷ []) (v 0 ⊗ (v 1 ⊗ v 4) ⊗ v 3 ⊕ (v 0 ⊗ v 2) ⊗ (v 3 ⊗ v 4)) ((v 0 ⊗ (v 1 ⊕ v 2)) ⊗ (v 3 ⊗ v 4)) tt in
    Within-is ((p -ℤ o) *ℤ at p q d xs *ℤ q +ℤ o *ℤ ((at p q d xs -ℤ at o q d xs) *ℤ q)) ((at p q (suc d) (x ∷ xs) -ℤ at o q (suc d) (x ∷ xs)) *ℤ q) (pos (unsigned_abs (p -ℤ o)) *ℤ (pos (sizes xs) *ℤ power q d) *ℤ q +ℤ pos (unsigned_abs (p -ℤ o) * slope xs) *ℤ (q *ℤ power q d)) (pos (unsigned_abs (p -ℤ o) * slope (x ∷ xs)) *ℤ (q *ℤ power q d)) e (f ∙ ap (λ n. pos (unsigned_abs (p -ℤ o) * n) *ℤ (q *ℤ power q d)) (sym (slope-next x xs))) w
