-- Square roots rounded up, and what holds near them: where x k^2 <= t^2 y for one t whose square is just above k^2 m, and k
-- is large, x <= m y.
use Rattle.std.proofs.Common.{◌≡◌, ℕ, zero, suc, arith, [], ◌∷◌, ℤ, pos, negsuc, ◌+ℤ◌, ◌-ℤ◌, ◌*ℤ◌, ◌≤ℤ◌, ◌<ℤ◌}
use Rattle.std.proofs.lemmas.Int.{by_lt_z}
use Rattle.spec_numbers.proofs.Ring.{v, k as lit, ◌⊕◌, ◌⊖◌, ◌⊗◌, ring}
use Rattle.spec_numbers.proofs.Order.{lin, le-mul, nonneg-square}
use Rattle.spec_numbers.proofs.Whole.{nonneg-mul}
use Rattle.spec_chebyshev.proofs.Polynomials.{le_from_squares}
use Rattle.spec_meanings.proofs.Cancel.{positive-mul, cancel_le}

-- t is the least whole number above the root of n
pub record IsRootAbove (n t : ℤ) : Type 0 where
  pub positive : pos 0 <ℤ t
  pub above : n <ℤ (t *ℤ t)
  pub least : ((t -ℤ pos 1) *ℤ (t -ℤ pos 1)) ≤ℤ n

pub record HasRootAbove (n : ℤ) : Type 0 where
  pub root : ℤ
  pub is : IsRootAbove n root

one_less : (t : ℤ) → (t -ℤ pos 1) *ℤ (t -ℤ pos 1) ≡ (t *ℤ t -ℤ (t +ℤ t)) +ℤ pos 1
one_less t = ring (t ∷ []) ((v 0 ⊖ lit (pos 1)) ⊗ (v 0 ⊖ lit (pos 1))) ((v 0 ⊗ v 0 ⊖ (v 0 ⊕ v 0)) ⊕ lit (pos 1)) tt

one_more : (t : ℤ) → (t +ℤ pos 1) *ℤ (t +ℤ pos 1) ≡ (t *ℤ t +ℤ (t +ℤ t)) +ℤ pos 1
one_more t = ring (t ∷ []) ((v 0 ⊕ lit (pos 1)) ⊗ (v 0 ⊕ lit (pos 1))) ((v 0 ⊗ v 0 ⊕ (v 0 ⊕ v 0)) ⊕ lit (pos 1)) tt

next_root : (n : ℕ) (t : ℤ) → IsRootAbove (pos n) t → HasRootAbove (pos (suc n))
next_root n t h =
    let p : pos 0 <ℤ t = h.positive in
    let a : pos n <ℤ (t *ℤ t) = h.above in
    let l : ((t -ℤ pos 1) *ℤ (t -ℤ pos 1)) ≤ℤ pos n = h.least in
    by_lt_z (pos (suc n)) (t *ℤ t) (λ g. record { root = t; is = record { positive = p; above = g; least = omega (arith, lin) } }) (λ g. let m = one_more t in let b = one_less (t +ℤ pos 1) in record { root = t +ℤ pos 1; is = record { positive = omega (arith, lin); above = omega (arith, lin); least = omega (arith, lin) } })

root_of_natural : (n : ℕ) → HasRootAbove (pos n)
root_of_natural zero = record { root = pos 1; is = record { positive = omega (arith, lin); above = omega (arith, lin); least = omega (arith, lin) } }
root_of_natural (suc n) = let h = root_of_natural n in next_root n h.root h.is

pub root_above : (n : ℤ) → pos 0 ≤ℤ n → HasRootAbove n
root_above (pos n) h = root_of_natural n
root_above (negsuc n) h = absurd (omega (arith, lin))

-- t^2 <= n + 2 t
pub just_above : (n t : ℤ) → IsRootAbove n t → (t *ℤ t) ≤ℤ (n +ℤ (t +ℤ t))
just_above n t h = let e = one_less t in let l : ((t -ℤ pos 1) *ℤ (t -ℤ pos 1)) ≤ℤ n = h.least in omega (arith, lin)

module _ (x y m k t : ℤ) (y0 : pos 0 ≤ℤ y) (m0 : pos 0 <ℤ m) (k0 : pos 0 <ℤ k) (root : IsRootAbove ((k *ℤ k) *ℤ m) t) (near : (x *ℤ (k *ℤ k)) ≤ℤ ((t *ℤ t) *ℤ y)) where
  -- t <= 2 k m
  root_low : t ≤ℤ (k *ℤ m +ℤ k *ℤ m)
  root_low =
      let km : pos 0 <ℤ (k *ℤ m) = positive-mul k m k0 m0 in
      let kk : pos 0 ≤ℤ (k *ℤ k) = nonneg-square k in
      let l : ((t -ℤ pos 1) *ℤ (t -ℤ pos 1)) ≤ℤ ((k *ℤ k) *ℤ m) = root.least in
      let kkm : pos 0 ≤ℤ ((k *ℤ k) *ℤ m) = nonneg-mul (k *ℤ k) m kk (omega (arith, lin)) in
      let more : (pos 1 *ℤ ((k *ℤ k) *ℤ m)) ≤ℤ (m *ℤ ((k *ℤ k) *ℤ m)) = le-mul (pos 1) m ((k *ℤ k) *ℤ m) kkm (omega (arith, lin)) in
      let one : pos 1 *ℤ ((k *ℤ k) *ℤ m) ≡ (k *ℤ k) *ℤ m = ring (((k *ℤ k) *ℤ m) ∷ []) (lit (pos 1) ⊗ v 0) (v 0) tt in
      let square : m *ℤ ((k *ℤ k) *ℤ m) ≡ (k *ℤ m) *ℤ (k *ℤ m) = ring (k ∷ m ∷ []) (v 1 ⊗ ((v 0 ⊗ v 0) ⊗ v 1)) ((v 0 ⊗ v 1) ⊗ (v 0 ⊗ v 1)) tt in
      let r : (t -ℤ pos 1) ≤ℤ (k *ℤ m) = le_from_squares (t -ℤ pos 1) (k *ℤ m) (omega (arith, lin)) (omega (arith, lin)) in
      omega (arith, lin)

  -- against m y < x
  too_near : (m *ℤ y) <ℤ x → k ≤ℤ ((m *ℤ y +ℤ m *ℤ y) +ℤ (m *ℤ y +ℤ m *ℤ y))
  too_near more =
      let kk : pos 0 ≤ℤ (k *ℤ k) = nonneg-square k in
      let a : ((m *ℤ y +ℤ pos 1) *ℤ (k *ℤ k)) ≤ℤ (x *ℤ (k *ℤ k)) = le-mul (m *ℤ y +ℤ pos 1) x (k *ℤ k) kk (omega (arith, lin)) in
      let ae : (m *ℤ y +ℤ pos 1) *ℤ (k *ℤ k) ≡ ((k *ℤ k) *ℤ m) *ℤ y +ℤ k *ℤ k = ring (m ∷ y ∷ k ∷ []) ((v 0 ⊗ v 1 ⊕ lit (pos 1)) ⊗ (v 2 ⊗ v 2)) (((v 2 ⊗ v 2) ⊗ v 0) ⊗ v 1 ⊕ v 2 ⊗ v 2) tt in
      let b : ((t *ℤ t) *ℤ y) ≤ℤ (((k *ℤ k) *ℤ m +ℤ (t +ℤ t)) *ℤ y) = le-mul (t *ℤ t) ((k *ℤ k) *ℤ m +ℤ (t +ℤ t)) y y0 (just_above ((k *ℤ k) *ℤ m) t root) in
      let be : ((k *ℤ k) *ℤ m +ℤ (t +ℤ t)) *ℤ y ≡ ((k *ℤ k) *ℤ m) *ℤ y +ℤ (t *ℤ y +ℤ t *ℤ y) = ring (((k *ℤ k) *ℤ m) ∷ t ∷ y ∷ []) ((v 0 ⊕ (v 1 ⊕ v 1)) ⊗ v 2) (v 0 ⊗ v 2 ⊕ (v 1 ⊗ v 2 ⊕ v 1 ⊗ v 2)) tt in
      let c : (t *ℤ y) ≤ℤ ((k *ℤ m +ℤ k *ℤ m) *ℤ y) = le-mul t (k *ℤ m +ℤ k *ℤ m) y y0 root_low in
      let ce : (k *ℤ m +ℤ k *ℤ m) *ℤ y ≡ (m *ℤ y +ℤ m *ℤ y) *ℤ k = ring (k ∷ m ∷ y ∷ []) ((v 0 ⊗ v 1 ⊕ v 0 ⊗ v 1) ⊗ v 2) ((v 1 ⊗ v 2 ⊕ v 1 ⊗ v 2) ⊗ v 0) tt in
      let de : ((m *ℤ y +ℤ m *ℤ y) +ℤ (m *ℤ y +ℤ m *ℤ y)) *ℤ k ≡ (m *ℤ y +ℤ m *ℤ y) *ℤ k +ℤ (m *ℤ y +ℤ m *ℤ y) *ℤ k = ring ((m *ℤ y +ℤ m *ℤ y) ∷ k ∷ []) ((v 0 ⊕ v 0) ⊗ v 1) (v 0 ⊗ v 1 ⊕ v 0 ⊗ v 1) tt in
      cancel_le k ((m *ℤ y +ℤ m *ℤ y) +ℤ (m *ℤ y +ℤ m *ℤ y)) k k0 (omega (arith, lin))

  pub in_the_limit : ((m *ℤ y +ℤ m *ℤ y) +ℤ (m *ℤ y +ℤ m *ℤ y)) <ℤ k → x ≤ℤ (m *ℤ y)
  in_the_limit big = by_lt_z (m *ℤ y) x (λ h. absurd (let n = too_near h in omega (arith, lin))) (λ h. h)
