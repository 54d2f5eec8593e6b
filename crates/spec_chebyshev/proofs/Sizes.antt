-- The sums that divided differences are, and the sizes of the polynomials and of their divided differences.
use Rattle.std.proofs.Common.{◌≡◌, ℕ, zero, suc, ◌+◌, ◌*◌, arith, refl, ap, [], ◌∷◌, ℤ, pos, ◌+ℤ◌, ◌-ℤ◌, ◌*ℤ◌, neg_ℤ, ◌≤ℤ◌}
use Rattle.spec_chebyshev.specs.Polynomials.{cleared_t, cleared_u}
use Rattle.spec_numbers.specs.Numbers.{power}
use Rattle.spec_chebyshev.specs.Differences.{difference_t, difference_u, weighted_sum, t_weight, u_weight, IsArgument, Within}
use Rattle.spec_chebyshev.specs.Rows.{t_size, u_size, q_size, r_size}
use Rattle.spec_numbers.proofs.Ring.{Poly, v, k as lit, ◌⊕◌, ◌⊖◌, ◌⊗◌, minus, ring}
use Rattle.spec_numbers.proofs.Integers.{times_one}
use Rattle.spec_numbers.proofs.Order.{lin}
use Rattle.spec_numbers.proofs.Whole.{nonneg-mul}
use Rattle.spec_numbers.proofs.Corners.{corner_low, corner_high}
use Rattle.spec_chebyshev.proofs.Polynomials.{mixed, nonneg-power, cleared_t-above, cleared_t-below}

-- ---- the sum obeys the recurrence in i, and so the divided difference is a sum
sum_step : (u l f w0 w1 w2 u0 u1 : ℤ) → w2 ≡ pos 2 *ℤ u *ℤ w1 -ℤ l *ℤ l *ℤ w0 → w2 +ℤ f *ℤ (pos 2 *ℤ u *ℤ u1 -ℤ l *ℤ l *ℤ u0) ≡ pos 2 *ℤ u *ℤ (w1 +ℤ f *ℤ u1) -ℤ l *ℤ l *ℤ (w0 +ℤ f *ℤ u0)
sum_step u l f w0 w1 w2 u0 u1 e =
    let U : Poly = v 0 in
    let L : Poly = v 1 in
    let F : Poly = v 2 in
    rw e (ring (u ∷ l ∷ f ∷ w0 ∷ w1 ∷ u0 ∷ u1 ∷ []) ((lit (pos 2) ⊗ U ⊗ v 4 ⊖ L ⊗ L ⊗ v 3) ⊕ F ⊗ (lit (pos 2) ⊗ U ⊗ v 6 ⊖ L ⊗ L ⊗ v 5)) (lit (pos 2) ⊗ U ⊗ (v 4 ⊕ F ⊗ v 6) ⊖ L ⊗ L ⊗ (v 3 ⊕ F ⊗ v 5)) tt)

weighted_sum-step : (f : ℕ → ℤ) (u l : ℤ) (m i : ℕ) → weighted_sum f u l m (suc (suc i)) ≡ pos 2 *ℤ u *ℤ weighted_sum f u l m (suc i) -ℤ l *ℤ l *ℤ weighted_sum f u l m i
weighted_sum-step f u l zero i =
    ring (u ∷ l ∷ []) (lit (pos 0)) (lit (pos 2) ⊗ v 0 ⊗ lit (pos 0) ⊖ v 1 ⊗ v 1 ⊗ lit (pos 0)) tt
weighted_sum-step f u l (suc m) i =
    sum_step u l (f m) (weighted_sum f u l m (suc i)) (weighted_sum f u l m (suc (suc i))) (weighted_sum f u l m (suc (suc (suc i)))) (cleared_u u l i) (cleared_u u l (suc i)) (weighted_sum-step f u l m (suc i))

join_step : (u l f0 f1 w0 w1 w2 d0 d1 : ℤ) → w2 ≡ pos 2 *ℤ u *ℤ w1 -ℤ l *ℤ l *ℤ w0 → d0 ≡ w0 → d1 ≡ w1 +ℤ f0 *ℤ pos 1 → pos 2 *ℤ u *ℤ d1 +ℤ f1 -ℤ l *ℤ l *ℤ d0 ≡ (w2 +ℤ f0 *ℤ (pos 2 *ℤ u)) +ℤ f1 *ℤ pos 1
join_step u l f0 f1 w0 w1 w2 d0 d1 e p q =
    let U : Poly = v 0 in
    let L : Poly = v 1 in
    rw (e, p, q) (ring (u ∷ l ∷ f0 ∷ f1 ∷ w0 ∷ w1 ∷ []) (lit (pos 2) ⊗ U ⊗ (v 5 ⊕ v 2 ⊗ lit (pos 1)) ⊕ v 3 ⊖ L ⊗ L ⊗ v 4) (((lit (pos 2) ⊗ U ⊗ v 5 ⊖ L ⊗ L ⊗ v 4) ⊕ v 2 ⊗ (lit (pos 2) ⊗ U)) ⊕ v 3 ⊗ lit (pos 1)) tt)

t_two : (a u l : ℤ) (k : ℕ) → (difference_t a u l k ≡ weighted_sum (t_weight a l) u l k 0) × (difference_t a u l (suc k) ≡ weighted_sum (t_weight a l) u l (suc k) 0)
t_two a u l zero = (refl, refl)
t_two a u l (suc k) =
    let ih : (difference_t a u l k ≡ weighted_sum (t_weight a l) u l k 0) × (difference_t a u l (suc k) ≡ weighted_sum (t_weight a l) u l (suc k) 0) = t_two a u l k in
    (ih.1, join_step u l (t_weight a l k) (t_weight a l (suc k)) (weighted_sum (t_weight a l) u l k 0) (weighted_sum (t_weight a l) u l k 1) (weighted_sum (t_weight a l) u l k 2) (difference_t a u l k) (difference_t a u l (suc k)) (weighted_sum-step (t_weight a l) u l k 0) ih.0 ih.1)

u_two : (a u l : ℤ) (k : ℕ) → (difference_u a u l k ≡ weighted_sum (u_weight a l) u l k 0) × (difference_u a u l (suc k) ≡ weighted_sum (u_weight a l) u l (suc k) 0)
u_two a u l zero = (refl, refl)
u_two a u l (suc k) =
    let ih : (difference_u a u l k ≡ weighted_sum (u_weight a l) u l k 0) × (difference_u a u l (suc k) ≡ weighted_sum (u_weight a l) u l (suc k) 0) = u_two a u l k in
    (ih.1, join_step u l (u_weight a l k) (u_weight a l (suc k)) (weighted_sum (u_weight a l) u l k 0) (weighted_sum (u_weight a l) u l k 1) (weighted_sum (u_weight a l) u l k 2) (difference_u a u l k) (difference_u a u l (suc k)) (weighted_sum-step (u_weight a l) u l k 0) ih.0 ih.1)

pub difference_t-sum : (a u l : ℤ) (k : ℕ) → difference_t a u l k ≡ weighted_sum (t_weight a l) u l k 0
difference_t-sum a u l k = (t_two a u l k).0

pub difference_u-sum : (a u l : ℤ) (k : ℕ) → difference_u a u l k ≡ weighted_sum (u_weight a l) u l k 0
difference_u-sum a u l k = (u_two a u l k).0

-- ---- sizes of products and sums
pub Within-mul : (p q a b : ℤ) → pos 0 ≤ℤ a → pos 0 ≤ℤ b → Within p a → Within q b → Within (p *ℤ q) (a *ℤ b)
Within-mul p q a b ha hb wp wq =
    let n : pos 0 ≤ℤ (a *ℤ b) = nonneg-mul a b ha hb in
    let nn : neg_ℤ a *ℤ neg_ℤ b ≡ a *ℤ b = ring (a ∷ b ∷ []) (minus (v 0) ⊗ minus (v 1)) (v 0 ⊗ v 1) tt in
    let np : neg_ℤ a *ℤ b ≡ neg_ℤ (a *ℤ b) = ring (a ∷ b ∷ []) (minus (v 0) ⊗ v 1) (minus (v 0 ⊗ v 1)) tt in
    let pn : a *ℤ neg_ℤ b ≡ neg_ℤ (a *ℤ b) = ring (a ∷ b ∷ []) (v 0 ⊗ minus (v 1)) (minus (v 0 ⊗ v 1)) tt in
    record {
      low = corner_low (neg_ℤ (a *ℤ b)) (neg_ℤ a) a (neg_ℤ b) b p q wp.low wp.high wq.low wq.high (omega (arith, lin)) (omega (arith, lin)) (omega (arith, lin)) (omega (arith, lin));
      high = corner_high (a *ℤ b) (neg_ℤ a) a (neg_ℤ b) b p q wp.low wp.high wq.low wq.high (omega (arith, lin)) (omega (arith, lin)) (omega (arith, lin)) (omega (arith, lin));
    }

pub Within-add : (p q a b : ℤ) → Within p a → Within q b → Within (p +ℤ q) (a +ℤ b)
Within-add p q a b wp wq =
    let pl = wp.low in
    let ph = wp.high in
    let ql = wq.low in
    let qh = wq.high in
    record { low = omega (arith, lin); high = omega (arith, lin) }

Within-self : (l : ℤ) → pos 0 ≤ℤ l → Within l l
Within-self l h = record { low = omega (arith, lin); high = omega (arith, lin) }

-- ---- |T k| <= l^k and |U k| <= (k + 1) l^k
pub Within-t : (u l : ℤ) (k : ℕ) → IsArgument u l → Within (cleared_t u l k) (pos (t_size k) *ℤ power l k)
Within-t u l k h =
    let p = h.positive in
    let l0 : pos 0 ≤ℤ l = omega (arith, lin) in
    let one : pos 1 *ℤ power l k ≡ power l k = ring (power l k ∷ []) (lit (pos 1) ⊗ v 0) (v 0) tt in
    rw one (record { low = cleared_t-below u l k l0 h.high h.low; high = cleared_t-above u l k l0 h.high h.low })

pub Within-u : (u l : ℤ) (k : ℕ) → IsArgument u l → Within (cleared_u u l k) (pos (u_size k) *ℤ power l k)
Within-u u l zero h = record { low = omega (arith, lin); high = omega (arith, lin) }
Within-u u l (suc k) h =
    let p = h.positive in
    let l0 : pos 0 ≤ℤ l = omega (arith, lin) in
    let pk : pos 0 ≤ℤ power l k = nonneg-power l k l0 in
    let t : Within (cleared_t u l (suc k)) (pos 1 *ℤ power l (suc k)) = Within-t u l (suc k) h in
    let m : Within (u *ℤ cleared_u u l k) (l *ℤ (pos (suc k) *ℤ power l k)) = Within-mul u (cleared_u u l k) l (pos (suc k) *ℤ power l k) l0 (nonneg-mul (pos (suc k)) (power l k) (omega (arith, lin)) pk) (record { low = h.low; high = h.high }) (Within-u u l k h) in
    let s : pos (suc (suc k)) ≡ pos (suc k) +ℤ pos 1 = ap pos (omega arith) in
    let e : (pos (suc k) +ℤ pos 1) *ℤ (l *ℤ power l k) ≡ pos 1 *ℤ (l *ℤ power l k) +ℤ l *ℤ (pos (suc k) *ℤ power l k) = ring (pos (suc k) ∷ l ∷ power l k ∷ []) ((v 0 ⊕ lit (pos 1)) ⊗ (v 1 ⊗ v 2)) (lit (pos 1) ⊗ (v 1 ⊗ v 2) ⊕ v 1 ⊗ (v 0 ⊗ v 2)) tt in
    rw (s, e, (mixed u l k).1) (Within-add (cleared_t u l (suc k)) (u *ℤ cleared_u u l k) (pos 1 *ℤ power l (suc k)) (l *ℤ (pos (suc k) *ℤ power l k)) t m)

-- ---- the size of a sum whose weights are at most F_j l^j
-- the sum of F_j (m - j + i) over j < m
abbrev pub total : (ℕ → ℕ) → ℕ → ℕ → ℕ
total F zero i = 0
total F (suc m) i = total F m (suc i) + F m * suc i

add_step : (l w f u c F i P Q : ℤ) → pos 0 ≤ℤ l → pos 0 ≤ℤ F → pos 0 ≤ℤ i → pos 0 ≤ℤ P → pos 0 ≤ℤ Q → Within (l *ℤ w) (c *ℤ (P *ℤ (l *ℤ Q))) → Within f (F *ℤ P) → Within u (i *ℤ Q) → Within (l *ℤ (w +ℤ f *ℤ u)) ((c +ℤ F *ℤ i) *ℤ ((l *ℤ P) *ℤ Q))
add_step l w f u c F i P Q l0 F0 i0 P0 Q0 hw hf hu =
    let fp : pos 0 ≤ℤ (F *ℤ P) = nonneg-mul F P F0 P0 in
    let iq : pos 0 ≤ℤ (i *ℤ Q) = nonneg-mul i Q i0 Q0 in
    let fu : Within (f *ℤ u) ((F *ℤ P) *ℤ (i *ℤ Q)) = Within-mul f u (F *ℤ P) (i *ℤ Q) fp iq hf hu in
    let lfu : Within (l *ℤ (f *ℤ u)) (l *ℤ ((F *ℤ P) *ℤ (i *ℤ Q))) = Within-mul l (f *ℤ u) l ((F *ℤ P) *ℤ (i *ℤ Q)) l0 (nonneg-mul (F *ℤ P) (i *ℤ Q) fp iq) (Within-self l l0) fu in
    let e : (c +ℤ F *ℤ i) *ℤ ((l *ℤ P) *ℤ Q) ≡ c *ℤ (P *ℤ (l *ℤ Q)) +ℤ l *ℤ ((F *ℤ P) *ℤ (i *ℤ Q)) = ring (l ∷ c ∷ F ∷ i ∷ P ∷ Q ∷ []) ((v 1 ⊕ v 2 ⊗ v 3) ⊗ ((v 0 ⊗ v 4) ⊗ v 5)) (v 1 ⊗ (v 4 ⊗ (v 0 ⊗ v 5)) ⊕ v 0 ⊗ ((v 2 ⊗ v 4) ⊗ (v 3 ⊗ v 5))) tt in
    let d : l *ℤ (w +ℤ f *ℤ u) ≡ l *ℤ w +ℤ l *ℤ (f *ℤ u) = ring (l ∷ w ∷ f ∷ u ∷ []) (v 0 ⊗ (v 1 ⊕ v 2 ⊗ v 3)) (v 0 ⊗ v 1 ⊕ v 0 ⊗ (v 2 ⊗ v 3)) tt in
    rw (e, d) (Within-add (l *ℤ w) (l *ℤ (f *ℤ u)) (c *ℤ (P *ℤ (l *ℤ Q))) (l *ℤ ((F *ℤ P) *ℤ (i *ℤ Q))) hw lfu)

Within-sum : (f : ℕ → ℤ) (F : ℕ → ℕ) (u l : ℤ) → IsArgument u l → ((j : ℕ) → Within (f j) (pos (F j) *ℤ power l j)) → (m i : ℕ) → Within (l *ℤ weighted_sum f u l m i) (pos (total F m i) *ℤ (power l m *ℤ power l i))
Within-sum f F u l h b zero i =
    let e : l *ℤ pos 0 ≡ pos 0 = ring (l ∷ []) (v 0 ⊗ lit (pos 0)) (lit (pos 0)) tt in
    let d : pos 0 *ℤ (pos 1 *ℤ power l i) ≡ pos 0 = ring (power l i ∷ []) (lit (pos 0) ⊗ (lit (pos 1) ⊗ v 0)) (lit (pos 0)) tt in
    rw (e, d) (record { low = omega (arith, lin); high = omega (arith, lin) })
Within-sum f F u l h b (suc m) i =
    let p = h.positive in
    let l0 : pos 0 ≤ℤ l = omega (arith, lin) in
    add_step l (weighted_sum f u l m (suc i)) (f m) (cleared_u u l i) (pos (total F m (suc i))) (pos (F m)) (pos (suc i)) (power l m) (power l i) l0 (omega (arith, lin)) (omega (arith, lin)) (nonneg-power l m l0) (nonneg-power l i l0) (Within-sum f F u l h b m (suc i)) (b m) (Within-u u l i h)

-- ---- k^2 and k (k + 1) (k + 2) / 3
abbrev t_total : ℕ → ℕ
t_total zero = 1
t_total (suc j) = 2

abbrev u_total : ℕ → ℕ
u_total j = 2 * suc j

squares : (m i : ℕ) → total t_total (suc m) i ≡ suc m * suc m + i * (m + suc m)
squares zero i = omega arith
squares (suc m) i = let ih : total t_total (suc m) (suc i) ≡ suc m * suc m + suc i * (m + suc m) = squares m (suc i) in omega arith

total_is_square : (k : ℕ) → total t_total k 0 ≡ q_size k
total_is_square zero = refl
total_is_square (suc k) = let e : total t_total (suc k) 0 ≡ suc k * suc k + 0 * (k + suc k) = squares k 0 in omega arith

thirds : (m i : ℕ) → 3 * total u_total m i ≡ m * suc m * suc (suc m) + 3 * (i * (m * suc m))
thirds zero i = omega arith
thirds (suc m) i = let ih : 3 * total u_total m (suc i) ≡ m * suc m * suc (suc m) + 3 * (suc i * (m * suc m)) = thirds m (suc i) in omega arith

total_is_third : (k : ℕ) → total u_total k 0 ≡ r_size k
total_is_third k = let e : 3 * total u_total k 0 ≡ k * suc k * suc (suc k) + 3 * (0 * (k * suc k)) = thirds k 0 in omega arith

t_weights : (a l : ℤ) → IsArgument a l → (j : ℕ) → Within (t_weight a l j) (pos (t_total j) *ℤ power l j)
t_weights a l h zero = record { low = omega (arith, lin); high = omega (arith, lin) }
t_weights a l h (suc j) =
    let p = h.positive in
    let l0 : pos 0 ≤ℤ l = omega (arith, lin) in
    let w : Within (pos 2 *ℤ cleared_t a l (suc j)) (pos 2 *ℤ (pos 1 *ℤ power l (suc j))) = Within-mul (pos 2) (cleared_t a l (suc j)) (pos 2) (pos 1 *ℤ power l (suc j)) (omega (arith, lin)) (nonneg-mul (pos 1) (power l (suc j)) (omega (arith, lin)) (nonneg-power l (suc j) l0)) (Within-self (pos 2) (omega (arith, lin))) (Within-t a l (suc j) h) in
    let e : pos 2 *ℤ (pos 1 *ℤ power l (suc j)) ≡ pos 2 *ℤ power l (suc j) = ring (power l (suc j) ∷ []) (lit (pos 2) ⊗ (lit (pos 1) ⊗ v 0)) (lit (pos 2) ⊗ v 0) tt in
    rw e at w

u_weights : (a l : ℤ) → IsArgument a l → (j : ℕ) → Within (u_weight a l j) (pos (u_total j) *ℤ power l j)
u_weights a l h j =
    let p = h.positive in
    let l0 : pos 0 ≤ℤ l = omega (arith, lin) in
    let w : Within (pos 2 *ℤ cleared_u a l j) (pos 2 *ℤ (pos (suc j) *ℤ power l j)) = Within-mul (pos 2) (cleared_u a l j) (pos 2) (pos (suc j) *ℤ power l j) (omega (arith, lin)) (nonneg-mul (pos (suc j)) (power l j) (omega (arith, lin)) (nonneg-power l j l0)) (Within-self (pos 2) (omega (arith, lin))) (Within-u a l j h) in
    let e : pos 2 *ℤ (pos (suc j) *ℤ power l j) ≡ (pos 2 *ℤ pos (suc j)) *ℤ power l j = ring (pos (suc j) ∷ power l j ∷ []) (lit (pos 2) ⊗ (v 0 ⊗ v 1)) ((lit (pos 2) ⊗ v 0) ⊗ v 1) tt in
    rw e at w

pub Within-q : (a u l : ℤ) (k : ℕ) → IsArgument a l → IsArgument u l → Within (l *ℤ difference_t a u l k) (pos (q_size k) *ℤ power l k)
Within-q a u l k ha hu =
    let w : Within (l *ℤ weighted_sum (t_weight a l) u l k 0) (pos (total t_total k 0) *ℤ (power l k *ℤ pos 1)) = Within-sum (t_weight a l) t_total u l hu (t_weights a l ha) k 0 in
    rw (difference_t-sum a u l k) (rw (total_is_square k, times_one (power l k)) at w)

pub Within-r : (a u l : ℤ) (k : ℕ) → IsArgument a l → IsArgument u l → Within (l *ℤ difference_u a u l k) (pos (r_size k) *ℤ power l k)
Within-r a u l k ha hu =
    let w : Within (l *ℤ weighted_sum (u_weight a l) u l k 0) (pos (total u_total k 0) *ℤ (power l k *ℤ pos 1)) = Within-sum (u_weight a l) u_total u l hu (u_weights a l ha) k 0 in
    rw (difference_u-sum a u l k) (rw (total_is_third k, times_one (power l k)) at w)
