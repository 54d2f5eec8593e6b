-- How near narrowing leaves both ends.
use Rattle.std.proofs.Common.{◌≡◌, ◌⊎◌, ℕ, zero, suc, ◌+◌, ◌*◌, ◌^◌, max, ◌<◌, ◌≤◌, arith, refl, sym, ap, ◌∙◌, [], ◌∷◌, pow-suc, ℤ, pos, negsuc, ◌+ℤ◌, ◌*ℤ◌, ◌≤ℤ◌, ◌<ℤ◌, unsigned_abs, inl, inr}
use Rattle.std.proofs.lemmas.Int.{ints}
use Rattle.std.proofs.lemmas.Nat.{pow-add, pow_pos}
use Rattle.std.proofs.lemmas.Bool.{false≢true, cases_lt}
use borrow.Author.Differences.{up, down}
use Rattle.spec_numbers.specs.Numbers.{floor_div, ceil_div}
use Rattle.spec_numbers.proofs.Ring.{Poly, v, k as lit, ◌⊕◌, ◌⊗◌, ring}
use Rattle.spec_numbers.proofs.Order.{lin, le-mul, le-mul_cancel}
use Rattle.spec_numbers.proofs.Floor.{floor_div-le, floor_div-lt, ceil_div-ge, ceil_div-lt}
use Rattle.spec_intervals.specs.Interval.{Interval, interval, zero_interval, end_limit, narrow_shift, settled, narrow_by, narrow}
use Rattle.spec_intervals.specs.Fraction.{Fraction}
use Rattle.spec_intervals.proofs.Narrow.{sizes-fit, narrow_shift-least}
use Rattle.spec_models.specs.Ends.{in_units, low, high, size, slight, Under, Over}
use Rattle.spec_models.proofs.Near.{IsRatio, IsAllowed, rounded_under, rounded_over}

-- ---- what the halvings lose
abbrev pub greatest : ℤ → ℤ → ℕ
greatest lo hi = max (unsigned_abs lo) (unsigned_abs hi)

-- where more than k halvings are made, an end is past 2^62 * 2^k
halved_is_great : (k : ℕ) (lo hi : ℤ) → k < narrow_shift lo hi → end_limit * 2 ^ k < greatest lo hi
halved_is_great k lo hi h = by (cases_lt (end_limit * 2 ^ k) (greatest lo hi))
  where
    by : (end_limit * 2 ^ k < greatest lo hi) ⊎ (greatest lo hi ≤ end_limit * 2 ^ k) → end_limit * 2 ^ k < greatest lo hi
    by (inl q) = q
    by (inr q) = absurd (false≢true (sym (narrow_shift-least lo hi k h) ∙ sizes-fit k lo hi (omega arith) (omega arith)))

-- the unit that is left is 1, or no more than 2^-61 of the greater size
unit_is_small : (lo hi : ℤ) → (2 ^ narrow_shift lo hi ≡ 1) ⊎ (2 ^ 61 * 2 ^ narrow_shift lo hi ≤ greatest lo hi)
unit_is_small lo hi = by (narrow_shift lo hi) (λ j. halved_is_great j lo hi)
  where
    by : (k : ℕ) → ((j : ℕ) → j < k → end_limit * 2 ^ j < greatest lo hi) → (2 ^ k ≡ 1) ⊎ (2 ^ 61 * 2 ^ k ≤ greatest lo hi)
    by zero great = inl refl
    by (suc j) great = let a = great j (omega arith) in let e = pow-suc 2 j in inr (omega arith)

-- w is what is left of an end, at its own exponent
pub record IsLeftDown (w lo : ℤ) (m : ℕ) : Type 0 where
  pub below : w ≤ℤ lo
  pub near : (lo *ℤ pos (2 ^ 61)) ≤ℤ (w *ℤ pos (2 ^ 61) +ℤ pos m)

pub record IsLeftUp (w hi : ℤ) (m : ℕ) : Type 0 where
  pub above : hi ≤ℤ w
  pub near : (w *ℤ pos (2 ^ 61)) ≤ℤ (hi *ℤ pos (2 ^ 61) +ℤ pos m)

-- a number that is less than a small unit farther
less_than_unit : (z w : ℤ) (d m : ℕ) → w ≤ℤ z → z <ℤ (w +ℤ pos d) → (d ≡ 1) ⊎ (2 ^ 61 * d ≤ m)
    → (z *ℤ pos (2 ^ 61)) ≤ℤ (w *ℤ pos (2 ^ 61) +ℤ pos m)
less_than_unit z w d m l h (inl e) = let f : z ≡ w = omega (arith, lin) in rw f (omega (arith, lin))
less_than_unit z w d m l h (inr e) =
    let f = le-mul z (w +ℤ pos d) (pos (2 ^ 61)) (omega (arith, lin)) (omega (arith, lin)) in
    let g = ring (w ∷ pos d ∷ pos (2 ^ 61) ∷ []) ((v 0 ⊕ v 1) ⊗ v 2) (v 0 ⊗ v 2 ⊕ v 1 ⊗ v 2) tt in
    let i : (pos d *ℤ pos (2 ^ 61)) ≤ℤ pos m = omega (arith, lin) in
    omega (arith, lin)

-- what a quotient by a small unit leaves
left_down : (z : ℤ) (d m : ℕ) → 0 < d → (d ≡ 1) ⊎ (2 ^ 61 * d ≤ m) → IsLeftDown (floor_div z d *ℤ pos d) z m
left_down z d m p small =
    let b = floor_div-le z d p in
    record { below = b; near = less_than_unit z (floor_div z d *ℤ pos d) d m b (floor_div-lt z d p) small }

left_up : (z : ℤ) (d m : ℕ) → 0 < d → (d ≡ 1) ⊎ (2 ^ 61 * d ≤ m) → IsLeftUp (ceil_div z d *ℤ pos d) z m
left_up z d m p small =
    let a = ceil_div-ge z d p in
    record { above = a; near = less_than_unit (ceil_div z d *ℤ pos d) z d m a (ceil_div-lt z d p) small }

-- ---- where both ends are 0, the exponent is 0
nothing_times : (z : ℤ) (u q : ℕ) → z ≡ pos 0 → z *ℤ pos u *ℤ pos q ≡ pos 0
nothing_times z u q e =
    ap (λ w. w *ℤ pos u *ℤ pos q) e ∙ ring (pos u ∷ pos q ∷ []) (lit (pos 0) ⊗ v 0 ⊗ v 1) (lit (pos 0)) tt

zero_below : (z n : ℤ) (u q k : ℕ) → z ≡ pos 0 → (n *ℤ pos (2 ^ k)) ≤ℤ (z *ℤ pos u *ℤ pos q) → (n *ℤ pos 1) ≤ℤ (pos 0 *ℤ pos q)
zero_below z n u q k e h =
    let g : n ≤ℤ pos 0 = le-mul_cancel n (pos 0) (2 ^ k) (pow_pos k) (omega (arith, ints, nothing_times z u q e)) in
    omega (arith, ints, g)

zero_above : (z n : ℤ) (u q k : ℕ) → z ≡ pos 0 → (z *ℤ pos u *ℤ pos q) ≤ℤ (n *ℤ pos (2 ^ k)) → (pos 0 *ℤ pos q) ≤ℤ (n *ℤ pos 1)
zero_above z n u q k e h =
    let g : pos 0 ≤ℤ n = le-mul_cancel (pos 0) n (2 ^ k) (pow_pos k) (omega (arith, ints, nothing_times z u q e)) in
    omega (arith, ints, g)

under_zero : (z s : ℤ) (d r : Fraction) → z ≡ pos 0 → Under d (in_units z s) r → Under d (in_units (pos 0) (pos 0)) r
under_zero z s d r e h =
    record { near = zero_below z _ (2 ^ up s) _ (down s) e h.near; below = zero_above z _ (2 ^ up s) _ (down s) e h.below }

over_zero : (z s : ℤ) (d r : Fraction) → z ≡ pos 0 → Over d (in_units z s) r → Over d (in_units (pos 0) (pos 0)) r
over_zero z s d r e h =
    record { above = zero_below z _ (2 ^ up s) _ (down s) e h.above; near = zero_above z _ (2 ^ up s) _ (down s) e h.near }

settled_keeps : (P : Interval → Type 0) (lo hi s : ℤ) → (lo ≡ pos 0 → hi ≡ pos 0 → P (interval lo hi s) → P zero_interval)
    → P (interval lo hi s) → P (settled lo hi s)
unfolding settled
settled_keeps P (pos zero) (pos zero) s nothing h = nothing refl refl h
settled_keeps P (pos zero) (pos (suc n)) s nothing h = h
settled_keeps P (pos zero) (negsuc n) s nothing h = h
settled_keeps P (pos (suc n)) hi s nothing h = h
settled_keeps P (negsuc n) hi s nothing h = h

settled_under : (lo hi s : ℤ) (d r : Fraction) → Under d (in_units lo s) r → Under d (low (settled lo hi s)) r
settled_under lo hi s d r = settled_keeps (λ t. Under d (low t) r) lo hi s (λ e f. under_zero lo s d r e)

settled_over : (lo hi s : ℤ) (d r : Fraction) → Over d (in_units hi s) r → Over d (high (settled lo hi s)) r
settled_over lo hi s d r = settled_keeps (λ t. Over d (high t) r) lo hi s (λ e f. over_zero hi s d r f)

-- ---- an interval from lo to hi at the exponent s, narrowed, where s is k above the exponent e of what it stands for
left_scaled : (z : ℤ) (k j b : ℕ) → z *ℤ pos (2 ^ (k + j) * b) ≡ z *ℤ pos (2 ^ j) *ℤ pos (2 ^ k * b)
left_scaled z k j b =
    ap (λ n. z *ℤ pos (n * b)) (pow-add 2 k j) ∙
    ring (z ∷ pos (2 ^ k) ∷ pos (2 ^ j) ∷ pos b ∷ []) (v 0 ⊗ (v 1 ⊗ v 2 ⊗ v 3)) (v 0 ⊗ v 2 ⊗ (v 1 ⊗ v 3)) tt

pub record IsKeptDown (w a loss : ℤ) (u : ℕ) : Type 0 where
  pub below : (w *ℤ pos u) ≤ℤ a
  pub near : a ≤ℤ (w *ℤ pos u +ℤ loss)

pub record IsKeptUp (w a loss : ℤ) (u : ℕ) : Type 0 where
  pub above : a ≤ℤ (w *ℤ pos u)
  pub near : (w *ℤ pos u) ≤ℤ (a +ℤ loss)

module _ (lo hi s a e loss : ℤ) (k b : ℕ) (d r : Fraction) (positive : 0 < b) (is_raised : s ≡ e +ℤ pos k)
    (ratio : IsRatio r a e b) (allowed : IsAllowed d loss e b) where
  abbrev shift : ℕ
  shift = narrow_shift lo hi

  abbrev KeepsDown : Type 0
  KeepsDown = (w : ℤ) → IsLeftDown w lo (greatest lo hi) → IsKeptDown w a loss (2 ^ k * b)

  abbrev KeepsUp : Type 0
  KeepsUp = (w : ℤ) → IsLeftUp w hi (greatest lo hi) → IsKeptUp w a loss (2 ^ k * b)

  kept_under : (q : ℤ) → IsKeptDown (q *ℤ pos (2 ^ shift)) a loss (2 ^ k * b) → Under d (in_units q (s +ℤ pos shift)) r
  kept_under q kept =
      let c = left_scaled q k shift b in
      rounded_under q a e (s +ℤ pos shift) loss (k + shift) b d r positive (omega (arith, lin)) ratio allowed
      (rw c kept.below) (rw c kept.near)

  kept_over : (q : ℤ) → IsKeptUp (q *ℤ pos (2 ^ shift)) a loss (2 ^ k * b) → Over d (in_units q (s +ℤ pos shift)) r
  kept_over q kept =
      let c = left_scaled q k shift b in
      rounded_over q a e (s +ℤ pos shift) loss (k + shift) b d r positive (omega (arith, lin)) ratio allowed
      (rw c kept.above) (rw c kept.near)

  pub narrow_under : KeepsDown → Under d (low (narrow lo hi s)) r
  unfolding narrow narrow_by
  narrow_under keeps =
      settled_under (floor_div lo (2 ^ shift)) (ceil_div hi (2 ^ shift)) (s +ℤ pos shift) d r
      (kept_under _ (keeps _ (left_down lo (2 ^ shift) (greatest lo hi) (pow_pos shift) (unit_is_small lo hi))))

  pub narrow_over : KeepsUp → Over d (high (narrow lo hi s)) r
  unfolding narrow narrow_by
  narrow_over keeps =
      settled_over (floor_div lo (2 ^ shift)) (ceil_div hi (2 ^ shift)) (s +ℤ pos shift) d r
      (kept_over _ (keeps _ (left_up hi (2 ^ shift) (greatest lo hi) (pow_pos shift) (unit_is_small lo hi))))

-- a 2^58th of a size is eight times a 2^61st
abbrev fourfold : ℤ → ℤ
fourfold z = z +ℤ z +ℤ (z +ℤ z)

pub eightfold : (z : ℤ) → z *ℤ pos (2 ^ 61) ≡ fourfold (z *ℤ pos (2 ^ 58)) +ℤ fourfold (z *ℤ pos (2 ^ 58))
eightfold z =
    let four = λ (p : Poly). p ⊕ p ⊕ (p ⊕ p) in
    ring (z ∷ []) (v 0 ⊗ lit (pos (2 ^ 61))) (four (v 0 ⊗ lit (pos (2 ^ 58))) ⊕ four (v 0 ⊗ lit (pos (2 ^ 58)))) tt

pub less_lost : (a w : ℤ) (m : ℕ) → (a *ℤ pos (2 ^ 61)) ≤ℤ (w *ℤ pos (2 ^ 61) +ℤ pos m)
    → (a *ℤ pos (2 ^ 58)) ≤ℤ (w *ℤ pos (2 ^ 58) +ℤ pos m)
less_lost a w m h = let e = eightfold a in let f = eightfold w in omega (arith, lin)

-- ---- an interval that is exact until it is narrowed, with ends of at most m
module _ (lo hi s : ℤ) (m : ℕ) (d r : Fraction) (bounded : greatest lo hi ≤ m) (allowed : IsAllowed d (pos m) s (2 ^ 58)) where
  pub exact_under : IsRatio r (lo *ℤ pos (2 ^ 58)) s (2 ^ 58) → Under d (low (narrow lo hi s)) r
  exact_under ratio =
      narrow_under lo hi s (lo *ℤ pos (2 ^ 58)) s (pos m) 0 (2 ^ 58) d r (omega arith) (omega (arith, lin)) ratio allowed
      (λ w l. record { below = le-mul w lo (pos (2 ^ 58)) (omega (arith, lin)) l.below; near = less_lost lo w m (omega (arith, lin, l.near)) })

  pub exact_over : IsRatio r (hi *ℤ pos (2 ^ 58)) s (2 ^ 58) → Over d (high (narrow lo hi s)) r
  exact_over ratio =
      narrow_over lo hi s (hi *ℤ pos (2 ^ 58)) s (pos m) 0 (2 ^ 58) d r (omega arith) (omega (arith, lin)) ratio allowed
      (λ w l. record { above = le-mul hi w (pos (2 ^ 58)) (omega (arith, lin)) l.above; near = less_lost w hi m (omega (arith, lin, l.near)) })

-- ---- narrowing alone
pub alone_is_ratio : (z s : ℤ) (b : ℕ) → IsRatio (in_units z s) (z *ℤ pos b) s b
alone_is_ratio z s b =
    ring (z ∷ pos (2 ^ up s) ∷ pos (2 ^ down s) ∷ pos b ∷ []) (v 0 ⊗ v 1 ⊗ (v 2 ⊗ v 3)) (v 0 ⊗ v 3 ⊗ (v 1 ⊗ v 2)) tt

-- a little of a number is a 2^58th of it
pub slight_allowed : (r : Fraction) (a e : ℤ) → IsRatio r (a *ℤ pos (2 ^ 58)) e (2 ^ 58) → IsAllowed (slight r) a e (2 ^ 58)
slight_allowed r a e h =
    let f = ring (a ∷ pos (2 ^ up e) ∷ pos r.denominator ∷ pos (2 ^ 58) ∷ []) (v 0 ⊗ (v 1 ⊗ (v 2 ⊗ v 3)))
    (v 0 ⊗ v 3 ⊗ (v 1 ⊗ v 2)) tt in
    omega (arith, lin)

pub narrowed_under : (lo hi s : ℤ) → Under (slight (size (interval lo hi s))) (low (narrow lo hi s)) (low (interval lo hi s))
narrowed_under lo hi s =
    exact_under lo hi s (greatest lo hi) _ _ (omega arith)
    (slight_allowed (size (interval lo hi s)) (pos (greatest lo hi)) s (alone_is_ratio (pos (greatest lo hi)) s (2 ^ 58)))
    (alone_is_ratio lo s (2 ^ 58))

pub narrowed_over : (lo hi s : ℤ) → Over (slight (size (interval lo hi s))) (high (narrow lo hi s)) (high (interval lo hi s))
narrowed_over lo hi s =
    exact_over lo hi s (greatest lo hi) _ _ (omega arith)
    (slight_allowed (size (interval lo hi s)) (pos (greatest lo hi)) s (alone_is_ratio (pos (greatest lo hi)) s (2 ^ 58)))
    (alone_is_ratio hi s (2 ^ 58))
