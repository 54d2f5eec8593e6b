-- Where a condition lasts once it is so, or once it is not, its turns are known from its ends.
use Rattle.std.proofs.Common.{◌≡◌, ℕ, zero, suc, arith, refl, sym, subst, ℤ, pos, negsuc, ◌+ℤ◌, ◌-ℤ◌, ◌≤ℤ◌, ◌<ℤ◌, ◌⊎◌, inl, inr}
use Rattle.spec_numbers.proofs.Order.{lin}
use Rattle.spec_trees.specs.declared.tree.Turn.{Turn}
use Rattle.spec_trees.specs.declared.tree.Turn.TheVariants.{Rise, Fall}
use Rattle.spec_events.specs.Events.{IsTurn}
use Rattle.spec_events.specs.Soundness.{Lasts, IsNot}

-- no turn in this direction after a and up to b
abbrev pub HasNoTurn : (ℤ → Type 0) → Turn → ℤ → ℤ → Type 0
HasNoTurn P turn a b = (t : ℤ) → a <ℤ t → t ≤ℤ b → IsTurn P turn t → ⊥

-- one turn in this direction, and none in the other
pub record HasOneTurn (P : ℤ → Type 0) (turn : Turn) (a b : ℤ) : Type 0 where
  pub time : ℤ
  pub after : a <ℤ time
  pub upto : time ≤ℤ b
  pub turns : IsTurn P turn time
  pub alone : (t : ℤ) → a <ℤ t → t ≤ℤ b → (other : Turn) → IsTurn P other t → t ≡ time

-- so many units of time later
apart : (t u : ℤ) → t ≤ℤ u → (k : ℕ) × (u ≡ t +ℤ pos k)
apart t u h = by (u -ℤ t) refl
  where
    by : (d : ℤ) → u -ℤ t ≡ d → (k : ℕ) × (u ≡ t +ℤ pos k)
    by (pos k) e = (k, omega (arith, lin))
    by (negsuc k) e = absurd (omega (arith, lin))

module _ (P : ℤ → Type 0) (a b : ℤ) (g : Lasts P a b) where
  lasts_for : (t : ℤ) (k : ℕ) → a ≤ℤ t → (t +ℤ pos k) ≤ℤ b → P t → P (t +ℤ pos k)
  lasts_for t zero p q h = let e : t ≡ t +ℤ pos 0 = omega (arith, lin) in subst P e h
  lasts_for t (suc k) p q h =
      let e : (t +ℤ pos k) +ℤ pos 1 ≡ t +ℤ pos (suc k) = omega (arith, lin) in
      subst P e (g (t +ℤ pos k) (omega (arith, lin)) (omega (arith, lin)) (lasts_for t k p (omega (arith, lin)) h))

  pub lasts : (t u : ℤ) → a ≤ℤ t → t ≤ℤ u → u ≤ℤ b → P t → P u
  lasts t u p q r h =
      let k = apart t u q in
      subst P (sym k.1) (lasts_for t k.0 p (omega (arith, lin)) h)

  pub no_fall : HasNoTurn P Fall a b
  no_fall t p q e = e.1 (lasts (t -ℤ pos 1) t (omega (arith, lin)) (omega (arith, lin)) q e.0)

  -- a second rise would come when it is so already
  rise_is_late : (t u : ℤ) → a <ℤ t → t <ℤ u → u ≤ℤ b → IsTurn P Rise t → IsTurn P Rise u → ⊥
  rise_is_late t u p q r e f = f.0 (lasts t (u -ℤ pos 1) (omega (arith, lin)) (omega (arith, lin)) (omega (arith, lin)) e.1)

  rises_once : (t u : ℤ) → a <ℤ t → t ≤ℤ b → a <ℤ u → u ≤ℤ b → IsTurn P Rise t → IsTurn P Rise u → u ≡ t
  rises_once t u at tb au ub e f = by (t -ℤ u) refl
    where
      by : (d : ℤ) → t -ℤ u ≡ d → u ≡ t
      by (pos zero) d = omega (arith, lin)
      by (pos (suc n)) d = absurd (rise_is_late u t au (omega (arith, lin)) tb f e)
      by (negsuc n) d = absurd (rise_is_late t u at (omega (arith, lin)) ub e f)

  -- the first time at which it is so
  rise_within : ((t : ℤ) → P t ⊎ IsNot P t) → (k : ℕ) → (a +ℤ pos k) ≤ℤ b → IsNot P a → P (a +ℤ pos k) → (t : ℤ) × (a <ℤ t) × (t ≤ℤ b) × IsTurn P Rise t
  rise_within decide zero p x y = let e : a +ℤ pos 0 ≡ a = omega (arith, lin) in absurd (x (subst P e y))
  rise_within decide (suc k) p x y = by (decide (a +ℤ pos k)) (λ z. rise_within decide k (omega (arith, lin)) x z)
    where
      by : P (a +ℤ pos k) ⊎ IsNot P (a +ℤ pos k) → (P (a +ℤ pos k) → (t : ℤ) × (a <ℤ t) × (t ≤ℤ b) × IsTurn P Rise t) → (t : ℤ) × (a <ℤ t) × (t ≤ℤ b) × IsTurn P Rise t
      by (inl z) earlier = earlier z
      by (inr z) earlier =
          let e : a +ℤ pos k ≡ (a +ℤ pos (suc k)) -ℤ pos 1 = omega (arith, lin) in
          (a +ℤ pos (suc k), omega (arith, lin), p, (subst (IsNot P) e z, y))

  pub one_rise : ((t : ℤ) → P t ⊎ IsNot P t) → a ≤ℤ b → IsNot P a → P b → HasOneTurn P Rise a b
  one_rise decide ab x y =
      let k = apart a b ab in
      let r = rise_within decide k.0 (omega (arith, lin)) x (subst P k.1 y) in
      record { time = r.0; after = r.1; upto = r.2; turns = r.3; alone = λ t p q other e. by t p q other r.0 r.1 r.2 r.3 e }
    where
      by : (t : ℤ) → a <ℤ t → t ≤ℤ b → (other : Turn) → (u : ℤ) → a <ℤ u → u ≤ℤ b → IsTurn P Rise u → IsTurn P other t → t ≡ u
      by t p q Rise u v w r e = rises_once u t v w p q r e
      by t p q Fall u v w r e = absurd (no_fall t p q e)

-- ---- the other way round: once it is not so, it stays so
module _ (P : ℤ → Type 0) (decide : (t : ℤ) → P t ⊎ IsNot P t) (a b : ℤ) (g : Lasts (IsNot P) a b) where
  pub is_so : (t : ℤ) → (IsNot P t → ⊥) → P t
  is_so t h = by (decide t)
    where
      by : P t ⊎ IsNot P t → P t
      by (inl p) = p
      by (inr p) = absurd (h p)

  decide_not : (t : ℤ) → IsNot P t ⊎ IsNot (IsNot P) t
  decide_not t = by (decide t)
    where
      by : P t ⊎ IsNot P t → IsNot P t ⊎ IsNot (IsNot P) t
      by (inl p) = inr (λ h. h p)
      by (inr p) = inl p

  pub no_rise : HasNoTurn P Rise a b
  no_rise t p q e = no_fall (IsNot P) a b g t p q (e.0, λ h. h e.1)

  -- a turn of P is the other turn of its opposite
  turned : (t : ℤ) (turn : Turn) → IsTurn P turn t → (other : Turn) × IsTurn (IsNot P) other t
  turned t Rise e = (Fall, (e.0, λ h. h e.1))
  turned t Fall e = (Rise, ((λ h. h e.0), e.1))

  pub one_fall : a ≤ℤ b → P a → IsNot P b → HasOneTurn P Fall a b
  one_fall ab x y =
      let r = one_rise (IsNot P) a b g decide_not ab (λ h. h x) y in
      record {
        time = r.time;
        after = r.after;
        upto = r.upto;
        turns = (is_so (r.time -ℤ pos 1) r.turns.0, r.turns.1);
        alone = λ t p q other e. let f = turned t other e in r.alone t p q f.0 f.1;
      }
