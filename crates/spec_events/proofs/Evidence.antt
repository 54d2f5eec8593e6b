-- Findings that enclosures give are true of the function and of its guards.
use Rattle.std.proofs.Common.{◌≡◌, ℕ, ◌*◌, ◌^◌, ◌<◌, arith, refl, List, [], ◌∷◌, All, map, ℤ, pos, negsuc, ◌+ℤ◌, ◌-ℤ◌, ◌*ℤ◌, ◌≤ℤ◌, ◌<ℤ◌, Bool, true, false, not, ◌⊎◌, inl, inr}
use Rattle.std.specs.List.{list_all, list_any}
use Rattle.std.proofs.lemmas.Bool.{and_parts, or_cases, false≢true}
use Rattle.std.proofs.lemmas.Int.{ints}
use Rattle.std.proofs.lemmas.Nat.{pow_pos}
use Rattle.std.proofs.lemmas.List.Elements.{All-nil, All-cons, All-head, All-tail}
use borrow.Author.Differences.{up, down}
use lib.Signed.{le_z}
use Rattle.spec_numbers.proofs.Order.{lin, le-mul, le-mul_cancel}
use Rattle.spec_intervals.specs.declared.signs.Sign.{Sign}
use Rattle.spec_intervals.specs.declared.signs.Sign.TheVariants.{Yes, No, Open}
use Rattle.spec_intervals.specs.Interval.{Interval}
use Rattle.spec_intervals.specs.Fraction.{Fraction, IsFraction, Holds}
use Rattle.spec_intervals.specs.Enclosure.{change}
use Rattle.spec_intervals.specs.Signs.{sign_of}
use Rattle.spec_intervals.proofs.SignLaws.{yes-not_negative, no-negative}
use Rattle.spec_trees.specs.declared.tree.Node.{Node}
use Rattle.spec_events.specs.Functions.{IsNotNegative, Guard, GuardHolds, GuardsHold, IsOnSide}
use Rattle.spec_events.specs.Verdict.{certifies, is_certified, is_refuted}
use Rattle.spec_events.specs.Soundness.{Tells, Lasts, IsNot, AreSound, GuardEvidence, Evidence, finding_of, findings_of, guard_of, guards_of, IsGuardHeld, IsEvidence}

pub decide : (exact : ℤ → Fraction) (t : ℤ) → IsNotNegative exact t ⊎ IsNot (IsNotNegative exact) t
decide exact t = by (exact t).numerator
  where
    by : (z : ℤ) → (pos 0 ≤ℤ z) ⊎ ((pos 0 ≤ℤ z) → ⊥)
    by (pos k) = inl (omega (arith, ints))
    by (negsuc k) = inr (λ h. absurd (omega (arith, ints, h)))

not_both : (z : ℤ) → pos 0 ≤ℤ z → z <ℤ pos 0 → ⊥
not_both z p q = absurd (omega (arith, lin))

pub tells : (interval : Interval) (r : Fraction) → IsFraction r → Holds interval r → Tells (sign_of interval) (pos 0 ≤ℤ r.numerator)
tells interval r d h = record { yes = λ e. yes-not_negative interval r e h; no = λ e p. not_both r.numerator p (no-negative interval r e d h) }

-- ---- steps
low_holds : (step : Interval) (r : Fraction) → Holds step r → pos 0 ≤ℤ step.lo → pos 0 ≤ℤ r.numerator
low_holds step r h p = yes-not_negative step r (yes_at step p) h
  where
    yes_at : (x : Interval) → pos 0 ≤ℤ x.lo → sign_of x ≡ Yes
    yes_at x p = by (le_z (pos 0) x.lo) refl
      where
        by : (c : Bool) → le_z (pos 0) x.lo ≡ c → sign_of x ≡ Yes
        by true e = rw e refl
        by false e = absurd (omega (arith, lin))

high_holds : (step : Interval) (r : Fraction) → Holds step r → step.hi ≤ℤ pos 0 → r.numerator ≤ℤ pos 0
high_holds step r h p =
    let x : (step.hi *ℤ pos (2 ^ up step.s * r.denominator)) ≤ℤ (pos 0 *ℤ pos (2 ^ up step.s * r.denominator)) = le-mul step.hi (pos 0) (pos (2 ^ up step.s * r.denominator)) (omega (arith, lin)) p in
    le-mul_cancel r.numerator (pos 0) (2 ^ down step.s) (pow_pos (down step.s)) (omega (arith, ints, h.high))

-- n'/d' - n/d is at least 0, and so is n/d
up_by : (n n' : ℤ) (d d' : ℕ) → 0 < d → pos 0 ≤ℤ (n' *ℤ pos d -ℤ n *ℤ pos d') → pos 0 ≤ℤ n → pos 0 ≤ℤ n'
up_by n n' d d' p h g =
    let x : (pos 0 *ℤ pos d') ≤ℤ (n *ℤ pos d') = le-mul (pos 0) n (pos d') (omega (arith, lin)) g in
    le-mul_cancel (pos 0) n' d p (omega (arith, ints))

module _ (exact : ℤ → Fraction) (a b : ℤ) (numbers : (t : ℤ) → a ≤ℤ t → t ≤ℤ b → IsFraction (exact t)) (step : Interval) (h : (t : ℤ) → a ≤ℤ t → t <ℤ b → Holds step (change exact t)) where
  lasts_up : le_z (pos 0) step.lo ≡ true → Lasts (IsNotNegative exact) a b
  lasts_up r t p q x =
      let d : pos 0 ≤ℤ (change exact t).numerator = low_holds step (change exact t) (h t p q) (omega (arith, lin)) in
      up_by (exact t).numerator (exact (t +ℤ pos 1)).numerator (exact t).denominator (exact (t +ℤ pos 1)).denominator (numbers t p (omega (arith, lin))) d x

  lasts_down : le_z step.hi (pos 0) ≡ true → Lasts (IsNot (IsNotNegative exact)) a b
  lasts_down r t p q x y =
      let d : (change exact t).numerator ≤ℤ pos 0 = high_holds step (change exact t) (h t p q) (omega (arith, lin)) in
      x (up_by (exact (t +ℤ pos 1)).numerator (exact t).numerator (exact (t +ℤ pos 1)).denominator (exact t).denominator (numbers (t +ℤ pos 1) (omega (arith, lin)) (omega (arith, lin))) (omega (arith, lin)) y)

-- ---- guards
certified_one : (at_least : Bool) (exact : ℤ → Fraction) (interval : Interval) (t : ℤ) → IsFraction (exact t) → Holds interval (exact t) → (sign : Sign) → sign_of interval ≡ sign → certifies at_least sign ≡ true → IsOnSide at_least exact t
certified_one true exact interval t d h Yes e k = yes-not_negative interval (exact t) e h
certified_one false exact interval t d h No e k = no-negative interval (exact t) e d h
certified_one true exact interval t d h No e k = absurd (false≢true k)
certified_one true exact interval t d h Open e k = absurd (false≢true k)
certified_one false exact interval t d h Yes e k = absurd (false≢true k)
certified_one false exact interval t d h Open e k = absurd (false≢true k)

refuted_one : (at_least : Bool) (exact : ℤ → Fraction) (interval : Interval) (t : ℤ) → IsFraction (exact t) → Holds interval (exact t) → (sign : Sign) → sign_of interval ≡ sign → certifies (not at_least) sign ≡ true → IsOnSide at_least exact t → ⊥
refuted_one true exact interval t d h No e k x = not_both (exact t).numerator x (no-negative interval (exact t) e d h)
refuted_one false exact interval t d h Yes e k x = not_both (exact t).numerator (yes-not_negative interval (exact t) e h) x
refuted_one true exact interval t d h Yes e k x = false≢true k
refuted_one true exact interval t d h Open e k x = false≢true k
refuted_one false exact interval t d h No e k x = false≢true k
refuted_one false exact interval t d h Open e k x = false≢true k

module _ (n : Node) (t : ℤ) (p : n.a <ℤ t) (q : t ≤ℤ n.b) where
  certified : (gs : List GuardEvidence) → All (IsGuardHeld n) gs → list_all is_certified (map finding_of gs) ≡ true → GuardsHold (map guard_of gs) t
  certified [] h k = All-nil (λ (g : Guard). GuardHolds g t)
  certified (g ∷ gs) h k =
      let x = and_parts (is_certified (finding_of g)) (list_all is_certified (map finding_of gs)) k in
      let held = All-head (IsGuardHeld n) g gs h t p q in
      All-cons (λ (g : Guard). GuardHolds g t) (guard_of g) (map guard_of gs)
      (certified_one g.guard.at_least g.guard.exact g.interval t held.0 held.1 (sign_of g.interval) refl x.0)
      (certified gs (All-tail (IsGuardHeld n) g gs h) x.1)

  refuted : (gs : List GuardEvidence) → All (IsGuardHeld n) gs → list_any is_refuted (map finding_of gs) ≡ true → GuardsHold (map guard_of gs) t → ⊥
  refuted [] h k x = false≢true k
  refuted (g ∷ gs) h k x =
      by (or_cases (is_refuted (finding_of g)) (list_any is_refuted (map finding_of gs)) k)
      (λ e. refuted gs (All-tail (IsGuardHeld n) g gs h) e (All-tail (λ (g : Guard). GuardHolds g t) (guard_of g) (map guard_of gs) x))
    where
      by : (is_refuted (finding_of g) ≡ true) ⊎ (list_any is_refuted (map finding_of gs) ≡ true) → (list_any is_refuted (map finding_of gs) ≡ true → ⊥) → ⊥
      by (inl e) rest =
          let held = All-head (IsGuardHeld n) g gs h t p q in
          refuted_one g.guard.at_least g.guard.exact g.interval t held.0 held.1 (sign_of g.interval) refl e (All-head (λ (g : Guard). GuardHolds g t) (guard_of g) (map guard_of gs) x)
      by (inr e) rest = rest e

pub are_sound : (exact : ℤ → Fraction) (n : Node) (e : Evidence) → IsEvidence exact n e → AreSound (IsNotNegative exact) (GuardsHold (guards_of e)) n (findings_of e)
are_sound exact n e i =
    let o = i.ordered in
    record {
      ordered = i.ordered;
      first = tells e.first.range (exact n.a) (i.numbers n.a (omega (arith, lin)) (omega (arith, lin))) (i.first.range n.a (omega (arith, lin)) (omega (arith, lin)));
      last = tells e.last.range (exact n.b) (i.numbers n.b (omega (arith, lin)) (omega (arith, lin))) (i.last.range n.b (omega (arith, lin)) (omega (arith, lin)));
      over = λ k t p q. tells e.whole.range (exact t) (i.numbers t p q) ((i.whole k).range t p q);
      rising = λ k r. lasts_up exact n.a n.b i.numbers e.whole.step (i.whole k).step r;
      falling = λ k r. lasts_down exact n.a n.b i.numbers e.whole.step (i.whole k).step r;
      certified = λ r k t p q. certified n t p q e.guards (i.guards r) k;
      refuted = λ r k t p q. refuted n t p q e.guards (i.guards r) k;
    }
