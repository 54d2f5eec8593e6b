-- What the leaves of a span tell of a condition is so at each of its times.
use Rattle.std.proofs.Common.{◌≡◌, ◌⊎◌, inl, inr, Bool, true, false, int_le, int_lt, List, [], ◌∷◌, ℤ, ◌≤ℤ◌, ◌<ℤ◌, refl, sym, subst, arith}
use Rattle.std.specs.Prelude.{if◌then◌else◌}
use Rattle.std.proofs.lemmas.Int.{ints}
use Rattle.std.proofs.lemmas.List.Elements.{All-head, All-tail}
use Rattle.spec_intervals.specs.declared.signs.Sign.{Sign}
use Rattle.spec_intervals.specs.declared.signs.Sign.TheVariants.{Yes, No, Open}
use Rattle.spec_trees.specs.declared.tree.Leaf.{Leaf}
use Rattle.spec_trees.specs.declared.tree.Mark.{Mark}
use Rattle.spec_trees.specs.declared.tree.Mark.TheVariants as M
use Rattle.spec_trees.specs.declared.tree.Node.{Node}
use Rattle.spec_trees.specs.declared.tree.Turn.{Turn}
use Rattle.spec_trees.specs.declared.tree.Turn.TheVariants.{Rise, Fall}
use Rattle.spec_trees.specs.Tree.{Covers}
use Rattle.spec_events.specs.Soundness.{Tells}
use Rattle.spec_sets.proofs.Members.{le_so}
use Rattle.spec_sets.specs.Signs.{sign_after, sign_in, sign_among, sign_of_leaves, IsTold, AreTold, opposite, either, both}

tells_nothing : (fact : Type 0) → Tells Open fact
tells_nothing fact = record { yes = λ e. absurd (cc); no = λ e p. absurd (cc) }

module _ (P : ℤ → Type 0) (point : ℤ → Sign) where
  end_tells : (n : Node) (turn : Turn) → IsTold P n (M.One turn) → Tells (sign_after turn) (P n.b)
  end_tells n Rise told = record { yes = λ e. told; no = λ e p. absurd (cc) }
  end_tells n Fall told = record { yes = λ e. absurd (cc); no = λ e p. told p }

  at_end : (t b : ℤ) → int_lt t b ≡ false → t ≤ℤ b → t ≡ b
  at_end t b e h = grind (arith, ints)

  leaf_tells : (n : Node) (m : Mark) → IsTold P n m → Tells (point n.b) (P n.b) → (t : ℤ) → n.a <ℤ t → t ≤ℤ n.b → Tells (sign_in point n m t) (P t)
  leaf_tells n M.Clear told last t after upto =
      let same = told t (omega (arith, ints, after)) upto in
      record { yes = λ e. same.1 (last.yes e); no = λ e p. last.no e (same.0 p) }
  leaf_tells n (M.One turn) told last t after upto = by (int_lt t n.b) refl
    where
      by : (before : Bool) → int_lt t n.b ≡ before → Tells (if before then Open else sign_after turn) (P t)
      by true e = tells_nothing (P t)
      by false e = subst (λ (u : ℤ). Tells (sign_after turn) (P u)) (sym (at_end t n.b e upto)) (end_tells n turn told)
  leaf_tells n M.Undecided told last t after upto = tells_nothing (P t)

  le_past : (t b : ℤ) → int_le t b ≡ false → b <ℤ t
  le_past t b e = grind (arith, ints)

  covers_upto : (a b : ℤ) (ls : List Leaf) → Covers a ls b → a ≤ℤ b
  covers_upto a b [] c = omega (arith, ints, c)
  covers_upto a b (l ∷ ls) c =
      let later = covers_upto l.node.b b ls c.2 in
      let from = c.0 in
      let wide = c.1 in
      omega (arith, ints, later, from, wide)

  among_tells : (a b : ℤ) (ls : List Leaf) → Covers a ls b → AreTold P ls → ((t : ℤ) → a ≤ℤ t → t ≤ℤ b → Tells (point t) (P t))
      → (t : ℤ) → a <ℤ t → t ≤ℤ b → Tells (sign_among point ls t) (P t)
  among_tells a b [] c told points t after upto = absurd (omega (arith, ints, c, after, upto))
  among_tells a b (l ∷ ls) c told points t after upto =
      by (int_le t l.node.b) refl
      (among_tells l.node.b b ls c.2 (All-tail (λ (l : Leaf). IsTold P l.node l.mark) l ls told)
      (λ u lo hi. let from = c.0 in let inside = c.1 in points u (omega (arith, ints, from, inside, lo)) hi) t)
    where
      from : l.node.a ≡ a
      from = c.0

      inside : l.node.a <ℤ l.node.b
      inside = c.1

      later : l.node.b ≤ℤ b
      later = covers_upto l.node.b b ls c.2

      by : (here : Bool) → int_le t l.node.b ≡ here → (l.node.b <ℤ t → t ≤ℤ b → Tells (sign_among point ls t) (P t)) → Tells (if here then sign_in point l.node l.mark t else sign_among point ls t) (P t)
      by true e later_tells =
          leaf_tells l.node l.mark (All-head (λ (l : Leaf). IsTold P l.node l.mark) l ls told)
          (points l.node.b (omega (arith, ints, from, inside)) later) t (omega (arith, ints, from, after)) (le_so t l.node.b e)
      by false e later_tells = later_tells (le_past t l.node.b e) upto

  pub leaves_tell : (a b : ℤ) (ls : List Leaf) → Covers a ls b → AreTold P ls → ((t : ℤ) → a ≤ℤ t → t ≤ℤ b → Tells (point t) (P t))
      → (t : ℤ) → a ≤ℤ t → t ≤ℤ b → Tells (sign_of_leaves point a ls t) (P t)
  leaves_tell a b ls c told points t after upto = by (int_le t a) refl
    where
      only : t ≤ℤ a → t ≡ a
      only h = omega (arith, ints, h, after)

      by : (first : Bool) → int_le t a ≡ first → Tells (if first then point a else sign_among point ls t) (P t)
      by true e = subst (λ (u : ℤ). Tells (point a) (P u)) (sym (only (le_so t a e))) (points a (omega (arith, ints)) (omega (arith, ints, after, upto)))
      by false e = among_tells a b ls c told points t (le_past t a e) upto

-- ---- two conditions
pub opposite_tells : (x : Sign) (A : Type 0) → Tells x A → Tells (opposite x) (A → ⊥)
opposite_tells Yes A h = record { yes = λ e. absurd (cc); no = λ e f. f (h.yes refl) }
opposite_tells No A h = record { yes = λ e. h.no refl; no = λ e f. absurd (cc) }
opposite_tells Open A h = tells_nothing (A → ⊥)

pub either_tells : (x y : Sign) (A B : Type 0) → Tells x A → Tells y B → Tells (either x y) (A ⊎ B)
either_tells Yes y A B h g = record { yes = λ e. inl (h.yes refl); no = λ e p. absurd (cc) }
either_tells No y A B h g = record { yes = λ e. inr (g.yes e); no = λ e p. neither e p }
  where
    neither : y ≡ No → A ⊎ B → ⊥
    neither e (inl a) = h.no refl a
    neither e (inr b) = g.no e b
either_tells Open Yes A B h g = record { yes = λ e. inr (g.yes refl); no = λ e p. absurd (cc) }
either_tells Open No A B h g = tells_nothing (A ⊎ B)
either_tells Open Open A B h g = tells_nothing (A ⊎ B)

pub both_tells : (x y : Sign) (A B : Type 0) → Tells x A → Tells y B → Tells (both x y) (A × B)
both_tells No y A B h g = record { yes = λ e. absurd (cc); no = λ e p. h.no refl p.0 }
both_tells Yes y A B h g = record { yes = λ e. (h.yes refl, g.yes e); no = λ e p. g.no e p.1 }
both_tells Open No A B h g = record { yes = λ e. absurd (cc); no = λ e p. g.no refl p.1 }
both_tells Open Yes A B h g = tells_nothing (A × B)
both_tells Open Open A B h g = tells_nothing (A × B)
