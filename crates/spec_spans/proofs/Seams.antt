-- A span that is cut at a seam has the leaves of its two parts, in whatever order its tree is cut at the borders.
use Rattle.std.proofs.Common.{◌≡◌, ◌≤◌, ◌⊎◌, inl, inr, ℕ, zero, suc, true, List, ◌++◌, Option, None, Some, is_some, ℤ, pos, ◌+ℤ◌, ◌≤ℤ◌, ◌<ℤ◌, refl, sym, ap, ◌∙◌, subst, arith}
use Rattle.std.proofs.lemmas.Int.{ints}
use mathlib.Core.List.{append_assoc}
use Rattle.spec_ephemeris.specs.Borders.{nearest_border}
use Rattle.spec_ephemeris.specs.Ephemeris.{IsBorderIn, IsNearestBorder}
use Rattle.spec_ephemeris.proofs.NearestBorders.{nearest_of_all}
use Rattle.spec_bodies.specs.Views.{columns_of}
use Rattle.spec_bodies.proofs.InUse.{present_in_use}
use Rattle.spec_trees.specs.declared.tree.Leaf.{Leaf}
use Rattle.spec_trees.specs.declared.tree.Node.{Node}
use Rattle.spec_trees.specs.declared.tree.Verdict.TheVariants.{Split}
use Rattle.spec_trees.specs.Cuts.{is_wide}
use Rattle.spec_trees.specs.Tree.{IsValid, leaves, width}
use Rattle.spec_trees.proofs.Leaves.{leaves_split}
use Rattle.spec_events.specs.Soundness.{findings_of}
use Rattle.spec_events.proofs.Limits.{border_splits}
use Rattle.spec_searches.specs.Search.{IsSearch, Search, border_cut, border_in, criteria, evidence_at, parts_by, verdict_of}
use Rattle.spec_searches.specs.Found.{rules}
use Rattle.spec_trees.proofs.Sides.{before_after_or_at}
use Rattle.spec_searches.proofs.Parts.{rules_are_sound}
use Rattle.spec_spans.specs.Seams.{IsSeam}

abbrev pub node : ℤ → ℤ → ℕ → Node
node a b d = record { a = a; b = b; depth = d }

wide : (n : Node) (t : ℤ) → n.a <ℤ t → t <ℤ n.b → is_wide n ≡ true
wide n t after before = grind (arith, ints)

-- where a node is cut at a border
cut_near : (n : Node) (border : ℤ) → n.a <ℤ border → border ≤ℤ n.b → is_wide n ≡ true
    → (n.a <ℤ border_cut n border) × (border_cut n border <ℤ n.b) × ((border_cut n border ≡ border) ⊎ ((border_cut n border +ℤ pos 1) ≡ border))
cut_near n border after upto is = (grind (arith, ints), grind (arith, ints), grind (arith, ints))

module _ (s : Search) (is : IsSearch s) where
  abbrev Inside : ℤ → ℤ → ℤ → Type 0
  Inside a b t = IsBorderIn s.view.ephemeris (columns_of s.view) a b t

  nearest : (a b : ℤ) → IsNearestBorder s.view.ephemeris (columns_of s.view) a b (nearest_border s.view.ephemeris (columns_of s.view) a b)
  nearest a b = nearest_of_all s.view.ephemeris (columns_of s.view) a b is.view.checked (present_in_use s.view is.view)

  -- a border falls into a node, and it is cut at one
  found : (n : Node) (t : ℤ) → Inside n.a n.b t → (g : ℤ) × (border_in s n ≡ Some g) × Inside n.a n.b g
  found n t inside = by (border_in s n) refl (nearest n.a n.b)
    where
      by : (x : Option ℤ) → border_in s n ≡ x → IsNearestBorder s.view.ephemeris (columns_of s.view) n.a n.b x → (g : ℤ) × (border_in s n ≡ Some g) × Inside n.a n.b g
      by None e none = absurd (none t inside)
      by (Some g) e is_nearest = (g, e, is_nearest.0)

  splits : (n : Node) (g : ℤ) → border_in s n ≡ Some g → is_wide n ≡ true → verdict_of s n ≡ Split
  unfolding verdict_of
  splits n g e w = border_splits (criteria s) n (findings_of (evidence_at s n)) (ap is_some e) w

  -- a border in a part of a node
  narrower : (a b c d t : ℤ) → Inside a b t → c <ℤ t → t ≤ℤ d → Inside c d t
  narrower a b c d t inside after upto = record { number = inside.number; listed = inside.listed; border = inside.border; after = after; upto = upto }

  seam : (a b c d t : ℤ) → IsSeam s a b t → c <ℤ t → t <ℤ d → IsSeam s c d t
  seam a b c d t m after before =
      let near = m.near in
      record {
        border = m.border;
        inside = narrower a b c d m.border m.inside (left near) (right near);
        near = m.near;
        after = after;
        before = before;
      }
    where
      left : (t ≡ m.border) ⊎ ((t +ℤ pos 1) ≡ m.border) → c <ℤ m.border
      left (inl at) = omega (arith, ints, at, after)
      left (inr next) = omega (arith, ints, next, after)

      right : (t ≡ m.border) ⊎ ((t +ℤ pos 1) ≡ m.border) → m.border ≤ℤ d
      right (inl at) = omega (arith, ints, at, before)
      right (inr next) = omega (arith, ints, next, before)

  part : (a b : ℤ) (d : ℕ) (c e : ℤ) → IsValid (rules s) (node a b d) → a ≤ℤ c → c <ℤ e → e ≤ℤ b → IsValid (rules s) (node c e d)
  part a b d c e valid from inside upto =
      let low = valid.from in
      let high = valid.to in
      record { from = omega (arith, ints, low, from); inside = inside; to = omega (arith, ints, high, upto); depth = valid.depth }

  abbrev L : ℤ → ℤ → ℕ → List Leaf
  L a b d = leaves (rules s) (node a b d)

  -- the leaves of a node that a border falls into, by the parts at which it is cut
  at_border : (a b : ℤ) (d : ℕ) (g : ℤ) → IsValid (rules s) (node a b d) → border_in s (node a b d) ≡ Some g → is_wide (node a b d) ≡ true
      → L a b d ≡ L a (border_cut (node a b d) g) d ++ L (border_cut (node a b d) g) b d
  at_border a b d g valid e w =
      leaves_split (rules s) (rules_are_sound s is.view) (node a b d) valid (splits (node a b d) g e w)
      ∙ ap (λ x. leaves (rules s) (parts_by s.cut x (node a b d)).0 ++ leaves (rules s) (parts_by s.cut x (node a b d)).1) e

  abbrev Meets : ℤ → ℤ → ℕ → ℤ → Type 0
  Meets a b d t = L a b d ≡ L a t d ++ L t b d

  narrow : (a b : ℤ) (d : ℕ) (c e : ℤ) (k : ℕ) → width (node a b d) ≤ suc k → a ≤ℤ c → c <ℤ e → e ≤ℤ b → (a <ℤ c) ⊎ (e <ℤ b) → width (node c e d) ≤ k
  narrow a b d c e k w from inside upto (inl more) = omega (arith, ints, w, from, inside, upto, more)
  narrow a b d c e k w from inside upto (inr more) = omega (arith, ints, w, from, inside, upto, more)

  by_cut : (k : ℕ) (a b : ℤ) (d : ℕ) → IsValid (rules s) (node a b d) → width (node a b d) ≤ suc k → (t p : ℤ) → IsSeam s a b t → IsSeam s a b p → Meets a b d p
      → ((c e u : ℤ) → IsValid (rules s) (node c e d) → width (node c e d) ≤ k → IsSeam s c e u → Meets c e d u)
      → (t <ℤ p) ⊎ ((p <ℤ t) ⊎ (t ≡ p)) → Meets a b d t
  by_cut k a b d valid w t p m o cut below (inl before) =
      let after = m.after in
      let upto = o.before in
      let left = below a p t (part a b d a p valid (omega (arith, ints)) (omega (arith, ints, after, before)) (omega (arith, ints, upto))) (narrow a b d a p k w (omega (arith, ints)) (omega (arith, ints, after, before)) (omega (arith, ints, upto)) (inr upto)) (seam a b a p t m after before) in
      let right = below t b p (part a b d t b valid (omega (arith, ints, after)) (omega (arith, ints, upto, before)) (omega (arith, ints))) (narrow a b d t b k w (omega (arith, ints, after)) (omega (arith, ints, upto, before)) (omega (arith, ints)) (inl after)) (seam a b t b p o before upto) in
      cut ∙ ap (λ x. x ++ L p b d) left ∙ append_assoc (L a t d) (L t p d) (L p b d) ∙ ap (λ x. L a t d ++ x) (sym right)
  by_cut k a b d valid w t p m o cut below (inr (inl before)) =
      let after = o.after in
      let upto = m.before in
      let right = below p b t (part a b d p b valid (omega (arith, ints, after)) (omega (arith, ints, upto, before)) (omega (arith, ints))) (narrow a b d p b k w (omega (arith, ints, after)) (omega (arith, ints, upto, before)) (omega (arith, ints)) (inl after)) (seam a b p b t m before upto) in
      let left = below a t p (part a b d a t valid (omega (arith, ints)) (omega (arith, ints, after, before)) (omega (arith, ints, upto))) (narrow a b d a t k w (omega (arith, ints)) (omega (arith, ints, after, before)) (omega (arith, ints, upto)) (inr upto)) (seam a b a t p o after before) in
      cut ∙ ap (λ x. L a p d ++ x) right ∙ sym (append_assoc (L a p d) (L p t d) (L t b d)) ∙ ap (λ x. x ++ L t b d) (sym left)
  by_cut k a b d valid w t p m o cut below (inr (inr same)) = subst (λ (u : ℤ). Meets a b d u) (sym same) cut

  by_width : (k : ℕ) (a b : ℤ) (d : ℕ) → IsValid (rules s) (node a b d) → width (node a b d) ≤ k → (t : ℤ) → IsSeam s a b t → Meets a b d t
  by_width zero a b d valid w t m = let after = m.after in let before = m.before in absurd (omega (arith, ints, w, after, before))
  by_width (suc k) a b d valid w t m =
      let is_wide_node = wide (node a b d) t m.after m.before in
      let f = found (node a b d) m.border m.inside in
      let near = cut_near (node a b d) f.0 f.2.after f.2.upto is_wide_node in
      let o : IsSeam s a b (border_cut (node a b d) f.0) = record { border = f.0; inside = f.2; near = near.2; after = near.0; before = near.1 } in
      by_cut k a b d valid w t (border_cut (node a b d) f.0) m o (at_border a b d f.0 valid f.1 is_wide_node)
      (λ c e u v x y. by_width k c e d v x u y) (before_after_or_at t (border_cut (node a b d) f.0))

  pub leaves_at_seam : (a b : ℤ) (d : ℕ) → IsValid (rules s) (node a b d) → (t : ℤ) → IsSeam s a b t → Meets a b d t
  leaves_at_seam a b d valid t m = by_width (width (node a b d)) a b d valid (omega arith) t m
