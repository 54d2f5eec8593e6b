-- What is found at a valid node are the enclosures of the function and of the conditions.
use Rattle.std.proofs.Common.{◌≡◌, ◌⊎◌, inl, inr, Bool, true, false, not, List, [], ◌∷◌, map, ℤ, pos, ◌-ℤ◌, ◌≤ℤ◌, ◌<ℤ◌, int_lt, refl, sym, ap, subst, arith}
use Rattle.std.specs.Prelude.{if◌then◌else◌}
use Rattle.std.proofs.lemmas.Int.{ints}
use Rattle.std.proofs.lemmas.Bool.{or_cases, not-true, both_ways}
use Rattle.std.proofs.lemmas.List.Elements.{All-map, All-weaker}
use Rattle.spec_intervals.specs.Fraction.{Holds}
use Rattle.spec_intervals.specs.Enclosure.{IsEnclosure, AllFractions}
use Rattle.spec_expressions.specs.Term.{Term, IsFormula, exact_of}
use Rattle.spec_expressions.proofs.Induction.{AllFractions-of, IsEnclosure-of}
use Rattle.spec_bodies.specs.Views.{Fits, exact_state, state_enclosure}
use Rattle.spec_bodies.proofs.Held.{fractions_of_states, states_held}
use Rattle.spec_trees.specs.declared.tree.Node.{Node}
use Rattle.spec_trees.specs.Cuts.{is_wide}
use Rattle.spec_trees.specs.Tree.{IsValid}
use Rattle.spec_events.specs.Soundness.{IsEvidence, IsGuardHeld, guard_of as own_guard, guards_of}
use Rattle.spec_events.specs.Verdict.{is_readable}
use Rattle.spec_searches.specs.Event.{Condition, IsCondition, guard_of}
use Rattle.spec_searches.specs.Search.{Search, IsSearch, crosses, enclosure_over, evidence_at, guard_evidence}
use Rattle.spec_searches.specs.Found.{rules}
use Rattle.spec_searches.proofs.Borders.{span_fits, time_fits}

-- the one time of a node that is not wide
only_time : (a b t : ℤ) → int_lt (pos 1) (b -ℤ a) ≡ false → a <ℤ t → t ≤ℤ b → t ≡ b
only_time a b t narrow after upto = grind (arith, ints)

-- ---- a formula over times that fit
module _ (s : Search) (term : Term) (formula : IsFormula term) where
  fractions_over : (a b : ℤ) → Fits s.view a b → AllFractions (exact_of (exact_state s.view) term) a b
  fractions_over a b fits = AllFractions-of (exact_state s.view) a b (λ l is. fractions_of_states s.view a b fits l is) term formula.leaves

  enclosed_over : (a b : ℤ) → Fits s.view a b → IsEnclosure (exact_of (exact_state s.view) term) a b (enclosure_over (state_enclosure s.view) term a b)
  enclosed_over a b fits =
      IsEnclosure-of (exact_state s.view) a b (λ l is. fractions_of_states s.view a b fits l is) fits.ordered (λ l. state_enclosure s.view l a b)
      (λ l is. states_held s.view a b fits l is) term formula.leaves

module _ (s : Search) (is : IsSearch s) (n : Node) (valid : IsValid (rules s) n) where
  time_in_node : (t : ℤ) → n.a ≤ℤ t → t ≤ℤ n.b → Fits s.view t t
  time_in_node t after upto =
      let from = valid.from in
      let to = valid.to in
      time_fits s.view is.view t (omega (arith, ints, from, after)) (omega (arith, ints, to, upto))

  first_fits : Fits s.view n.a n.a
  first_fits = let inside = valid.inside in time_in_node n.a (omega (arith, ints)) (omega (arith, ints, inside))

  last_fits : Fits s.view n.b n.b
  last_fits = let inside = valid.inside in time_in_node n.b (omega (arith, ints, inside)) (omega (arith, ints))

  whole_fits : crosses s n ≡ false → Fits s.view n.a n.b
  whole_fits none = let inside = valid.inside in span_fits s.view is.view n.a n.b valid.from (omega (arith, ints, inside)) valid.to none

  fractions_in_node : (term : Term) → IsFormula term → AllFractions (exact_of (exact_state s.view) term) n.a n.b
  fractions_in_node term formula t after upto = fractions_over s term formula t t (time_in_node t after upto) t (omega (arith, ints)) (omega (arith, ints))

  -- ---- conditions: over the whole of a wide node, and at the one time of another
  abbrev held_over : ℤ → Condition → Type 0
  held_over from c = (t : ℤ) → n.a <ℤ t → t ≤ℤ n.b → Holds (enclosure_over (state_enclosure s.view) c.term from n.b).range (exact_of (exact_state s.view) c.term t)

  held_by : (wide : Bool) → is_wide n ≡ wide → is_readable n (crosses s n) ≡ true → (c : Condition) → IsCondition c → held_over (if wide then n.a else n.b) c
  held_by true e readable c formula t after upto =
      by (or_cases (not (crosses s n)) (not (is_wide n)) readable)
    where
      by : (not (crosses s n) ≡ true) ⊎ (not (is_wide n) ≡ true) → Holds (enclosure_over (state_enclosure s.view) c.term n.a n.b).range (exact_of (exact_state s.view) c.term t)
      by (inl none) = (enclosed_over s c.term formula n.a n.b (whole_fits (not-true (crosses s n) none))).range t (omega (arith, ints, after)) upto
      by (inr narrow) = absurd (both_ways (is_wide n) (not-true (is_wide n) narrow) e)
  held_by false e readable c formula t after upto =
      subst (λ u. Holds (enclosure_over (state_enclosure s.view) c.term n.b n.b).range (exact_of (exact_state s.view) c.term u)) (sym (only_time n.a n.b t e after upto))
      ((enclosed_over s c.term formula n.b n.b last_fits).range n.b (omega (arith, ints)) (omega (arith, ints)))

  guard_held : is_readable n (crosses s n) ≡ true → (c : Condition) → IsCondition c → IsGuardHeld n (guard_evidence (exact_state s.view) (state_enclosure s.view) n c)
  guard_held readable c formula t after upto = (
    fractions_in_node c.term formula t (omega (arith, ints, after)) upto,
    held_by (is_wide n) refl readable c formula t after upto,
  )

  pub is_evidence : IsEvidence (exact_of (exact_state s.view) s.event.function) n (evidence_at s n)
  is_evidence = record {
    ordered = valid.inside;
    numbers = fractions_in_node s.event.function is.formulas.function;
    first = enclosed_over s s.event.function is.formulas.function n.a n.a first_fits;
    last = enclosed_over s s.event.function is.formulas.function n.b n.b last_fits;
    whole = λ none. enclosed_over s s.event.function is.formulas.function n.a n.b (whole_fits none);
    guards = λ readable. All-map (IsGuardHeld n) (guard_evidence (exact_state s.view) (state_enclosure s.view) n) s.event.conditions
        (All-weaker IsCondition (λ c. IsGuardHeld n (guard_evidence (exact_state s.view) (state_enclosure s.view) n c)) (guard_held readable) s.event.conditions is.formulas.conditions);
  }

-- the guards of what is found are those of the conditions
pub guards_are : (s : Search) (n : Node) → guards_of (evidence_at s n) ≡ map (guard_of (exact_state s.view)) s.event.conditions
guards_are s n = by s.event.conditions
  where
    by : (cs : List Condition) → map own_guard (map (guard_evidence (exact_state s.view) (state_enclosure s.view) n) cs) ≡ map (guard_of (exact_state s.view)) cs
    by [] = refl
    by (c ∷ cs) = ap (λ gs. guard_of (exact_state s.view) c ∷ gs) (by cs)
