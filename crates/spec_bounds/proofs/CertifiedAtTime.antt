-- A condition that is certified at one time of a wide node is not refuted over the node, since both signs tell of its value
-- at that time.
use Rattle.std.proofs.Common.{◌≡◌, Bool, true, false, not, ℤ, ◌≤ℤ◌, refl, sym, ap, subst, arith}
use Rattle.std.specs.Prelude.{if◌then◌else◌}
use Rattle.std.proofs.lemmas.Bool.{false≢true, false_from_ne_true}
use Rattle.spec_numbers.proofs.Order.{lin}
use Rattle.spec_intervals.specs.declared.signs.Sign.{Sign}
use Rattle.spec_intervals.specs.declared.signs.Sign.TheVariants.{Yes, No, Open}
use Rattle.spec_intervals.specs.Enclosure.{IsEnclosure}
use Rattle.spec_intervals.specs.Signs.{sign_of}
use Rattle.spec_expressions.specs.Term.{Term, HasLeaves, LeavesAreNumbers, exact_of}
use Rattle.spec_expressions.proofs.Induction.{AllFractions-of, IsEnclosure-of}
use Rattle.spec_bodies.specs.Views.{View, Fits, exact_state, state_enclosure}
use Rattle.spec_bodies.proofs.Held.{fractions_of_states, states_held}
use Rattle.spec_trees.specs.declared.tree.Node.{Node}
use Rattle.spec_trees.specs.Cuts.{is_wide}
use Rattle.spec_trees.specs.Tree.{IsValid}
use Rattle.spec_events.specs.Functions.{IsNotNegative}
use Rattle.spec_events.specs.Soundness.{Tells}
use Rattle.spec_events.specs.Verdict.{certifies}
use Rattle.spec_events.proofs.Evidence.{tells}
use Rattle.spec_searches.specs.Event.{Condition, IsCondition}
use Rattle.spec_searches.specs.Found.{rules}
use Rattle.spec_searches.specs.Search.{Search, IsSearch, crosses, enclosure_over, guards_from}
use Rattle.spec_searches.proofs.Borders.{span_fits, time_fits}
use Rattle.spec_bounds.specs.Steady.{is_certified_at}
use Rattle.spec_bounds.proofs.Guards.{IsNotRefuted}

-- signs that tell of one fact are not opposed: what one certifies, the other does not refute
opposed : (fact : Type 0) (at_least : Bool) (one other : Sign) → Tells one fact → Tells other fact
    → certifies at_least one ≡ true → certifies (not at_least) other ≡ true → ⊥
opposed fact true Yes No p q is refuted = q.no refl (p.yes refl)
opposed fact true Yes Yes p q is refuted = false≢true refuted
opposed fact true Yes Open p q is refuted = false≢true refuted
opposed fact true No other p q is refuted = false≢true is
opposed fact true Open other p q is refuted = false≢true is
opposed fact false No Yes p q is refuted = p.no refl (q.yes refl)
opposed fact false No No p q is refuted = false≢true refuted
opposed fact false No Open p q is refuted = false≢true refuted
opposed fact false Yes other p q is refuted = false≢true is
opposed fact false Open other p q is refuted = false≢true is

-- the sign of a formula over times that fit tells of its value at each of them
module _ (v : View) (a b : ℤ) (fits : Fits v a b) (x : Term) (has : HasLeaves x) where
  numbers : LeavesAreNumbers (exact_state v) a b
  numbers l is = fractions_of_states v a b fits l is

  enclosed : IsEnclosure (exact_of (exact_state v) x) a b (enclosure_over (state_enclosure v) x a b)
  enclosed =
      IsEnclosure-of (exact_state v) a b numbers fits.ordered (λ l. state_enclosure v l a b)
      (λ l is. states_held v a b fits l is) x has

  told : (t : ℤ) → a ≤ℤ t → t ≤ℤ b
      → Tells (sign_of (enclosure_over (state_enclosure v) x a b).range) (IsNotNegative (exact_of (exact_state v) x) t)
  told t after upto =
      tells _ (exact_of (exact_state v) x t)
      (AllFractions-of (exact_state v) a b numbers x has t after upto) (enclosed.range t after upto)

module _ (s : Search) (n : Node) (is : IsSearch s) (valid : IsValid (rules s) n) (open_node : crosses s n ≡ false)
    (wide : is_wide n ≡ true) (t : ℤ) (after : n.a ≤ℤ t) (upto : t ≤ℤ n.b) where
  over_node : Fits s.view n.a n.b
  over_node =
      let inside = valid.inside in
      span_fits s.view is.view n.a n.b valid.from (omega (arith, lin, inside)) valid.to open_node

  then_fits : Fits s.view t t
  then_fits =
      let from = valid.from in
      let to = valid.to in
      time_fits s.view is.view t (omega (arith, lin, from, after)) (omega (arith, lin, to, upto))

  -- conditions are asked over the whole node
  from_first : guards_from n ≡ n.a
  from_first = ap (λ (w : Bool). if w then n.a else n.b) wide

  pub not_refuted_over : (c : Condition) → IsCondition c → is_certified_at s t c ≡ true → IsNotRefuted s n c
  not_refuted_over c formula certified =
      subst
      (λ from. certifies (not c.at_least) (sign_of (enclosure_over (state_enclosure s.view) c.term from n.b).range) ≡ false)
      (sym from_first)
      (false_from_ne_true _
      (opposed _ c.at_least _ _
      (told s.view t t then_fits c.term formula.leaves t then_fits.ordered then_fits.ordered)
      (told s.view n.a n.b over_node c.term formula.leaves t after upto) certified))
