-- The verdict of a node in a steady span, by the signs at its ends.
use Rattle.std.proofs.Common.{◌≡◌, Bool, true, false, ◌&&◌, nat_le, All, ℤ, ◌≤ℤ◌, refl, sym, subst, ◌∙◌, arith}
use Rattle.std.specs.Prelude.{if◌then◌else◌}
use Rattle.std.specs.List.{list_all, list_any}
use Rattle.spec_intervals.specs.Enclosure.{Enclosure}
use Rattle.spec_intervals.specs.Interval.{Interval}
use Rattle.spec_intervals.specs.Signs.{sign_of}
use Rattle.spec_numbers.proofs.Order.{lin}
use Rattle.spec_expressions.specs.Term.{Term, HasLeaves}
use Rattle.spec_bodies.specs.Views.{Fits, state_enclosure}
use Rattle.spec_trees.specs.declared.tree.Node.{Node}
use Rattle.spec_trees.specs.declared.tree.Verdict.{Verdict}
use Rattle.spec_trees.specs.declared.tree.Verdict.TheVariants.{Clear, One}
use Rattle.spec_trees.specs.Cuts.{is_wide}
use Rattle.spec_trees.specs.Tree.{IsValid, width}
use Rattle.spec_events.specs.Stages.{has_no_turn, is_turnless, limit_verdict}
use Rattle.spec_events.specs.Verdict.{is_known, differ, certifies, is_certified, is_refuted, is_one_way, turn_to}
use Rattle.spec_searches.specs.Event.{Condition, IsCondition}
use Rattle.spec_searches.specs.Found.{rules}
use Rattle.spec_searches.specs.Search.{Search, IsSearch, criteria, crosses, enclosure_over, verdict_of}
use Rattle.spec_models.specs.Bounds.{Bound}
use Rattle.spec_models.proofs.Inclusions.{holds_ordered}
use Rattle.spec_bounds.specs.Terms.{bound_over}
use Rattle.spec_bounds.specs.Steady.{IsSteady, is_certified_over, sign_at, steady_verdict}
use Rattle.spec_bounds.proofs.Rules.{IsIncluded, enclosures_in_order}
use Rattle.spec_bounds.proofs.Quiet.{open_by_fit}
use Rattle.spec_bounds.proofs.Guards.{IsCertified, all_certified, none_refuted, still_holds}
use Rattle.spec_bounds.proofs.Signs.{certified_included, one_way_included}
use Rattle.spec_bounds.proofs.States.{part_fits, formula_included}
use Rattle.spec_bounds.proofs.Staged.{exact_in, found_at, sound_at, stages_of}
use Rattle.spec_bounds.proofs.StatesAtTime.{formula_at_time}
use Rattle.spec_bounds.proofs.Turns.{differ_or_none, turnless_by_ends}

-- the stages over plain tests: where each guard is certified and the steps lead one way, they are the same for wide nodes
-- and for others
module _ (one limit : Verdict) where
  abbrev ends : (none narrow differs certified : Bool) → Verdict
  ends none narrow differs certified = if none then Clear else if narrow && (differs && certified) then one else limit

  abbrev stages : (turnless wide refuted one_way none narrow differs certified : Bool) → Verdict
  stages turnless wide refuted one_way none narrow differs certified =
      if turnless then Clear
      else if wide then (if refuted then Clear else if one_way then ends none narrow differs certified else limit)
      else if refuted then Clear
      else ends none narrow differs certified

  by_ends : (turnless wide refuted one_way none narrow differs certified : Bool)
      → refuted ≡ false → one_way ≡ true → certified ≡ true → (turnless ≡ true → none ≡ true) → (none ≡ false → differs ≡ true)
      → stages turnless wide refuted one_way none narrow differs certified ≡ (if none then Clear else if narrow then one else limit)
  by_ends true wide refuted one_way none narrow differs certified r o c tells differ = rw (tells refl) refl
  by_ends false true refuted one_way true narrow differs certified r o c tells differ = rw (r, o) refl
  by_ends false true refuted one_way false true differs certified r o c tells differ = rw (r, o, c, differ refl) refl
  by_ends false true refuted one_way false false differs certified r o c tells differ = rw (r, o) refl
  by_ends false false refuted one_way true narrow differs certified r o c tells differ = rw r refl
  by_ends false false refuted one_way false true differs certified r o c tells differ = rw (r, c, differ refl) refl
  by_ends false false refuted one_way false false differs certified r o c tells differ = rw r refl

module _ (s : Search) (a b : ℤ) (n : Node) (is : IsSearch s) (steady : IsSteady s a b)
    (valid : IsValid (rules s) n) (after : a ≤ℤ n.a) (upto : n.b ≤ℤ b) where
  -- of a formula, over the span and over the node
  abbrev over_span : Term → Bound
  over_span x = bound_over s.view x a b

  abbrev over_node : Term → Enclosure
  over_node x = enclosure_over (state_enclosure s.view) x n.a n.b

  fits : Fits s.view n.a n.b
  fits = part_fits s.view n.a n.b a b steady.fits after valid.inside upto

  open_node : crosses s n ≡ false
  open_node = open_by_fit s n is fits

  included : (x : Term) → HasLeaves x → IsIncluded (exact_in s x) n.a n.b (over_span x) (over_node x)
  included = formula_included s.view n.a n.b a b steady.fits after valid.inside upto

  one_way : is_one_way (found_at s n).step ≡ true
  one_way =
      one_way_included (over_span s.event.function).step (over_node s.event.function).step
      (included s.event.function is.formulas.function.leaves).included.step steady.one_way

  -- ---- conditions
  after_last : a ≤ℤ n.b
  after_last = let inside = valid.inside in omega (arith, lin, after, inside)

  -- asked over the whole of a wide node, and at the one time of another
  certified_by : (wide : Bool) (c : Condition) → IsCondition c → is_certified_over s a b c ≡ true
      → certifies c.at_least (sign_of (enclosure_over (state_enclosure s.view) c.term (if wide then n.a else n.b) n.b).range) ≡ true
  certified_by true c formula over =
      let part = included c.term formula.leaves in
      let in_order = (enclosures_in_order n.a n.b valid.inside _ _ part.numbers part.enclosed).range in
      certified_included c.at_least (over_span c.term).range (over_node c.term).range in_order part.included.range over
  certified_by false c formula over =
      let part = formula_at_time s.view a b n.b steady.fits after_last upto c.term formula.leaves in
      let in_order = holds_ordered _ part.value part.number part.held in
      subst (λ (x : Interval). certifies c.at_least (sign_of x) ≡ true) (sym part.single)
      (certified_included c.at_least (over_span c.term).range _ in_order part.mid over)

  all : All (IsCertified s n) s.event.conditions
  all = λ k d within. certified_by (is_wide n) _ (is.formulas.conditions k d within) (steady.certified k d within)

  module _ (first_known : is_known (sign_at s n.a) ≡ true) (last_known : is_known (sign_at s n.b) ≡ true) where
    pub verdict_in_steady : verdict_of s n ≡ steady_verdict (criteria s) n (sign_at s n.a) (sign_at s n.b)
    verdict_in_steady =
        stages_of s is n valid ∙ rw open_node
        (by_ends (One (turn_to (sign_at s n.b))) (limit_verdict (criteria s) n)
        (is_turnless s.event.dir (found_at s n).over (found_at s n).step) (is_wide n) (list_any is_refuted (found_at s n).guards)
        (is_one_way (found_at s n).step) (has_no_turn s.event.dir (sign_at s n.a) (sign_at s n.b)) (nat_le (width n) s.width)
        (differ s.event.dir (sign_at s n.a) (sign_at s n.b)) (list_all is_certified (found_at s n).guards)
        (none_refuted s n s.event.conditions (λ k d within. still_holds s n _ (all k d within))) one_way
        (all_certified s n s.event.conditions all)
        (turnless_by_ends _ _ n (found_at s n) (sound_at s is n valid) open_node first_known last_known s.event.dir)
        (differ_or_none s.event.dir (sign_at s n.a) (sign_at s n.b) first_known last_known))
