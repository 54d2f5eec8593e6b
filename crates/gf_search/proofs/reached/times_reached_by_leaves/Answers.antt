use Rattle.std.proofs.Common.{rules, ◌≡◌, ◌∙◌, ap, sym, subst, w64, to_z, of_z, List, ℤ, ◌≤ℤ◌}
use Rattle.std.proofs.lemmas.Int.{to_z-of_z}
use Rattle.std.proofs.lemmas.Result.{IfOk-weaker}
use mir.Val.{SFits}
use Rattle.spec_intervals.specs.declared.signs.Sign.{Sign}
use Rattle.spec_bodies.specs.Views.{Fits, View, state_enclosure}
use Rattle.spec_searches.specs.Event.{Event}
use Rattle.still_judge.specs.Signs.{TellSigns}
use Rattle.spec_sets.specs.Pairs.{AreOf}
use Rattle.spec_sets.specs.Points.{point_of}
use Rattle.spec_sets.specs.Signs.{Follow, end_from, sign_of_leaves}
use Rattle.spec_sets.specs.Spans.{earliest, latest}
use Rattle.spec_trees.specs.declared.tree.Leaf.{Leaf}
use Rattle.spec_trees.specs.Tree.{Covers}
use Rattle.spec_outcomes.specs.Queries.{search as search_of}
use Rattle.spec_outcomes.specs.Sets.{signs_by, signs_in}
use Rattle.spec_outcomes.proofs.SetSigns.{span_early}
use Rattle.gf_search.proofs.Ends.{renamed, same_signs}
use Rattle.gf_search.proofs.Times.{end_is_upto, leaves_end, leaves_follow, times_fit}
use Rattle.gf_search.proofs.reached.times_reached_by_leaves.Goals as goal

pub invariant_of-signs : goal.invariant_of-signs
invariant_of-signs c =
    let function = c.function.ensures.function ∙ ap (λ (event : Event). event.function) c.requires.event in
    let xs = c.args.found.now.stills in
    record {
      told = subst (λ (point : ℤ → Sign). TellSigns point xs) (λ i. point_of (state_enclosure (sym c.states-states.ensures i)) (sym function i))
          (λ k d below. (c.requires.still k d below).signs);
    }

-- the leaves as they are passed on
follow_of : (ls passed : List Leaf) (from upto : ℤ) → passed ≡ ls → Covers from ls upto → Covers from passed upto
follow_of ls passed from upto is = subst (λ (ms : List Leaf). Covers from ms upto) (sym is)

pub times_at_least-requires-clause-follow : goal.times_at_least-requires-clause-follow
times_at_least-requires-clause-follow c =
    let small : SFits w64 c.args.span.from = search rules in
    let ls = c.deref.result.now in
    let follow = follow_of c.args.found.now.leaves.items ls c.args.span.from c.args.span.upto c.deref.ensures.value c.requires.follow in
    subst (λ (z : ℤ). Follow z ls) (sym (to_z-of_z w64 c.args.span.from small))
    (leaves_follow c.args.query.now c.args.ephemeris.now c.args.span c.header-header.ensures.checked c.requires.block c.requires.query c.requires.within
    c.requires.sound ls follow)

pub times_at_least-requires-clause-early : goal.times_at_least-requires-clause-early
times_at_least-requires-clause-early c =
    let small : SFits w64 c.args.span.from = search rules in
    subst (λ (z : ℤ). earliest ≤ℤ z) (sym (to_z-of_z w64 c.args.span.from small))
    (span_early c.args.query.now c.args.ephemeris.now c.args.span c.header-header.ensures.checked c.requires.block c.requires.query c.requires.within c.requires.sound)

pub times_at_least-requires-clause-late : goal.times_at_least-requires-clause-late
times_at_least-requires-clause-late c =
    let small : SFits w64 c.args.span.from = search rules in
    let ls = c.deref.result.now in
    let follow = follow_of c.args.found.now.leaves.items ls c.args.span.from c.args.span.upto c.deref.ensures.value c.requires.follow in
    subst (λ (z : ℤ). end_from z ls ≤ℤ latest) (sym (to_z-of_z w64 c.args.span.from small))
    (leaves_end c.args.query.now c.args.ephemeris.now c.args.span c.header-header.ensures.checked c.requires.block c.requires.query c.requires.within
    c.requires.sound ls follow)

pub times_at_least-requires-clause-fits : goal.times_at_least-requires-clause-fits
times_at_least-requires-clause-fits c = λ t after before.
    let small : SFits w64 c.args.span.from = search rules in
    let from = to_z-of_z w64 c.args.span.from small in
    let ls = c.deref.result.now in
    let follow = follow_of c.args.found.now.leaves.items ls c.args.span.from c.args.span.upto c.deref.ensures.value c.requires.follow in
    subst (λ (v : View). Fits v t t) (sym c.states-states.ensures)
    (times_fit c.args.query.now c.args.ephemeris.now c.args.span c.header-header.ensures.checked c.requires.block c.requires.query c.requires.within
    c.requires.sound ls follow t (subst (λ (z : ℤ). z ≤ℤ t) from after)
    (subst (λ (z : ℤ). t ≤ℤ end_from z ls) from before))

pub returns : goal.returns
returns c =
    let small : SFits w64 c.args.span.from = search rules in
    let from = to_z-of_z w64 c.args.span.from small in
    let function = c.function.ensures.function ∙ ap (λ (event : Event). event.function) c.requires.event in
    let s = search_of c.args.query.now c.args.ephemeris.now in
    let ls = c.deref.result.now in
    let follow = follow_of c.args.found.now.leaves.items ls c.args.span.from c.args.span.upto c.deref.ensures.value c.requires.follow in
    let signs : (t : ℤ) → t ≤ℤ c.args.span.upto → signs_by s c.args.span ls t ≡ signs_in s c.args.span t =
    subst (λ (ms : List Leaf). (t : ℤ) → t ≤ℤ c.args.span.upto → signs_by s c.args.span ms t ≡ signs_in s c.args.span t) (sym c.deref.ensures.value) c.requires.signs in
    let upto = ap (λ (z : ℤ). end_from z ls) from
    ∙ end_is_upto c.args.query.now c.args.ephemeris.now c.args.span c.header-header.ensures.checked c.requires.block c.requires.query c.requires.within
    c.requires.sound ls follow in
    IfOk-weaker c.times_at_least.result _ _
    (λ pair are. same_signs _ _ c.args.span.from c.args.span.upto pair.sure pair.maybe signs
    (renamed _ _ _ c.args.span.from c.args.span.upto pair.sure pair.maybe from upto
    (subst (λ (sign : ℤ → Sign). AreOf sign (to_z w64 (of_z w64 c.args.span.from)) (end_from (to_z w64 (of_z w64 c.args.span.from)) ls) pair.sure pair.maybe)
    (λ i. sign_of_leaves (point_of (state_enclosure (c.states-states.ensures i)) (function i)) (from i) ls) are)))
    c.times_at_least.ensures
