use Rattle.std.proofs.Common.{sym, subst, w64, ℤ, ◌≤ℤ◌}
use Rattle.std.specs.Prelude.{IfOk}
use Rattle.std.proofs.lemmas.Int.{to_z-of_z}
use Rattle.std.proofs.lemmas.Result.{IfOk-weaker}
use Rattle.spec_expressions.specs.Term.{exact_of}
use Rattle.spec_events.specs.Functions.{IsNotNegative}
use Rattle.spec_sets.specs.Pairs.{AreOf}
use Rattle.spec_sets.specs.Points.{point_of}
use Rattle.spec_sets.specs.Signs.{Follow, end_from, sign_of_leaves}
use Rattle.spec_sets.specs.Spans.{earliest, latest}
use Rattle.spec_sets.proofs.Points.{point_tells}
use Rattle.spec_sets.proofs.Sets.{sets_of_true_signs}
use Rattle.spec_sets.proofs.Telling.{leaves_tell}
use Rattle.gf_sets.proofs.from_leaves.at_least.Goals as goal

pub times_at_least-requires-clause-follow : goal.times_at_least-requires-clause-follow
times_at_least-requires-clause-follow g c = subst (λ (z : ℤ). Follow z c.args.leaves.now) (sym (to_z-of_z w64 c.args.from c.ranges.from)) c.requires.follow

pub times_at_least-requires-clause-early : goal.times_at_least-requires-clause-early
times_at_least-requires-clause-early g c = subst (λ (z : ℤ). earliest ≤ℤ z) (sym (to_z-of_z w64 c.args.from c.ranges.from)) c.requires.early

pub times_at_least-requires-clause-late : goal.times_at_least-requires-clause-late
times_at_least-requires-clause-late g c =
    subst (λ (z : ℤ). end_from z c.args.leaves.now ≤ℤ latest) (sym (to_z-of_z w64 c.args.from c.ranges.from)) c.requires.late

pub times_at_least-requires-clause-fits : goal.times_at_least-requires-clause-fits
times_at_least-requires-clause-fits g c = λ t after before.
    let from = to_z-of_z w64 c.args.from c.ranges.from in
    c.requires.fits t (subst (λ (z : ℤ). z ≤ℤ t) from after) (subst (λ (z : ℤ). t ≤ℤ end_from z c.args.leaves.now) from before)

pub returns-clause-signs : goal.returns-clause-signs
returns-clause-signs g c =
    subst (λ (z : ℤ). IfOk c.times_at_least.result (λ pair. AreOf (sign_of_leaves (point_of (g.S.States.answer c.args.states.now) c.args.f.now) z c.args.leaves.now)
    z (end_from z c.args.leaves.now) pair.sure pair.maybe)) (to_z-of_z w64 c.args.from c.ranges.from) c.times_at_least.ensures

pub returns-clause-meets : goal.returns-clause-meets
returns-clause-meets g c =
    let point = point_of (g.S.States.answer c.args.states.now) c.args.f.now in
    let upto = end_from c.args.from c.args.leaves.now in
    let meets = IsNotNegative (exact_of (g.S.States.exact c.args.states.now) c.args.f.now) in
    let signs : IfOk c.times_at_least.result (λ pair. AreOf (sign_of_leaves point c.args.from c.args.leaves.now) c.args.from upto pair.sure pair.maybe) =
    subst (λ (z : ℤ). IfOk c.times_at_least.result (λ pair. AreOf (sign_of_leaves point z c.args.leaves.now) z (end_from z c.args.leaves.now) pair.sure pair.maybe))
    (to_z-of_z w64 c.args.from c.ranges.from) c.times_at_least.ensures in
    IfOk-weaker c.times_at_least.result _ _
    (λ pair are formula told. sets_of_true_signs meets (sign_of_leaves point c.args.from c.args.leaves.now) c.args.from upto pair.sure pair.maybe are
    (leaves_tell meets point c.args.from upto c.args.leaves.now c.requires.follow told
    (λ t low high. point_tells (g.S.States.exact c.args.states.now) (g.S.States.answer c.args.states.now) c.args.f.now formula.leaves t
    (λ leaf is. g.met.S.States.numbers c.args.states.now leaf t t is (c.requires.fits t low high))
    (λ leaf is. g.met.S.States.holds c.args.states.now leaf t t is (c.requires.fits t low high)))))
    signs
