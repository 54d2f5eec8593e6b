use Rattle.std.proofs.Common.{rules, arith, ◌≡◌, length, sym, subst}
use Rattle.spec_ephemeris.specs.declared.body.Body.TheVariants.{Ssb}
use Rattle.spec_bodies.specs.Views.{IsThere, IsView}
use Rattle.spec_bodies.proofs.InUse.{body_there, present_in_use}
use Rattle.body_states.proofs.states.BodyStates.new.Goals as goal
use Rattle.body_states.proofs.states.BodyStates.new.Goals.{After-of-in_use}

is_view : (c : After-of-in_use) → IsView (record { ephemeris = c.args.ephemeris.now; first = c.of-first.result; second = c.of-second.result; observer = c.of-observer.result; frame = c.args.frame })
is_view c =
    let two : length c.args.targets ≡ 2 = search rules in
    record {
      checked = c.header.ensures.checked;
      block = c.requires.block;
      first = subst (IsThere c.args.ephemeris.now) (sym c.of-first.ensures) (body_there c.args.ephemeris.now _ (c.requires.present 1 _ (omega (arith, two))));
      second = subst (IsThere c.args.ephemeris.now) (sym c.of-second.ensures) (body_there c.args.ephemeris.now _ (c.requires.present 2 _ (omega (arith, two))));
      observer = subst (IsThere c.args.ephemeris.now) (sym c.of-observer.ensures) (body_there c.args.ephemeris.now _ (c.requires.present 0 Ssb (omega (arith, two))));
    }

pub dividers_of-requires-clause-present : goal.dividers_of-requires-clause-present
dividers_of-requires-clause-present c =
    let d = (goal.at.dividers_of-requires-clause-present c).After-of-in_use in
    rw c.of-in_use.ensures.numbers (present_in_use _ (is_view d))

pub entries_of-requires-clause-present : goal.entries_of-requires-clause-present
entries_of-requires-clause-present c =
    let d = (goal.at.entries_of-requires-clause-present c).After-of-in_use in
    rw c.of-in_use.ensures.numbers (present_in_use _ (is_view d))

pub invariant_of-result : goal.invariant_of-result
invariant_of-result c =
    let d = (goal.at.invariant_of-result c).After-of-in_use in (
      is_view d,
      c.of-in_use.ensures.numbers,
      c.of-in_use.ensures.few,
      rw c.header.ensures.same at c.new-factors.ensures,
      c.dividers_of.ensures,
      c.new-coordinates.ensures,
    )
