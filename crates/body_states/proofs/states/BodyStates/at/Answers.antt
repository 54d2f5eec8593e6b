use Rattle.std.proofs.Common.{◌≡◌, refl, to_z, of_z, w64}
use Rattle.std.proofs.lemmas.Int.{to_z-of_z}
use Rattle.body_states.proofs.states.BodyStates.at.Goals as goal
use Rattle.body_states.proofs.states.BodyStates.at.Goals.{After-new-times}

times : (c : After-new-times) → (c.new-times.result.first ≡ c.args.a) × (c.new-times.result.last ≡ c.args.b)
times c =
    let sa : to_z w64 (of_z w64 c.args.a) ≡ c.args.a = to_z-of_z w64 c.args.a c.ranges.a in
    let sb : to_z w64 (of_z w64 c.args.b) ≡ c.args.b = to_z-of_z w64 c.args.b c.ranges.b in
    (rw sa at c.new-times.ensures.first, rw sb at c.new-times.ensures.last)

pub write_entries-requires : goal.write_entries-requires
write_entries-requires c =
    let is = times (goal.at.write_entries-requires c).After-new-times in
    rw (is.0, is.1) c.requires

pub write_entries-requires-2 : goal.write_entries-requires-2
write_entries-requires-2 c =
    let is = times (goal.at.write_entries-requires-2 c).After-new-times in
    rw (is.0, is.1) c.requires

pub invariant_of-result : goal.invariant_of-result
invariant_of-result c =
    let is = times (goal.at.invariant_of-result c).After-new-times in
    ((c.write_entries.ensures.entries, c.write_entries.ensures.count), (c.write_entries-2.ensures.entries, c.write_entries-2.ensures.count), rw (is.0, is.1) c.requires)

pub returns : goal.returns
returns c =
    let is = times (goal.at.returns c).After-new-times in
    rw (is.0, is.1) refl
