use Rattle.std.proofs.Common.{rules, ◌≡◌, length}
use Rattle.body_states.specs.Ranges.{asked_of}
use Rattle.body_states.proofs.Entries.{AreFirst, any_entered, made_of, right_of}
use Rattle.body_states.proofs.states.BodyStates.kept_enclosure.Goals as goal
use Rattle.body_states.proofs.states.BodyStates.kept_enclosure.Goals.{After-find_axis_entries}

first : (c : After-find_axis_entries) → AreFirst c.args.is_centred (asked_of c.args.self.now c.args.question.now) c.args.columns.now c.min-count.result
first c =
    let long : length c.args.columns.now ≡ 4 = search rules in
    (rw c.columns.ensures.in_use at c.min-count.ensures, long, c.requires.entries)

pub returns-in-Some-clause-right : goal.returns-in-Some-clause-right
returns-in-Some-clause-right c =
    let d = (goal.at.returns-in-Some-clause-right c).After-find_axis_entries in
    rw c.enclosure_along.ensures (right_of c.args.is_centred (asked_of c.args.self.now c.args.question.now) c.args.columns.now c.min-count.result (first d) c.args.number c.args.axis c.in-Some.along.now c.requires.axis c.in-Some.ensures.found)

pub returns-in-Some-clause-made : goal.returns-in-Some-clause-made
returns-in-Some-clause-made c = λ kept has.
    let d = (goal.at.returns-in-Some-clause-made c).After-find_axis_entries in
    rw c.enclosure_along.ensures (made_of c.args.is_centred (asked_of c.args.self.now c.args.question.now) c.args.columns.now c.min-count.result (first d) c.args.number c.args.axis c.in-Some.along.now has c.in-Some.ensures.found)

pub returns-in-None-clause-made : goal.returns-in-None-clause-made
returns-in-None-clause-made c = λ kept has.
    let d = (goal.at.returns-in-None-clause-made c).After-find_axis_entries in
    c.in-None.ensures.made (any_entered c.args.is_centred (asked_of c.args.self.now c.args.question.now) c.args.columns.now c.min-count.result (first d) c.args.number kept)
