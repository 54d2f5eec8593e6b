use Rattle.std.proofs.Common.{arith, w64}
use Rattle.std.proofs.lemmas.Int.{ints, to_z-of_z}
use Rattle.still_spans.proofs.FollowingSpans.{found_as, passed}
use Rattle.still_spans.proofs.halves.Walk.add_spans_by_model.Goals as goal

pub add_spans_within-requires-clause-bounded : goal.add_spans_within-requires-clause-bounded
add_spans_within-requires-clause-bounded c =
    let over = c.new-over.ensures in
    let first = over.first in
    let last = over.last in
    record { bounded = over.bounded; within = record { from = omega (arith, ints, first); several = rw (to_z-of_z w64 c.args.a c.ranges.a, to_z-of_z w64 c.args.b c.ranges.b) c.requires.several; upto = omega (arith, ints, last) } }

pub add_spans_by_signs-requires-clause-bounded : goal.add_spans_by_signs-requires-clause-bounded
add_spans_by_signs-requires-clause-bounded c =
    let over = c.new-over.ensures in
    let first = over.first in
    let last = over.last in
    record { bounded = over.bounded; within = record { from = omega (arith, ints, first); several = rw (to_z-of_z w64 c.args.a c.ranges.a, to_z-of_z w64 c.args.b c.ranges.b) c.requires.several; upto = omega (arith, ints, last) } }

pub returns-in-Some-Values : goal.returns-in-Some-Values
returns-in-Some-Values c = λ from found.
    found_as c.args.search.now from c.args.self.now.found.items c.add_spans_within.new.self.found.items c.add_spans_within.result _ c.args.a _ c.args.b
    (to_z-of_z w64 c.args.a c.ranges.a) (to_z-of_z w64 c.args.b c.ranges.b) (c.add_spans_within.ensures from) found

pub returns-in-Some-Signs : goal.returns-in-Some-Signs
returns-in-Some-Signs c = λ from found.
    found_as c.args.search.now from c.args.self.now.found.items c.add_spans_by_signs.new.self.found.items c.add_spans_by_signs.result _ c.args.a _ c.args.b
    (to_z-of_z w64 c.args.a c.ranges.a) (to_z-of_z w64 c.args.b c.ranges.b) (c.add_spans_by_signs.ensures from) found

pub returns-in-None : goal.returns-in-None
returns-in-None c = λ from found. let several = c.requires.several in passed c.args.search.now from c.args.self.now.found.items c.args.a c.args.b found (omega (arith, ints, several))
