use Rattle.std.proofs.Common.{w64}
use Rattle.std.proofs.lemmas.Int.{to_z-of_z}
use Rattle.still_spans.proofs.FollowingSpans.{found_as, passed}
use Rattle.still_spans.proofs.halves.Walk.add_spans_of_granule.Goals as goal

pub returns-then-a-b : goal.returns-then-a-b
returns-then-a-b c = λ from found. passed c.args.search.now from c.args.self.now.found.items c.args.a c.args.b found c.requires.ordered

pub returns-in-Some : goal.returns-in-Some
returns-in-Some c = λ from found.
    found_as c.args.search.now from c.args.self.now.found.items c.add_span.new.self.found.items c.add_span.result _ c.args.a _ c.args.b
    (to_z-of_z w64 c.args.a c.ranges.a) (to_z-of_z w64 c.args.b c.ranges.b) (c.add_span.ensures from) found

pub returns-in-None : goal.returns-in-None
returns-in-None c = λ from found.
    found_as c.args.search.now from c.args.self.now.found.items c.add_spans_by_model.new.self.found.items c.add_spans_by_model.result _ c.args.a _ c.args.b
    (to_z-of_z w64 c.args.a c.ranges.a) (to_z-of_z w64 c.args.b c.ranges.b) (c.add_spans_by_model.ensures from) found
