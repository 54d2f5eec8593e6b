use Rattle.std.proofs.Common.{rules, arith, w64}
use Rattle.std.proofs.lemmas.Int.{ints, to_z-of_z}
use Rattle.still_spans.proofs.FollowingSpans.{found_as, passed}
use Rattle.still_spans.proofs.Halving.{first_half, last_half}
use Rattle.still_spans.proofs.Margins.{near}
use Rattle.still_spans.proofs.halves.Walk.+add_spans_within.Goals as goal

pub returns-then-self-eq0 : goal.returns-then-self-eq0
returns-then-self-eq0 t c = λ from found.
    let several = c.requires.known.within.several in
    passed c.args.search.now from c.args.self.now.found.items c.args.a c.args.b found (omega (arith, ints, several))

pub returns-then-depth-eq0 : goal.returns-then-depth-eq0
returns-then-depth-eq0 t c = λ from found.
    let several = c.requires.known.within.several in
    passed c.args.search.now from c.args.self.now.found.items c.args.a c.args.b found (omega (arith, ints, several))

pub returns-in_default : goal.returns-in_default
returns-in_default t c = λ from found.
    let several = c.requires.known.within.several in
    passed c.args.search.now from c.args.self.now.found.items c.args.a c.args.b found (omega (arith, ints, several))

pub middle_time-middle-requires : goal.middle_time-middle-requires
middle_time-middle-requires t c =
    let is = near c.args.search.now c.args.known.now c.requires.known.known.fits in
    let low = is.0 in
    let high = is.1 in
    let from = c.requires.known.within.from in
    let upto = c.requires.known.within.upto in
    let wide = rw (to_z-of_z w64 c.args.a c.ranges.a, to_z-of_z w64 c.args.b c.ranges.b) at (c.is_too_narrow_to_halve.ensures c.if-is_too_narrow_to_halve.false) in
    rw (to_z-of_z w64 c.args.a c.ranges.a, to_z-of_z w64 c.args.b c.ranges.b)
    (record { wide = wide; low = omega (arith, ints, low, from); high = omega (arith, ints, high, upto) })

pub add_spans_within-requires : goal.add_spans_within-requires
add_spans_within-requires t c =
    (search rules, first_half c.args.a c.middle_time-middle.result c.args.b (record { sfits = c.middle_time-middle.type_inv }) c.middle_time-middle.ensures.from c.middle_time-middle.ensures.upto _ _ _ c.in-Some.ensures c.bound_for_parts-over.ensures)

pub add_spans_within-requires-2 : goal.add_spans_within-requires-2
add_spans_within-requires-2 t c =
    (search rules, last_half c.args.a c.middle_time-middle.result c.args.b (record { sfits = c.middle_time-middle.type_inv }) c.middle_time-middle.ensures.from c.middle_time-middle.ensures.upto _ _ _ c.in-Some.ensures c.bound_for_parts-over.ensures)

pub returns : goal.returns
returns t c = λ from found.
    found_as c.args.search.now from c.args.self.now.found.items c.add_spans_within-2.new.self.found.items c.add_spans_within-2.result _ c.args.a _ c.args.b
    (to_z-of_z w64 c.args.a c.ranges.a) (to_z-of_z w64 c.args.b c.ranges.b) (λ before. c.add_spans_within-2.ensures from (c.in_ok-add_spans_within.ensures from before)) found
