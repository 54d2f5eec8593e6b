use Rattle.std.proofs.Common.{rules, arith, w64}
use Rattle.std.proofs.lemmas.Int.{ints, to_z-of_z}
use Rattle.still_spans.proofs.FollowingSpans.{found_as, passed}
use Rattle.still_spans.proofs.Halving.{first_half_of_signs, last_half_of_signs}
use Rattle.still_spans.proofs.Margins.{near}
use Rattle.still_spans.proofs.halves.Walk.+add_spans_by_signs.Goals as goal

pub returns-then-self-eq0 : goal.returns-then-self-eq0
returns-then-self-eq0 t c = λ from found.
    let several = c.requires.known.within.several in
    passed c.args.search.now from c.args.self.now.found.items c.args.a c.args.b found (omega (arith, ints, several))

pub returns-then-depth-eq0 : goal.returns-then-depth-eq0
returns-then-depth-eq0 t c = λ from found.
    let several = c.requires.known.within.several in
    passed c.args.search.now from c.args.self.now.found.items c.args.a c.args.b found (omega (arith, ints, several))

pub returns-in-Some : goal.returns-in-Some
returns-in-Some t c = λ from found.
    found_as c.args.search.now from c.args.self.now.found.items c.add_span.new.self.found.items c.add_span.result _ c.args.a _ c.args.b
    (to_z-of_z w64 c.args.a c.ranges.a) (to_z-of_z w64 c.args.b c.ranges.b) (c.add_span.ensures from) found

pub middle_time-middle-requires : goal.middle_time-middle-requires
middle_time-middle-requires t c =
    let is = near c.args.search.now c.args.known.now c.requires.known.signs.fits in
    let low = is.0 in
    let high = is.1 in
    let from = c.requires.known.within.from in
    let upto = c.requires.known.within.upto in
    let wide = rw (to_z-of_z w64 c.args.a c.ranges.a, to_z-of_z w64 c.args.b c.ranges.b) at (c.is_too_narrow_to_halve.ensures c.if-is_too_narrow_to_halve.false) in
    rw (to_z-of_z w64 c.args.a c.ranges.a, to_z-of_z w64 c.args.b c.ranges.b)
    (record { wide = wide; low = omega (arith, ints, low, from); high = omega (arith, ints, high, upto) })

pub add_spans_by_signs-requires : goal.add_spans_by_signs-requires
add_spans_by_signs-requires t c =
    (search rules, first_half_of_signs c.args.a c.middle_time-middle.result c.args.b (record { sfits = c.middle_time-middle.type_inv }) c.middle_time-middle.ensures.from c.middle_time-middle.ensures.upto _ _ _ (rw (to_z-of_z w64 c.args.a c.ranges.a, to_z-of_z w64 c.args.b c.ranges.b) c.requires.known) c.bound_for_signs-over.ensures)

pub add_spans_by_signs-requires-2 : goal.add_spans_by_signs-requires-2
add_spans_by_signs-requires-2 t c =
    (search rules, last_half_of_signs c.args.a c.middle_time-middle.result c.args.b (record { sfits = c.middle_time-middle.type_inv }) c.middle_time-middle.ensures.from c.middle_time-middle.ensures.upto _ _ _ (rw (to_z-of_z w64 c.args.a c.ranges.a, to_z-of_z w64 c.args.b c.ranges.b) c.requires.known) c.bound_for_signs-over.ensures)

pub returns : goal.returns
returns t c = λ from found.
    found_as c.args.search.now from c.args.self.now.found.items c.add_spans_by_signs-2.new.self.found.items c.add_spans_by_signs-2.result _ c.args.a _ c.args.b
    (to_z-of_z w64 c.args.a c.ranges.a) (to_z-of_z w64 c.args.b c.ranges.b) (λ before. c.add_spans_by_signs-2.ensures from (c.in_ok-add_spans_by_signs.ensures from before)) found
