use Rattle.std.proofs.Common.{◌<◌, subst, sym, arith, w64, to_z, of_z, ℤ, pos, ◌+ℤ◌, ◌-ℤ◌}
use Rattle.std.proofs.lemmas.Int.{ints, fits_signed_from_abs, to_z-of_z}
use mir.Val.{SFits}
use Rattle.spec_ephemeris.specs.Series.{to_nat}
use Rattle.spec_searches.proofs.Parts.{first_near, last_near}
use Rattle.still_spans.specs.Found.{AreInOrder}
use Rattle.still_spans.proofs.FollowingSpans.{in_order, nearer, passed}
use Rattle.still_spans.proofs.walk.still_spans_between.Goals as goal
use Rattle.still_spans.proofs.walk.still_spans_between.Goals.{In_ok-add_spans_of_granule}

-- the time after the end of a granule
next_fits : (c : In_ok-add_spans_of_granule) → SFits w64 (to_z w64 (of_z w64 c.granule_end-end.result) +ℤ pos 1)
next_fits c =
    let s = c.args.search.now in
    let end = to_z-of_z w64 c.granule_end-end.result (record { sfits = c.granule_end-end.type_inv }) in
    let last = to_z-of_z w64 c.args.upto c.ranges.upto in
    let low = first_near s c.is_search.ensures.view in
    let high = last_near s c.is_search.ensures.view in
    let begins = c.loop-here.invariant.from in
    let from = c.granule_end-end.ensures.from in
    let upto = c.granule_end-end.ensures.upto in
    let to = c.requires.upto in
    fits_signed_from_abs w64 (to_z w64 (of_z w64 c.granule_end-end.result) +ℤ pos 1) (omega (arith, ints, end, last, low, high, begins, from, upto, to))

pub overflow_add-here : goal.overflow_add-here
overflow_add-here c = next_fits c

pub loop-here-smaller : goal.loop-here-smaller
loop-here-smaller c =
    let end = to_z w64 (of_z w64 c.granule_end-end.result) in
    let same = to_z-of_z w64 c.granule_end-end.result (record { sfits = c.granule_end-end.type_inv }) in
    let test = c.loop-here-test.true in
    let from = c.granule_end-end.ensures.from in
    subst (λ (t : ℤ). to_nat (to_z w64 (of_z w64 c.args.upto) -ℤ t) < to_nat (to_z w64 (of_z w64 c.args.upto) -ℤ to_z w64 c.loop-here.here-bits)) (sym (to_z-of_z w64 (end +ℤ pos 1) (next_fits c)))
    (nearer (to_z w64 c.loop-here.here-bits) end (to_z w64 (of_z w64 c.args.upto)) (omega (arith, ints, test)) (omega (arith, ints, same, from)))

pub loop-here-preserved : goal.loop-here-preserved
loop-here-preserved c =
    let s = c.args.search.now in
    let first = to_z w64 (of_z w64 c.args.from) in
    let end = to_z w64 (of_z w64 c.granule_end-end.result) in
    let same = to_z-of_z w64 c.granule_end-end.result (record { sfits = c.granule_end-end.type_inv }) in
    let begins = c.loop-here.invariant.from in
    let from = c.granule_end-end.ensures.from in
    rw (to_z-of_z w64 (end +ℤ pos 1) (next_fits c)) (record {
      found = passed s first c.add_spans_of_granule.new.self.found.items end (end +ℤ pos 1) (c.in_ok-add_spans_of_granule.ensures first c.loop-here.invariant.found) (omega (arith, ints));
      from = omega (arith, ints, begins, from, same);
    })

pub returns-clause-follow : goal.returns-clause-follow
returns-clause-follow c =
    subst (λ (t : ℤ). AreInOrder t c.loop-here.walk.found.items) (to_z-of_z w64 c.args.from c.ranges.from)
    (in_order _ c.loop-here.walk.found.items _ c.loop-here.invariant.found.follow)
