use Rattle.std.proofs.Common.{◌≡◌, ◌&&◌, not, List, ℤ, pos, ◌-ℤ◌, ◌+ℤ◌, ◌≤ℤ◌, sym, subst, w64}
use Rattle.std.proofs.lemmas.Int.{to_z-of_z}
use Rattle.spec_sets.specs.Spans.{AreSpans, Span, has, is_between, latest}
use mir.Val.{SFits}
use Rattle.gf_sets.proofs.Complements.{AreInside, all_as_read, before_next, ends_in_time, left_out_as_read, nothing_as_read, span_fits}
use Rattle.gf_sets.proofs.Reading.{read_less, read_more}
use Rattle.gf_sets.proofs.spans.Spans.complement.Goals as goal

pub loop-first-init : goal.loop-first-init
loop-first-init c =
    nothing_as_read c.list-spans.result.now c.args.from c.args.to _ _ _ (to_z-of_z w64 c.args.from c.ranges.from)
    (to_z-of_z w64 c.args.to c.ranges.to) c.new-out.ensures c.requires.ordered
    (subst AreSpans (sym c.list-spans.ensures.same) c.list-spans.ensures.spans)
    (subst (λ (xs : List Span). AreInside xs c.args.from c.args.to) (sym c.list-spans.ensures.same) c.requires.inside)

pub overflow_sub-first : goal.overflow_sub-first
overflow_sub-first c =
    let fits = span_fits c.list-spans.result.now c.loop-first.first-index c.args.from c.args.to _ _ _ c.loop-first.out
    (to_z-of_z w64 c.args.from c.ranges.from) (to_z-of_z w64 c.args.to c.ranges.to) c.loop-first-test.true
    c.loop-first.invariant c.requires.early in
    subst (λ (z : ℤ). SFits w64 (z -ℤ pos 1)) (sym (to_z-of_z w64 _ fits.0)) fits.2

pub push_if_any-requires-clause-late : goal.push_if_any-requires-clause-late
push_if_any-requires-clause-late c =
    let from = to_z-of_z w64 c.args.from c.ranges.from in
    let to = to_z-of_z w64 c.args.to c.ranges.to in
    let fits = span_fits c.list-spans.result.now c.loop-first.first-index c.args.from c.args.to _ _ _ c.loop-first.out
    from to c.loop-first-test.true c.loop-first.invariant c.requires.early in
    subst (λ (z : ℤ). z ≤ℤ latest) (sym (read_less _ fits.0 fits.2))
    (ends_in_time c.list-spans.result.now c.loop-first.first-index c.args.from c.args.to _ _ _ c.loop-first.out
    from to c.loop-first-test.true c.loop-first.invariant)

pub push_if_any-requires-clause-after : goal.push_if_any-requires-clause-after
push_if_any-requires-clause-after c = λ some.
    before_next c.list-spans.result.now c.loop-first.first-index c.args.from c.args.to _ _ _ c.loop-first.out
    (to_z-of_z w64 c.args.from c.ranges.from) (to_z-of_z w64 c.args.to c.ranges.to) c.loop-first-test.true
    c.loop-first.invariant

pub overflow_add-next : goal.overflow_add-next
overflow_add-next c =
    let fits = span_fits c.list-spans.result.now c.loop-first.first-index c.args.from c.args.to _ _ _ c.loop-first.out
    (to_z-of_z w64 c.args.from c.ranges.from) (to_z-of_z w64 c.args.to c.ranges.to) c.loop-first-test.true
    c.loop-first.invariant c.requires.early in
    subst (λ (z : ℤ). SFits w64 (z +ℤ pos 1)) (sym (to_z-of_z w64 _ fits.1)) fits.3

pub loop-first-preserved : goal.loop-first-preserved
loop-first-preserved c =
    let from = to_z-of_z w64 c.args.from c.ranges.from in
    let to = to_z-of_z w64 c.args.to c.ranges.to in
    let fits = span_fits c.list-spans.result.now c.loop-first.first-index c.args.from c.args.to _ _ _ c.loop-first.out
    from to c.loop-first-test.true c.loop-first.invariant c.requires.early in
    left_out_as_read c.list-spans.result.now c.loop-first.first-index c.args.from c.args.to _ _ _ c.loop-first.out
    from to c.loop-first-test.true c.loop-first.invariant _ _ c.push_if_any.new.self
    (read_less _ fits.0 fits.2) (read_more _ fits.1 fits.3) c.in_ok-push_if_any.ensures
    (subst (λ (xs : List Span). AreInside xs c.args.from c.args.to) (sym c.list-spans.ensures.same) c.requires.inside)

pub returns : goal.returns
returns c =
    subst (λ (xs : List Span). (t : ℤ) → has c.push_if_any-2.new.self t ≡ (is_between c.args.from c.args.to t && not (has xs t)))
    c.list-spans.ensures.same
    (all_as_read c.list-spans.result.now c.loop-first.first-index c.args.from c.args.to _ _ _ c.loop-first.out c.push_if_any-2.new.self
    (to_z-of_z w64 c.args.from c.ranges.from) (to_z-of_z w64 c.args.to c.ranges.to) c.loop-first-test.false
    c.loop-first.invariant c.in_ok-push_if_any-2.ensures)
