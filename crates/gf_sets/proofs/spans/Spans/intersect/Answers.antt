use Rattle.gf_sets.proofs.Meeting.{ends_first, ends_later, first_as_read, second_as_read, shared_after_all, shared_early, shared_late}
use Rattle.gf_sets.proofs.spans.Spans.intersect.Goals as goal

pub push_if_any-requires-clause-early : goal.push_if_any-requires-clause-early
push_if_any-requires-clause-early c = λ some.
    shared_early c.args.self.now c.args.other.now c.list-xs.result.now c.list-ys.result.now c.loop-i.i c.loop-i.j
    c.loop-i.shared c.loop-i-test.true c.if-j-ys.true c.loop-i.invariant c.max.result c.min.result (record { sfits = c.max.type_inv }) (record { sfits = c.min.type_inv })
    c.max.ensures.value c.min.ensures.value

pub push_if_any-requires-clause-late : goal.push_if_any-requires-clause-late
push_if_any-requires-clause-late c =
    shared_late c.args.self.now c.args.other.now c.list-xs.result.now c.list-ys.result.now c.loop-i.i c.loop-i.j
    c.loop-i.shared c.loop-i-test.true c.if-j-ys.true c.loop-i.invariant c.max.result c.min.result (record { sfits = c.max.type_inv }) (record { sfits = c.min.type_inv })
    c.max.ensures.value c.min.ensures.value

pub push_if_any-requires-clause-after : goal.push_if_any-requires-clause-after
push_if_any-requires-clause-after c =
    shared_after_all c.args.self.now c.args.other.now c.list-xs.result.now c.list-ys.result.now c.loop-i.i c.loop-i.j
    c.loop-i.shared c.loop-i-test.true c.if-j-ys.true c.loop-i.invariant c.max.result c.min.result (record { sfits = c.max.type_inv }) (record { sfits = c.min.type_inv })
    c.max.ensures.value c.min.ensures.value

pub loop-i-preserved-then-x-y : goal.loop-i-preserved-then-x-y
loop-i-preserved-then-x-y c =
    first_as_read c.args.self.now c.args.other.now c.list-xs.result.now c.list-ys.result.now c.loop-i.i c.loop-i.j
    c.loop-i.shared c.loop-i-test.true c.if-j-ys.true c.loop-i.invariant c.max.result c.min.result (record { sfits = c.max.type_inv }) (record { sfits = c.min.type_inv })
    c.max.ensures.value c.min.ensures.value c.push_if_any.new.self c.in_ok-push_if_any.ensures
    (ends_first c.args.self.now c.args.other.now c.list-xs.result.now c.list-ys.result.now c.loop-i.i c.loop-i.j
    c.loop-i.shared c.loop-i-test.true c.if-j-ys.true c.loop-i.invariant c.if-x-y.true)

pub loop-i-preserved : goal.loop-i-preserved
loop-i-preserved c =
    second_as_read c.args.self.now c.args.other.now c.list-xs.result.now c.list-ys.result.now c.loop-i.i c.loop-i.j
    c.loop-i.shared c.loop-i-test.true c.if-j-ys.true c.loop-i.invariant c.max.result c.min.result (record { sfits = c.max.type_inv }) (record { sfits = c.min.type_inv })
    c.max.ensures.value c.min.ensures.value c.push_if_any.new.self c.in_ok-push_if_any.ensures
    (ends_later c.args.self.now c.args.other.now c.list-xs.result.now c.list-ys.result.now c.loop-i.i c.loop-i.j
    c.loop-i.shared c.loop-i-test.true c.if-j-ys.true c.loop-i.invariant c.if-x-y.false)
