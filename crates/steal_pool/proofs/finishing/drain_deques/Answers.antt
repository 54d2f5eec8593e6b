use Rattle.std.proofs.Common.{◌≡◌, inl, inr, None, refl, arith, slice_index_or}
use Rattle.std.proofs.lemmas.Option.{slice_get-get_or}
use Rattle.steal_pool.specs.Seats.{IsLeft, Seat}
use Rattle.steal_pool.specs.Closing.{HasUsedUp}
use Rattle.steal_pool.proofs.Pooling.{idle_all}
use Rattle.steal_pool.proofs.Listing.{all_get, all_set}
use Rattle.steal_pool.proofs.Scanning.{before_all, before_none, before_set, change_one, refused, stops, went}
use Rattle.steal_pool.proofs.finishing.drain_deques.Goals as goal

abbrev IsFree : Seat → Type 0
IsFree s = s.refusal ≡ None

pub returns-then-not-have_no_stop : goal.returns-then-not-have_no_stop
returns-then-not-have_no_stop g c = record {
  changes = idle_all g.N.Naming.rules c.args.seats.now;
  left = c.requires.left;
  used = λ all. absurd (c.if-not-have_no_stop.ensures.some refl all);
  refusals = inr refl;
}

pub loop-i-init : goal.loop-i-init
loop-i-init g c = record {
  changes = idle_all g.N.Naming.rules c.args.seats.now;
  left = c.requires.left;
  free = c.if-not-have_no_stop.ensures.all refl;
  used = before_none HasUsedUp c.args.seats.now;
}

pub work-requires-clause-free : goal.work-requires-clause-free
work-requires-clause-free g c κs within = all_get IsFree c.loop-i.seats c.loop-i.i (slice_index_or c.loop-i.seats c.loop-i.i c.index-seats-i.result) c.loop-i.invariant.free (slice_get-get_or c.loop-i.seats c.loop-i.i c.index-seats-i.result (omega (arith, c.loop-i-test.true, c.loop-i.auto.seats)))

pub returns-then-is_err : goal.returns-then-is_err
returns-then-is_err g c =
    stops g.N.Naming.rules c.args.seats.now c.loop-i.seats c.loop-i.i (slice_index_or c.loop-i.seats c.loop-i.i c.index-seats-i.result) c.work.new.self (slice_get-get_or c.loop-i.seats c.loop-i.i c.index-seats-i.result (omega (arith, c.loop-i-test.true, c.loop-i.auto.seats)))
    c.work.ensures.same c.work.ensures.works c.work.ensures.left (refused c.work.result c.work.new.self c.is_err.result c.is_err.ensures.value c.if-is_err.true c.work.ensures.refusal)
    c.loop-i.invariant.changes c.loop-i.invariant.left (c.if-not-have_no_stop.ensures.all refl)

pub loop-i-preserved : goal.loop-i-preserved
loop-i-preserved g c = record {
  changes = change_one g.N.Naming.rules c.args.seats.now c.loop-i.seats c.loop-i.i (slice_index_or c.loop-i.seats c.loop-i.i c.index-seats-i.result) c.work.new.self (slice_get-get_or c.loop-i.seats c.loop-i.i c.index-seats-i.result (omega (arith, c.loop-i-test.true, c.loop-i.auto.seats))) c.work.ensures.same c.work.ensures.works c.loop-i.invariant.changes;
  left = all_set (IsLeft g.N.Naming.rules) c.loop-i.seats c.loop-i.i c.work.new.self c.work.ensures.left c.loop-i.invariant.left;
  free = all_set IsFree c.loop-i.seats c.loop-i.i c.work.new.self (went (IsFree c.work.new.self) c.work.result c.is_err.result c.is_err.ensures.value c.if-is_err.false c.work.ensures.free) c.loop-i.invariant.free;
  used = before_set HasUsedUp c.loop-i.seats c.loop-i.i (slice_index_or c.loop-i.seats c.loop-i.i c.index-seats-i.result) c.work.new.self (slice_get-get_or c.loop-i.seats c.loop-i.i c.index-seats-i.result (omega (arith, c.loop-i-test.true, c.loop-i.auto.seats))) (went (HasUsedUp c.work.new.self) c.work.result c.is_err.result c.is_err.ensures.value c.if-is_err.false c.work.ensures.used_up) c.loop-i.invariant.used;
}

pub returns : goal.returns
returns g c = record {
  changes = c.loop-i.invariant.changes;
  left = c.loop-i.invariant.left;
  used = λ _. before_all HasUsedUp c.loop-i.seats c.loop-i.i (omega (arith, c.loop-i-test.false, c.loop-i.auto.seats)) c.loop-i.invariant.used;
  refusals = inl (c.if-not-have_no_stop.ensures.all refl);
}
