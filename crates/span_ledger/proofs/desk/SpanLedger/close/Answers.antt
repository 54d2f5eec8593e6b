use Rattle.std.proofs.Common.{◌≡◌, Some, ap, ◌∙◌, arith}
use Rattle.std.proofs.lemmas.List.Elements.{All-pop}
use Rattle.span_ledger.specs.declared.desk.LedgerSeat.{LedgerSeat}
use Rattle.span_ledger.proofs.Seats.{joins}
use Rattle.span_ledger.proofs.Closing.{nothing, one_more, known_more, known_joined, joined_length, none_known, found_whole, whole}
use Rattle.span_ledger.proofs.desk.SpanLedger.close.Goals as goal

pub loop-seat-init : goal.loop-seat-init
loop-seat-init c =
    let items = c.in-Some.ensures.items in
    let a = All-pop (λ (s : LedgerSeat). s.raw.table_id ≡ c.args.self.table.shared.table_id) _ _ (Some c.in-Some.last) items c.requires in
    record {
      table = a.1;
      idle = c.in-Some.last.idle;
      ours = a.0;
      count = omega (arith, c.in-Some.last.one, one_more _ _ _ items);
      kept = λ log f rest. known_more _ _ c.in-Some.last log items f rest;
    }

pub join_seat-requires : goal.join_seat-requires
join_seat-requires c =
    let s = c.in-Some-pop.seat in
    let i = c.loop-seat.invariant in
    let a = All-pop (λ (s : LedgerSeat). s.raw.table_id ≡ c.args.self.table.shared.table_id) _ _ (Some s) c.in-Some-pop.ensures.items i.ours in
    (i.table, a.1, nothing s.raw.me.1 s.empty, omega (arith, c.args.self.words), joins c.args.self.table.shared.key _ c.loop-seat.all.me.0 _ s.raw.me.0 i.idle s.idle)

pub loop-seat-preserved : goal.loop-seat-preserved
loop-seat-preserved c =
    let s = c.in-Some-pop.seat in
    let i = c.loop-seat.invariant in
    let j = c.join_seat.ensures in
    let items = c.in-Some-pop.ensures.items in
    let view = ap (λ (m : _). m.0) j.2 in
    let a = All-pop (λ (s : LedgerSeat). s.raw.table_id ≡ c.args.self.table.shared.table_id) _ _ (Some s) items i.ours in
    record {
      table = j.0 ∙ i.table;
      idle = ap (λ (m : _). m.0.holds) j.2 ∙ omega (arith, i.idle, s.idle);
      ours = a.0;
      count = omega (arith, i.count, s.one, one_more _ _ _ items, joined_length c.loop-seat.all.me.0 s.raw.me.0 _ view);
      kept = λ log f rest. let k = known_joined _ _ s c.loop-seat.all.me.0 _ log items view f rest in i.kept log k.0 k.1;
    }

pub unreachable-requires-in_default-take : goal.unreachable-requires-in_default-take
unreachable-requires-in_default-take c =
    let i = c.loop-seat.invariant in
    let x = found_whole c.args.self.table.shared.key _ c.loop-seat.all.me.0 _ _ _ i.idle (omega (arith, i.count, c.in_default-pop.ensures.cases.0, c.args.self.seats_are, c.if-len-self.false, c.len.ensures)) c.close_with-closed.ensures.values.2 c.take.ensures.value in
    absurd (c.in_default-take.not-Some x.0 x.1)

pub returns-clause-sound : goal.returns-clause-sound
returns-clause-sound c =
    let i = c.loop-seat.invariant in
    let x = found_whole c.args.self.table.shared.key _ c.loop-seat.all.me.0 _ _ _ i.idle (omega (arith, i.count, c.in_default-pop.ensures.cases.0, c.args.self.seats_are, c.if-len-self.false, c.len.ensures)) c.close_with-closed.ensures.values.2 c.take.ensures.value in
    let y = whole c.args.self.table.shared.key c.loop-seat.all.me.0 _ c.in-Some-take.register x c.in-Some-take.is in
    rw c.into_entries.ensures y.0

pub returns-clause-seats : goal.returns-clause-seats
returns-clause-seats c =
    let i = c.loop-seat.invariant in
    let x = found_whole c.args.self.table.shared.key _ c.loop-seat.all.me.0 _ _ _ i.idle (omega (arith, i.count, c.in_default-pop.ensures.cases.0, c.args.self.seats_are, c.if-len-self.false, c.len.ensures)) c.close_with-closed.ensures.values.2 c.take.ensures.value in
    let y = whole c.args.self.table.shared.key c.loop-seat.all.me.0 _ c.in-Some-take.register x c.in-Some-take.is in
    rw c.into_entries.ensures (i.kept c.in-Some-take.register y.1 (none_known _ _ (omega (arith, c.in_default-pop.ensures.cases.0))))
