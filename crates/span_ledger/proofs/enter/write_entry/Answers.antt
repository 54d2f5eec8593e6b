use Rattle.std.proofs.Common.{List, Some, length, ◌∷◌, ◌++◌, [], ap, ◌∙◌, subst, arith}
use mathlib.Core.Option.{none}
use Rattle.atomic_table.specs.Table.{step}
use Rattle.spec_trees.specs.declared.book.Booked.{Booked}
use Rattle.spec_pool.specs.History.{Fresh}
use Rattle.span_ledger.specs.Rule.{the_part}
use Rattle.span_ledger.proofs.Closing.{one_taken, found_book, after_put, if_none}
use Rattle.span_ledger.proofs.Moves.{adds_from}
use Rattle.span_ledger.proofs.Seats.{single}
use Rattle.span_ledger.proofs.enter.write_entry.Goals as goal

pub exchange-requires : goal.exchange-requires
exchange-requires c = (c.requires.ours, (Some (the_part c.args.raw.now.me.0.parts).seen, one_taken _ _ c.requires.held.slots))

pub fetch_add-requires : goal.fetch_add-requires
fetch_add-requires c =
    let first = c.exchange.ensures in
    let second = c.exchange-2.ensures in
    let m = c.args.raw.now.me in
    let p = the_part m.0.parts in
    let e = c.args.entry in
    let book = found_book m.1 p.seen _ _ c.requires.held.slots first.2 c.in-Some.is in
    let full = if_none _ c.in_default-stands-2.is c.in-Ok.ensures.added ∙ ap (λ (l : List Booked). l ++ e ∷ []) book in
    let is = after_put m c.exchange.new.seat.me c.exchange-2.new.seat.me p.seen _ c.requires.held.slots first.3 second.3 ∙ (λ i. (m.0, (0, Some (full i)) ∷ [])) in
    let size = ap length book in (
      second.0 ∙ (first.0 ∙ c.requires.ours),
      omega (arith, c.args.ledger.now.words),
      adds_from _ (step 0 0 0 0 none) _ _ _ m.0 p e c.args.ledger.now.slots is c.requires.held.holds (single _ c.requires.held.one) c.requires.own.0 (subst (Fresh e.leaf) book (if_none _ c.in_default-stands-2.is c.in-Ok.ensures.fresh)) c.requires.inside.0 c.requires.inside.1
          (omega (arith, size, c.len-place.ensures, c.if-place-ledger.false, c.args.ledger.now.limit_is)) (omega (arith, size, c.len-place.ensures, c.if-place-ledger.false)),
    )
