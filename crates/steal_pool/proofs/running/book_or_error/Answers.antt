use Rattle.std.proofs.Common.{ap, ◌∙◌, refl, Err}
use Rattle.span_ledger.specs.Seats.{terms}
use Rattle.steal_pool.specs.Runs.{AreAll, EnteredOnce, HaveEntered, IsOverfull}
use Rattle.steal_pool.proofs.Returning.{closed_in_order, closed_once, closed_too_many, ok_of, ok_with, full_of}
use Rattle.steal_pool.proofs.running.book_or_error.Goals as goal

pub returns-in-Ok-clause-leaves : goal.returns-in-Ok-clause-leaves
returns-in-Ok-clause-leaves g c =
    let r = ok_of (λ v. AreAll c.args.ledger v.items × HaveEntered g.N.Naming.rules c.args.root v.items) c.args.ended c.in-Ok.seats c.in-Ok.is c.requires.ok in
    closed_in_order c.args.ledger c.close_ledger-book.result.entries.items c.in-Ok.seats.items r.0 c.close_ledger-book.ensures.sound c.close_ledger-book.ensures.fit g.N.Naming.rules c.requires.sound c.args.root c.requires.valid r.1

pub returns-in-Ok-clause-once : goal.returns-in-Ok-clause-once
returns-in-Ok-clause-once g c =
    let r = ok_of (λ v. AreAll c.args.ledger v.items × HaveEntered g.N.Naming.rules c.args.root v.items) c.args.ended c.in-Ok.seats c.in-Ok.is c.requires.ok in
    ok_with (λ v. EnteredOnce v.items) c.args.ended c.in-Ok.seats c.in-Ok.is
    (closed_once c.args.ledger c.close_ledger-book.result.entries.items c.in-Ok.seats.items r.0 c.close_ledger-book.ensures.sound c.close_ledger-book.ensures.fit g.N.Naming.rules c.requires.sound c.args.root c.requires.valid r.1)

pub returns-in-Err-TooMany-clause-too_many : goal.returns-in-Err-TooMany-clause-too_many
returns-in-Err-TooMany-clause-too_many g c = λ e.
    let r = full_of (λ es leaf. AreAll c.args.ledger es × IsOverfull g.N.Naming.rules c.args.root (terms c.args.ledger).limit es leaf) c.args.ended c.in-Err-TooMany.seats c.in-Err-TooMany.field-0-1 (c.in-Err-TooMany.is ∙ ap Err c.in-Err-TooMany.field-0-is) c.requires.full in
    closed_too_many c.args.ledger c.close_ledger-book-in-Err-TooMany.result.entries.items c.in-Err-TooMany.seats.items r.0 c.close_ledger-book-in-Err-TooMany.ensures.sound c.close_ledger-book-in-Err-TooMany.ensures.fit g.N.Naming.rules c.args.root c.in-Err-TooMany.field-0-1 r.1

pub returns-in-Ok-clause-ended : goal.returns-in-Ok-clause-ended
returns-in-Ok-clause-ended g c = rw c.in-Ok.is refl

pub returns-in-Err-TooMany-clause-full : goal.returns-in-Err-TooMany-clause-full
returns-in-Err-TooMany-clause-full g c = λ e. rw (c.in-Err-TooMany.is ∙ ap Err c.in-Err-TooMany.field-0-is) tt
