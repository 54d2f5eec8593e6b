use Rattle.std.proofs.Common.{ℕ, ap, sym, refl, ◌∙◌, subst}
use Rattle.spec_pool.specs.declared.ledger.LedgerTerms.{LedgerTerms}
use Rattle.span_ledger.specs.Seats.{terms}
use Rattle.steal_pool.proofs.Returning.{count_named, ended_full, ended_ok, leaves_ok, not_too_many, when_ended, when_full}
use Rattle.steal_pool.specs.Histories.{HasFilled, HasFinished, HaveComeTo}
use Rattle.steal_pool.proofs.Outcomes.{if_ok, if_too_many}
use Rattle.steal_pool.proofs.Within.{named_sound, named_valid}
use Rattle.steal_pool.proofs.running.run_by_naming.Goals as goal

pub book_or_error-requires-clause-sound : goal.book_or_error-requires-clause-sound
book_or_error-requires-clause-sound g c = named_sound g.N.Naming.rules (g.J.Judge.rules c.args.judge.now) c.args.root c.requires.rules.0 c.requires.rules.1 c.rules_are_sound.ensures

pub returns-in_default : goal.returns-in_default
returns-in_default g c = record {
  root = tt;
  leaves = tt;
  few = tt;
  too_many = not_too_many _ _ refl;
  finished = tt;
  filled = not_too_many _ _ refl;
}

pub returns-in_default-make_and_work : goal.returns-in_default-make_and_work
returns-in_default-make_and_work g c = record {
  root = tt;
  leaves = tt;
  few = tt;
  too_many = not_too_many _ _ refl;
  finished = tt;
  filled = not_too_many _ _ refl;
}

pub book_or_error-requires-clause-ok : goal.book_or_error-requires-clause-ok
book_or_error-requires-clause-ok g c =
    ended_ok g.N.Naming.rules c.args.root c.in-Ok.ledger c.in-Ok-make_and_work.seats.items c.in-Ok-make_and_work.ensures.seats
    (c.in-Ok-make_and_work.ensures.count ∙ c.in-Ok.ensures.count ∙ sym (ap (λ (t : LedgerTerms). t.seats) c.in-Ok.ensures.terms))
    c.finish-ended.result c.finish-ended.ensures.back (c.finish-ended.ensures.leaves c.args.root c.in-Ok-make_and_work.ensures.account)

pub book_or_error-requires-clause-full : goal.book_or_error-requires-clause-full
book_or_error-requires-clause-full g c =
    ended_full g.N.Naming.rules c.args.root c.in-Ok.ledger c.in-Ok-make_and_work.seats.items c.in-Ok-make_and_work.ensures.seats
    (c.in-Ok-make_and_work.ensures.count ∙ c.in-Ok.ensures.count ∙ sym (ap (λ (t : LedgerTerms). t.seats) c.in-Ok.ensures.terms))
    c.finish-ended.result c.finish-ended.ensures.too_many c.finish-ended.ensures.refused (c.finish-ended.ensures.left_over c.args.root c.in-Ok-make_and_work.ensures.account)

pub returns-clause-leaves : goal.returns-clause-leaves
returns-clause-leaves g c = leaves_ok g.N.Naming.rules (g.J.Judge.rules c.args.judge.now) c.args.root c.requires.rules.0 c.book_or_error.result c.book_or_error.ensures.leaves

pub returns-clause-too_many : goal.returns-clause-too_many
returns-clause-too_many g c = λ e.
    count_named g.N.Naming.rules (g.J.Judge.rules c.args.judge.now) c.args.root (terms c.in-Ok.ledger) c.args.limit c.requires.rules.0 (ap (λ (t : LedgerTerms). t.limit) c.in-Ok.ensures.terms) (c.book_or_error.ensures.too_many e)

pub returns-clause-finished : goal.returns-clause-finished
returns-clause-finished g c =
    let t = g.N.Naming.rules in
    let sound = named_sound t (g.J.Judge.rules c.args.judge.now) c.args.root c.requires.rules.0 c.requires.rules.1 c.rules_are_sound.ensures in
    let valid = named_valid t (g.J.Judge.rules c.args.judge.now) c.args.root c.requires.rules.0 c.requires.rules.1 in
    let made = c.in-Ok-make_and_work.ensures in
    when_ended (HasFinished t c.args.root c.args.workers c.args.limit) c.book_or_error.result c.finish-ended.result c.book_or_error.ensures.ended
    (if_ok c.finish-ended.result _ (λ v. HasFinished t c.args.root c.args.workers c.args.limit) (c.finish-ended.ensures.rounds c.args.root sound valid made.account made.counted) (λ v e. (
      record { ledger = c.in-Ok.ledger; terms_are = c.in-Ok.ensures.terms; worked = c.in-Ok-make_and_work.seats.items; ended = e.0; come = subst (λ (n : ℕ). HaveComeTo t c.in-Ok.ledger c.args.root n c.in-Ok-make_and_work.seats.items) c.in-Ok.ensures.count made.come; ends = e.1 },
      e.2,
      e.3,
    )))

pub returns-clause-filled : goal.returns-clause-filled
returns-clause-filled g c = λ full.
    let t = g.N.Naming.rules in
    let made = c.in-Ok-make_and_work.ensures in
    when_full (HasFilled t c.args.root c.args.workers c.args.limit) c.finish-ended.result (c.book_or_error.ensures.full full)
    (if_too_many c.finish-ended.result _ (λ es leaf. HasFilled t c.args.root c.args.workers c.args.limit) c.finish-ended.ensures.worst (λ es leaf e. (
      record { ledger = c.in-Ok.ledger; terms_are = c.in-Ok.ensures.terms; worked = c.in-Ok-make_and_work.seats.items; ended = e.0; come = subst (λ (n : ℕ). HaveComeTo t c.in-Ok.ledger c.args.root n c.in-Ok-make_and_work.seats.items) c.in-Ok.ensures.count made.come; ends = e.1 },
      e.2,
      (leaf, e.3),
    )))
