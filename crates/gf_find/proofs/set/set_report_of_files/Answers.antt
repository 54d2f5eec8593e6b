use Rattle.gf_find.proofs.Accepted.{has_block, held_as, in_seconds, is_checked}
use Rattle.gf_find.proofs.Causes.{not_opened}
use Rattle.gf_find.proofs.Relating.{set_held, set_refused}
use Rattle.gf_find.proofs.Times.{end_counted, start_counted}
use Rattle.gf_find.proofs.set.set_report_of_files.Goals as goal

pub in_ticks-counted-requires-clause-seconds : goal.in_ticks-counted-requires-clause-seconds
in_ticks-counted-requires-clause-seconds g c = in_seconds _ _ _ c.in_ok-ephemeris.ensures.accepted

pub set_report_of_ephemeris-requires-clause-block : goal.set_report_of_ephemeris-requires-clause-block
set_report_of_ephemeris-requires-clause-block g c = rw c.in_ticks-counted.ensures (has_block _ _ _ c.in_ok-ephemeris.ensures.accepted)

pub set_report_of_ephemeris-requires-clause-start : goal.set_report_of_ephemeris-requires-clause-start
set_report_of_ephemeris-requires-clause-start g c =
    rw c.in_ticks-counted.ensures (start_counted c.args.find.now.tick _ (in_seconds _ _ _ c.in_ok-ephemeris.ensures.accepted))

pub set_report_of_ephemeris-requires-clause-end : goal.set_report_of_ephemeris-requires-clause-end
set_report_of_ephemeris-requires-clause-end g c =
    let held = c.in_ok-ephemeris.ensures.accepted in
    rw c.in_ticks-counted.ensures (end_counted c.args.find.now.tick _ (is_checked _ _ _ held) (in_seconds _ _ _ held))

pub returns-clause-report : goal.returns-clause-report
returns-clause-report g c =
    set_held (g.S.Shelf.files c.args.shelf.now) c.args.find.now c.args.ref2 c.args.relation c.in_ok-ephemeris.ephemeris c.in_ticks-counted.result
    (held_as _ _ _ _ c.as_slice.ensures c.in_ok-ephemeris.ensures.accepted) c.in_ticks-counted.ensures c.set_report_of_ephemeris.result c.set_report_of_ephemeris.ensures.report

pub returns-clause-stopped : goal.returns-clause-stopped
returns-clause-stopped g c =
    set_refused (g.S.Shelf.files c.args.shelf.now) c.args.find.now c.args.ref2 c.args.relation c.in_ok-ephemeris.ephemeris c.in_ticks-counted.result
    (held_as _ _ _ _ c.as_slice.ensures c.in_ok-ephemeris.ensures.accepted) c.in_ticks-counted.ensures (g.S.Shelf.faults c.args.shelf.now) (g.S.Shelf.faults c.ephemeris_of_files.new.shelf) c.set_report_of_ephemeris.result c.set_report_of_ephemeris.ensures.stopped

pub returns-clause-unopened : goal.returns-clause-unopened
returns-clause-unopened g c = λ none. absurd (not_opened _ _ _ (held_as _ _ _ _ c.as_slice.ensures c.in_ok-ephemeris.ensures.accepted) none)
