use Rattle.gf_find.proofs.Causes.{not_opened}
use Rattle.gf_find.proofs.Accepted.{has_block, held_as, in_seconds, is_checked}
use Rattle.gf_find.proofs.Times.{end_counted, start_counted}
use Rattle.gf_find.proofs.Verifying.{files_refused, files_verified}
use Rattle.gf_find.proofs.verify.verify_over_files.Goals as goal

pub in_ticks-counted-requires-clause-seconds : goal.in_ticks-counted-requires-clause-seconds
in_ticks-counted-requires-clause-seconds g c = in_seconds _ _ _ c.in_ok-ephemeris.ensures.accepted

pub verify_over_ephemeris-requires-clause-block : goal.verify_over_ephemeris-requires-clause-block
verify_over_ephemeris-requires-clause-block g c = rw c.in_ticks-counted.ensures (has_block _ _ _ c.in_ok-ephemeris.ensures.accepted)

pub verify_over_ephemeris-requires-clause-start : goal.verify_over_ephemeris-requires-clause-start
verify_over_ephemeris-requires-clause-start g c =
    rw c.in_ticks-counted.ensures (start_counted c.args.find.now.tick _ (in_seconds _ _ _ c.in_ok-ephemeris.ensures.accepted))

pub verify_over_ephemeris-requires-clause-end : goal.verify_over_ephemeris-requires-clause-end
verify_over_ephemeris-requires-clause-end g c =
    let held = c.in_ok-ephemeris.ensures.accepted in
    rw c.in_ticks-counted.ensures (end_counted c.args.find.now.tick _ (is_checked _ _ _ held) (in_seconds _ _ _ held))

pub returns-clause-verified : goal.returns-clause-verified
returns-clause-verified g c =
    files_verified (g.S.Shelf.files c.args.shelf.now) (g.S.Shelf.files c.ephemeris_of_files.new.shelf) c.args.find.now c.args.cert.now 0 0 0 c.in_ok-ephemeris.ephemeris c.in_ticks-counted.result
    (held_as _ _ _ _ c.as_slice.ensures c.in_ok-ephemeris.ensures.accepted) c.in_ticks-counted.ensures c.ephemeris_of_files.ensures.files c.verify_over_ephemeris.result c.verify_over_ephemeris.ensures.verified

pub returns-clause-stopped : goal.returns-clause-stopped
returns-clause-stopped g c =
    files_refused (g.S.Shelf.files c.args.shelf.now) (g.S.Shelf.files c.ephemeris_of_files.new.shelf) c.args.find.now c.args.cert.now (g.S.Shelf.faults c.args.shelf.now) (g.S.Shelf.faults c.ephemeris_of_files.new.shelf) (g.S.Shelf.faults c.verify_over_ephemeris.new.shelf) c.in_ok-ephemeris.ephemeris c.in_ticks-counted.result
    (held_as _ _ _ _ c.as_slice.ensures c.in_ok-ephemeris.ensures.accepted) c.in_ticks-counted.ensures c.ephemeris_of_files.ensures.files c.ephemeris_of_files.ensures.later c.verify_over_ephemeris.result c.verify_over_ephemeris.ensures.stopped

pub returns-clause-unopened : goal.returns-clause-unopened
returns-clause-unopened g c = λ none. absurd (not_opened _ _ _ (held_as _ _ _ _ c.as_slice.ensures c.in_ok-ephemeris.ensures.accepted) none)
