use Rattle.gf_find.proofs.Accepted.{in_seconds, is_checked}
use Rattle.gf_find.proofs.Times.{end_is, start_is}
use Rattle.gf_find.proofs.check.summary_of_files.Goals as goal

pub summary_of_store-requires-clause-start : goal.summary_of_store-requires-clause-start
summary_of_store-requires-clause-start g c = start_is _ (in_seconds _ _ _ c.in_ok-store.ensures.accepted)

pub summary_of_store-requires-clause-end : goal.summary_of_store-requires-clause-end
summary_of_store-requires-clause-end g c =
    let held = c.in_ok-store.ensures.accepted in
    end_is _ (is_checked _ _ _ held) (in_seconds _ _ _ held)
