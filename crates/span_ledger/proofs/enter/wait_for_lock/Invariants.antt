use Rattle.std.proofs.Common.{◌≡◌}
use Rattle.span_ledger.proofs.enter.wait_for_lock.Given as goal

abbrev pub invariant-loop : goal.invariant-loop
invariant-loop g l = record {
  table : l.raw.table_id ≡ l.initial.raw.table_id;
  me : l.raw.me ≡ l.initial.raw.me;
}
