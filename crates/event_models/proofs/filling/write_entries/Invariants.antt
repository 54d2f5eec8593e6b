use Rattle.std.proofs.Common.{◌≡◌, length}
use Rattle.event_models.specs.Rows.{AreEntriesBefore, AreRows}
use Rattle.event_models.proofs.filling.write_entries.Given as goal

abbrev pub invariant-loop-k : goal.invariant-loop-k
invariant-loop-k l = record {
  count : length l.rows ≡ 32;
  rows : AreRows l.k l.rows;
  entries : AreEntriesBefore l.kind l.line l.k l.rows;
}
