use Rattle.cheby_laws.proofs.Filling.{IsFilled}
use Rattle.cheby_laws.proofs.rows.fill_row_and_changes.Given as goal

abbrev pub invariant-loop-k : goal.invariant-loop-k
invariant-loop-k g l = record {
  row : IsFilled (g.P.Recurrence.entries l.x) l.k l.n l.before l.last l.row l.fn.row;
  changes : IsFilled (g.D.Recurrence.entries l.x) l.k l.n l.change_before l.change_last l.changes l.fn.changes;
}
