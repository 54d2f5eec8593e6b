use Rattle.cheby_laws.proofs.Filling.{IsFilled}
use Rattle.cheby_laws.proofs.rows.fill_row.Given as goal

abbrev pub invariant-loop-k : goal.invariant-loop-k
invariant-loop-k g l = IsFilled (g.P.Recurrence.entries l.x) l.k l.n l.before l.last l.row l.fn.row
