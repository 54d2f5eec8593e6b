use Rattle.std.proofs.Common.{arith}
use Rattle.granule_values.proofs.made_rows.MadeRows.none.Goals as goal

pub invariant_of-result : goal.invariant_of-result
invariant_of-result c = record {
  made = record {
    plain = record { unit = c.none.ensures; values = λ k below. absurd (omega (arith, below)) };
    steps = λ k below. absurd (omega (arith, below));
  };
}
