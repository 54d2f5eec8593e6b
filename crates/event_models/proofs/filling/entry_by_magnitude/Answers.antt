use Rattle.std.proofs.Common.{arith}
use Rattle.event_models.proofs.filling.entry_by_magnitude.Goals as goal

pub returns-clause-entry : goal.returns-clause-entry
returns-clause-entry c = λ p q x argument arguments line double.
    let is = c.greatest_magnitude.ensures.equals in
    c.magnitude_row.ensures.sized c.args.kind p q x c.args.k (omega (arith, is)) argument arguments
