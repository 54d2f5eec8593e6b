use Rattle.std.proofs.Common.{inr, refl}
use Rattle.spec_steps.proofs.Parts.{coordinate_seen, leaf_part}
use Rattle.spec_steps.proofs.laws.terms_of_formulas_may_be_listed.Goals as goal

pub returns : goal.returns
returns c = record {
  coordinates = coordinate_seen;
  leaves = leaf_part;
  formulas = λ s e is. inr (record { whole = e; formula = is; term = refl });
}
