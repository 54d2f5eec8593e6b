use Rattle.spec_steps.proofs.Meanings.{term_at_time, term_bounded, term_enclosed}
use Rattle.spec_steps.proofs.laws.terms_mean_their_formulas.Goals as goal

pub returns : goal.returns
returns c = record {
  enclosures = λ v e a b. term_enclosed v a b e;
  bounds = λ v e a b. term_bounded v a b e;
  points = λ v e c t. term_at_time v c t e;
}
