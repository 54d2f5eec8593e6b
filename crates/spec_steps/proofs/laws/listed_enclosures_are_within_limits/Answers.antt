use Rattle.spec_steps.proofs.Enclosed.{listed-good}
use Rattle.spec_steps.proofs.laws.listed_enclosures_are_within_limits.Goals as goal

pub returns : goal.returns
returns c = record {
  within = λ v t a b is fits. (listed-good v a b fits t is).0;
  encloses = λ v t a b is fits. (listed-good v a b fits t is).1;
}
