use Rattle.spec_bounds.proofs.Steadiness.{verdict_in_steady}
use Rattle.spec_bounds.proofs.laws.steady_spans_tell_verdicts.Goals as goal

pub returns : goal.returns
returns _ = λ s a b n is steady valid after upto first last. verdict_in_steady s a b n is steady valid after upto first last
