use Rattle.spec_bounds.proofs.Series.{Includes-value, Includes-step}
use Rattle.spec_bounds.proofs.laws.bounds_include_series.Goals as goal

pub returns : goal.returns
returns c = record {
  value = λ quantity s a b c d is span from ordered to. Includes-value s a b c d is span from ordered to quantity;
  step = λ quantity s a b c d is span from several to. Includes-step s a b c d is span from several to quantity;
}
