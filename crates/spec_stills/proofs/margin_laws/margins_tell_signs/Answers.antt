use Rattle.std.proofs.Common.{arith}
use Rattle.spec_numbers.proofs.Order.{lin}
use Rattle.spec_stills.proofs.StillMargins.{no_below, yes_above}
use Rattle.spec_stills.proofs.margin_laws.margins_tell_signs.Goals as goal

pub returns : goal.returns
returns c = record {
  above = λ s a b g t positive is_fraction above after upto. yes_above s a b g positive is_fraction above t after upto;
  below = λ s a b g t is fits positive is_fraction below after upto.
      no_below s a b g a b is fits (omega (arith, lin)) (omega (arith, lin)) positive is_fraction below t after upto;
}
