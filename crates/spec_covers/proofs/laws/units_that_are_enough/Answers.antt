use Rattle.spec_covers.proofs.Enough.{upto_units, enough_sum, enough_product, enough_alone, upto_scaled}
use Rattle.spec_covers.proofs.laws.units_that_are_enough.Goals as goal

pub returns : goal.returns
returns c = record {
  units = upto_units;
  sum = λ m n k d a b g t first second third h. enough_sum k m n d a b g t first second third h;
  product = λ m n k d g exponents h. enough_product k m n d g exponents h;
  alone = enough_alone;
  scaled = λ m k length d a b s t positive above first second h. upto_scaled k m length d a b s t positive above first second h;
}
