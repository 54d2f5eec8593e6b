use Rattle.spec_chebyshev.proofs.Sizes.{difference_t-sum, difference_u-sum}
use Rattle.spec_chebyshev.proofs.laws.divided_differences_are_sums_of_products.Goals as goal

pub returns : goal.returns
returns c = record { first_kind = difference_t-sum; second_kind = difference_u-sum }
