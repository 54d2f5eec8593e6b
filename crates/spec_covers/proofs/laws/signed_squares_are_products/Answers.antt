use Rattle.spec_covers.proofs.Signs.{SquaresTo-up, SquaresTo-down, IsNotNegative-first, IsNotPositive-first}
use Rattle.spec_covers.proofs.laws.signed_squares_are_products.Goals as goal

pub returns : goal.returns
returns c = record {
  not_negative = SquaresTo-up;
  not_positive = SquaresTo-down;
  first_above = IsNotNegative-first;
  first_below = IsNotPositive-first;
}
