use Rattle.spec_steps.proofs.Parts.{difference_parts, product_parts, scaled_part, square_part, sum_parts}
use Rattle.spec_steps.proofs.laws.parts_may_be_listed.Goals as goal

pub returns : goal.returns
returns c = record {
  scaled = scaled_part;
  sums = sum_parts;
  differences = difference_parts;
  products = product_parts;
  squares = square_part;
}
