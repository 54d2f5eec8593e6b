use Rattle.spec_covers.proofs.Sums.{Covers-multiples, Covers-sums}
use Rattle.spec_covers.proofs.laws.sums_are_covered.Goals as goal

pub returns : goal.returns
returns c = record {
  multiple = λ m k j repeats p q unit row is covers. Covers-multiples p q is unit row j m k repeats covers;
  one_more = λ m n w rest k multiplies adds p q unit row j e cs is first second others.
      Covers-sums p q is unit row j e cs m n w rest k multiplies adds first second others;
}
