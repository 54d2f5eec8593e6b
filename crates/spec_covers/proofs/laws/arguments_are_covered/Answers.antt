use Rattle.spec_covers.proofs.Argument.{IsArgument-place, Covers-arguments}
use Rattle.spec_covers.proofs.Values.{IsArguments-at}
use Rattle.spec_covers.proofs.laws.arguments_are_covered.Goals as goal

pub returns : goal.returns
returns c = record {
  place = IsArgument-place;
  covered = λ s a b t unit series several after before. Covers-arguments s a b t several after before unit series.long;
  arguments = λ s a b t series span after before. IsArguments-at s a b t series span after before;
}
