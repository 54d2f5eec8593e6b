use Rattle.spec_covers.proofs.Values.{Covers-position, Covers-velocity}
use Rattle.spec_covers.proofs.laws.series_are_covered.Goals as goal

pub returns : goal.returns
returns c = record {
  position = λ m d enough p q s t is covers. Covers-position d p q is s t m enough covers;
  velocity = λ m k s d series scales upto p q t is covers. Covers-velocity d p q is s t m k series scales upto covers;
}
