use Rattle.spec_covers.proofs.Units.{Covers-constant, Covers-zero}
use Rattle.spec_covers.proofs.Near.{near_held}
use Rattle.spec_covers.proofs.laws.constants_cover_intervals.Goals as goal

pub returns : goal.returns
returns c = record {
  ends = λ p q a lo hi s e is first second. Covers-constant p q is a lo hi s e first second;
  zero = λ p q s t e is. Covers-zero p q is s t e;
  held = λ m p q x r is number covers holds. near_held m p q is x r number covers holds;
}
