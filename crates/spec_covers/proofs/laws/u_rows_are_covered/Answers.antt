use Rattle.spec_covers.proofs.Rows.{Covers-u_first, Covers-u_second, Covers-u_next}
use Rattle.spec_covers.proofs.laws.u_rows_are_covered.Goals as goal

pub returns : goal.returns
returns c = record {
  first = λ p q x is. Covers-u_first p q is x;
  second = λ m d upto p q x is covers. Covers-u_second p q is d x m upto covers;
  next = λ m a w b k d multiplies subtracts upto p q x j is arguments covers last before.
      Covers-u_next p q is d m a w b k multiplies subtracts x arguments covers j upto last before;
}
