use Rattle.spec_covers.proofs.Rows.{Covers-t_first, Covers-t_second, Covers-t_next}
use Rattle.spec_covers.proofs.laws.t_rows_are_covered.Goals as goal

pub returns : goal.returns
returns c = record {
  first = λ p q x is. Covers-t_first p q is x;
  second = λ p q x m is covers. Covers-t_second p q is x m covers;
  next = λ m a w b k d multiplies subtracts upto p q x j is arguments covers last before.
      Covers-t_next p q is d m a w b k multiplies subtracts x arguments covers j upto last before;
}
