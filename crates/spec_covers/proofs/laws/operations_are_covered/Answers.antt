use Rattle.spec_covers.proofs.Rounded.{Covers-sum, Covers-difference, Covers-product, Covers-signed_square}
use Rattle.spec_covers.proofs.laws.operations_are_covered.Goals as goal

pub returns : goal.returns
returns c = record {
  sum = λ m n k d adds enough p q x y is first second. Covers-sum d p q is m n x y first second k adds enough;
  difference = λ m n k d subtracts enough p q x y is first second. Covers-difference d p q is m n x y first second k subtracts enough;
  product = λ m n k d multiplies enough p q x y is first second. Covers-product d p q is m n x y first second k multiplies enough;
  signed_square = λ m k d squares enough p q x is covers. Covers-signed_square d p q is m k x covers squares enough;
}
