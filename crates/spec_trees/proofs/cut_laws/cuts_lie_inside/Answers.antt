use Rattle.spec_trees.proofs.Cutting.{cut_inside}
use Rattle.spec_trees.proofs.cut_laws.cuts_lie_inside.Goals as goal

pub returns : goal.returns
returns c = record {
  above = λ rule a b can. (cut_inside rule a b can).0;
  below = λ rule a b can. (cut_inside rule a b can).1;
}
