-- What a judge gives out as the parts of a node that is split: by sound rules they are valid and cut it.
use Rattle.std.proofs.Common.{◌≡◌, sym, subst}
use Rattle.spec_trees.specs.declared.tree.Node.{Node}
use Rattle.spec_trees.specs.declared.tree.Verdict.TheVariants as V
use Rattle.spec_trees.specs.Tree.{Cuts, IsSound, IsValid, Rules}

pub record AreParts (t : Rules) (n : Node) (both : Node × Node) : Type 0 where
  pub parts : both ≡ t.parts n
  pub cuts : Cuts n both.0 both.1
  pub left : IsValid t both.0
  pub right : IsValid t both.1

pub given_out : (t : Rules) (n : Node) (both : Node × Node) → IsSound t → IsValid t n → t.verdict n ≡ V.Split → both ≡ t.parts n → AreParts t n both
given_out t n both sound valid split same =
    let cut = sound.cut n valid split in
    record {
      parts = same;
      cuts = subst (λ (p : Node × Node). Cuts n p.0 p.1) (sym same) cut.cuts;
      left = subst (λ (p : Node × Node). IsValid t p.0) (sym same) cut.left;
      right = subst (λ (p : Node × Node). IsValid t p.1) (sym same) cut.right;
    }
