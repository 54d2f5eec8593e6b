-- What the node in a hand weighs.
use Rattle.std.proofs.Common.{◌≡◌, ℕ, refl, Option, Some, None, option_to_list, arith}
use Rattle.spec_trees.specs.declared.tree.Node.{Node}
use Rattle.spec_pool.proofs.Weights.{weigh}

abbrev pub weigh_hand : (Node → ℕ) → Option Node → ℕ
weigh_hand h None = 0
weigh_hand h (Some n) = h n

pub hand_weigh : (h : Node → ℕ) (o : Option Node) → weigh h (option_to_list o) ≡ weigh_hand h o
hand_weigh h None = refl
hand_weigh h (Some n) = omega arith
