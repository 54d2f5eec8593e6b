use Rattle.spec_trees.proofs.Rearranged.{rearranged_in_order}
use Rattle.spec_trees.proofs.laws.a_rearranged_cover_is_put_in_order.Goals as goal

pub returns : goal.returns
returns c = λ a b ls ordered perm cover. rearranged_in_order a b ls ordered perm cover
