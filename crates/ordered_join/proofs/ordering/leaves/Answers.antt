use Rattle.std.proofs.Common.{List, ◌∙◌, ap, sym, subst, rules}
use Rattle.std.proofs.lemmas.List.Sorted.{answers_always}
use Rattle.spec_trees.specs.declared.tree.Leaf.{Leaf}
use Rattle.spec_trees.specs.Order.{booked_leaves, in_order}
use Rattle.spec_trees.specs.Tree.{Covers}
use Rattle.spec_trees.proofs.Ordering.{sorted_is}
use Rattle.ordered_join.proofs.ordering.leaves.Goals as goal

pub returns-clause-leaves : goal.returns-clause-leaves
returns-clause-leaves c =
    sorted_is _ _ (c.in_ok-sort_by_key.ensures.sorted (λ (l : Leaf). l.node.a) (answers_always _ _ _ (λ f a r g h. search rules)))
    (c.sort_by_key.ensures.stable (λ (l : Leaf). l.node.a) (answers_always _ _ _ (λ f a r g h. search rules)))
    ∙ ap in_order (c.in_ok-leaves.ensures ∙ ap booked_leaves c.deref.ensures.value)

pub returns-clause-cover : goal.returns-clause-cover
returns-clause-cover c =
    subst (λ (ls : List Leaf). Covers c.args.book.now.root.a ls c.args.book.now.root.b) (sym (returns-clause-leaves c)) c.requires.cover
