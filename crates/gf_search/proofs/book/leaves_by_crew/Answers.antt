use Rattle.std.proofs.Common.{◌≡◌, ◌≤◌, ◌∙◌, Err, inl, inr, refl}
use Rattle.std.specs.Prelude.{Vec}
use Rattle.std.specs.declared.alloc.Global.{Global}
use Rattle.spec_trees.specs.declared.tree.Leaf.{Leaf}
use Rattle.spec_trees.specs.Order.{ordered_leaves}
use Rattle.spec_trees.specs.Tree.{leaf_count, leaves}
use Rattle.spec_outcomes.specs.declared.refusal.Refusal.{Refusal}
use Rattle.spec_outcomes.specs.declared.refusal.Refusal.TheVariants.{Memory}
use Rattle.spec_outcomes.proofs.Results.{err_also, ok_also}
use Rattle.ordered_join.proofs.Entries.{no_more}
use Rattle.gf_search.specs.Wanted.{StopsAt}
use Rattle.gf_search.proofs.book.leaves_by_crew.Goals as goal

pub returns-in-Ok-clause-leaves : goal.returns-in-Ok-clause-leaves
returns-in-Ok-clause-leaves g c =
    ok_also {X = Vec Leaf Global} {E = Refusal} (λ found. found.items ≡ ordered_leaves c.in-Ok.book.entries.items)
    (λ found. found.items ≡ leaves (g.J.Judge.rules c.args.judge.now) c.args.root) c.ordered_leaves_of_book.result (λ found is. is ∙ c.in-Ok.ensures.leaves) c.ordered_leaves_of_book.ensures.leaves

pub returns-in-Ok-clause-few : goal.returns-in-Ok-clause-few
returns-in-Ok-clause-few g c =
    ok_also {X = Vec Leaf Global} {E = Refusal} (λ found. found.items ≡ ordered_leaves c.in-Ok.book.entries.items)
    (λ found. leaf_count (g.J.Judge.rules c.args.judge.now) c.args.root ≤ c.args.crew.now.max_leaves) c.ordered_leaves_of_book.result
    (λ found is. no_more _ _ _ c.in-Ok.ensures.leaves c.in-Ok.ensures.few) c.ordered_leaves_of_book.ensures.leaves

pub returns-in-Ok-clause-stopped : goal.returns-in-Ok-clause-stopped
returns-in-Ok-clause-stopped g c =
    err_also {X = Vec Leaf Global} {E = Refusal} (λ refusal. refusal ≡ Memory)
    (StopsAt c.args.crew.now.max_leaves (leaf_count (g.J.Judge.rules c.args.judge.now) c.args.root)) c.ordered_leaves_of_book.result
    (λ refusal is. inl is) c.ordered_leaves_of_book.ensures.memory

pub returns-in-Err-TooMany-clause-stopped : goal.returns-in-Err-TooMany-clause-stopped
returns-in-Err-TooMany-clause-stopped g c = inr (refl, c.in-Err-TooMany.ensures.too_many (λ i. Err (c.in-Err-TooMany.field-0-is i)))
