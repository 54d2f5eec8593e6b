use Rattle.std.proofs.Common.{◌≡◌, ◌∙◌, ◌≤◌, sym, subst, ℕ}
use Rattle.std.specs.Prelude.{Vec}
use Rattle.std.specs.declared.alloc.Global.{Global}
use Rattle.spec_trees.specs.declared.tree.Leaf.{Leaf}
use Rattle.spec_trees.specs.declared.tree.Node.{Node}
use Rattle.spec_trees.specs.Tree.{IsValid, leaf_count, leaves}
use Rattle.spec_scalars.specs.Quads.{quad_scalar}
use Rattle.spec_scalars.specs.Searches.{Search, rules, search_over}
use Rattle.spec_output.specs.declared.limits.TheConstants.{MAX_LEAVES}
use Rattle.spec_outcomes.specs.declared.refusal.Refusal.{Refusal}
use Rattle.spec_outcomes.specs.Scalars.{AreScalarLeaves, scalar_root, scalar_search}
use Rattle.spec_outcomes.proofs.Passings.{leaves_are, leaves_stop, root_valid}
use Rattle.spec_outcomes.proofs.Results.{err_also}
use Rattle.gf_search.specs.Wanted.{StopsAt}
use Rattle.gf_search.proofs.Outcomes.{both_ok}
use Rattle.gf_search.proofs.scalar_search.search_span_alone.Goals as goal

pub leaves_by_one-requires-clause-valid : goal.leaves_by_one-requires-clause-valid
leaves_by_one-requires-clause-valid c κs =
    let ask = c.args.ask.now in
    let judge = c.scalar_judge-judge.ensures in
    let made = c.scalar_judge-judge.result in
    let s = search_over (quad_scalar made.scalar.law) made.scalar.first made.scalar.last made.plan in
    let is : s ≡ scalar_search ask = λ i. search_over (quad_scalar (judge.law i)) (judge.first i) (judge.last i) (judge.plan i) in
    subst (λ (n : Node). IsValid (rules s) n) (sym c.scalar_root-root.ensures)
    (subst (λ (t : Search). IsValid (rules t) (scalar_root ask)) (sym is) (root_valid ask c.requires.limits c.requires.ordered))

pub returns-clause-found : goal.returns-clause-found
returns-clause-found c =
    let ask = c.args.ask.now in
    let judge = c.scalar_judge-judge.ensures in
    let made = c.scalar_judge-judge.result in
    let s = search_over (quad_scalar made.scalar.law) made.scalar.first made.scalar.last made.plan in
    let is : s ≡ scalar_search ask = λ i. search_over (quad_scalar (judge.law i)) (judge.first i) (judge.last i) (judge.plan i) in
    let n = c.scalar_root-root.result in
    both_ok (λ found. found.items ≡ leaves (rules s) n) (λ found. leaf_count (rules s) n ≤ MAX_LEAVES) (λ found. AreScalarLeaves ask found.items)
    (λ found all few. leaves_are ask c.requires.limits c.requires.ordered _ (all ∙ (λ i. leaves (rules (is i)) (c.scalar_root-root.ensures i)))
    (subst (λ (count : ℕ). count ≤ MAX_LEAVES) (λ i. leaf_count (rules (is i)) (c.scalar_root-root.ensures i)) few))
    c.leaves_by_one.result c.leaves_by_one.ensures.leaves c.leaves_by_one.ensures.few

pub returns-clause-stopped : goal.returns-clause-stopped
returns-clause-stopped c =
    let ask = c.args.ask.now in
    let judge = c.scalar_judge-judge.ensures in
    let made = c.scalar_judge-judge.result in
    let s = search_over (quad_scalar made.scalar.law) made.scalar.first made.scalar.last made.plan in
    let is : s ≡ scalar_search ask = λ i. search_over (quad_scalar (judge.law i)) (judge.first i) (judge.last i) (judge.plan i) in
    err_also {X = Vec Leaf Global} {E = Refusal} (StopsAt MAX_LEAVES (leaf_count (rules s) c.scalar_root-root.result)) _ c.leaves_by_one.result
    (λ refusal stops. leaves_stop ask c.requires.limits c.requires.ordered refusal
    (subst (λ (count : ℕ). StopsAt MAX_LEAVES count refusal) (λ i. leaf_count (rules (is i)) (c.scalar_root-root.ensures i)) stops))
    c.leaves_by_one.ensures.stopped
