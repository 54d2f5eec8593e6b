use Rattle.std.proofs.Common.{rules as facts, ◌≡◌, ◌<◌, ◌<ℤ◌, ◌∙◌, inr, refl, subst, Err, ℕ}
use Rattle.spec_trees.specs.Tree.{leaf_count, leaves}
use Rattle.spec_scalars.specs.Quads.{quad_scalar}
use Rattle.spec_scalars.specs.Searches.{rules, search_over}
use Rattle.spec_output.specs.declared.limits.TheConstants.{MAX_LEAVES}
use Rattle.spec_outcomes.specs.declared.refusal.Refusal.TheVariants.{TooManyLeaves}
use Rattle.spec_outcomes.specs.Scalars.{scalar_search}
use Rattle.spec_outcomes.proofs.Passings.{leaves_are, leaves_stop}
use Rattle.ordered_join.proofs.Entries.{no_more}
use Rattle.gf_search.proofs.scalar_search.search_scalar.Goals as goal

pub returns-in_ok-leaves-in-Ok-clause-found : goal.returns-in_ok-leaves-in-Ok-clause-found
returns-in_ok-leaves-in-Ok-clause-found g c =
    let ask = c.args.ask.now in
    let ordered : ask.from <ℤ ask.to = search facts in
    let judge = c.scalar_judge-judge.ensures in
    let is : search_over (quad_scalar c.scalar_judge-judge.result.scalar.law) c.scalar_judge-judge.result.scalar.first c.scalar_judge-judge.result.scalar.last c.scalar_judge-judge.result.plan ≡ scalar_search ask = λ i. search_over (quad_scalar (judge.law i)) (judge.first i) (judge.last i) (judge.plan i) in
    let same = c.in-Ok.ensures.leaves ∙ (λ i. leaves (rules (is i)) (c.scalar_root-root.ensures i)) in
    leaves_are ask c.requires ordered _ (c.in_ok-leaves-in-Ok.ensures.leaves ∙ same) (no_more _ _ MAX_LEAVES same c.in-Ok.ensures.few)

pub returns-in-Err-TooMany-clause-stopped : goal.returns-in-Err-TooMany-clause-stopped
returns-in-Err-TooMany-clause-stopped g c =
    let ask = c.args.ask.now in
    let ordered : ask.from <ℤ ask.to = search facts in
    let judge = c.scalar_judge-judge.ensures in
    let is : search_over (quad_scalar c.scalar_judge-judge.result.scalar.law) c.scalar_judge-judge.result.scalar.first c.scalar_judge-judge.result.scalar.last c.scalar_judge-judge.result.plan ≡ scalar_search ask = λ i. search_over (quad_scalar (judge.law i)) (judge.first i) (judge.last i) (judge.plan i) in
    let many = c.in-Err-TooMany.ensures.too_many (λ i. Err (c.in-Err-TooMany.field-0-is i)) in
    leaves_stop ask c.requires ordered (TooManyLeaves MAX_LEAVES)
    (inr (refl, subst (λ (n : ℕ). MAX_LEAVES < n) (λ i. leaf_count (rules (is i)) (c.scalar_root-root.ensures i)) many))
