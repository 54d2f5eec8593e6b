use Rattle.std.proofs.Common.{◌≡◌, ◌≤◌, ℕ, sym, subst, ◌∙◌, arith, refl, zero, suc}
use Rattle.still_judge.specs.Stands.{IsCount}
use Rattle.still_judge.proofs.Served.{none_upto, this_fails, this_serves}
use Rattle.still_judge.proofs.still_list.StillList.serving_span_among.Goals as goal

none_is : (count : ℕ) → (1 ≤ count → ⊥) → count ≡ 0
none_is zero never = refl
none_is (suc count) never = absurd (never (omega arith))

pub returns-in_default-clause-span : goal.returns-in_default-clause-span
returns-in_default-clause-span c =
    let counted = subst (IsCount c.args.node c.args.self.now) (none_is c.args.count c.in_default.ensures) c.requires.counted in
    sym (none_upto c.args.search.now c.args.node c.args.self.now c.requires.inside counted.order counted.upto)

pub returns-then-span_serves_node-clause-span : goal.returns-then-span_serves_node-clause-span
returns-then-span_serves_node-clause-span c =
    this_serves c.args.search.now c.args.node c.args.self.now c.requires.inside c.requires.counted.order c.args.count c.in-Some.place
    c.in-Some.ensures.0 c.in-Some.ensures.1 c.requires.counted.within c.requires.counted.upto
    c.span_at-still.result c.span_at-still.ensures.span (sym c.span_serves_node.ensures ∙ c.if-span_serves_node.true)

pub returns-else-span_serves_node-clause-span : goal.returns-else-span_serves_node-clause-span
returns-else-span_serves_node-clause-span c =
    this_fails c.args.search.now c.args.node c.args.self.now c.requires.inside c.requires.counted.order c.args.count c.in-Some.place
    c.in-Some.ensures.0 c.in-Some.ensures.1 c.requires.counted.within c.requires.counted.upto
    c.span_at-still.result c.span_at-still.ensures.span (sym c.span_serves_node.ensures ∙ c.if-span_serves_node.false)
