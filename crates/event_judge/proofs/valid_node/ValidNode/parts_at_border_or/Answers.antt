use Rattle.std.proofs.Common.{◌∙◌, sym, subst, w64, arith}
use Rattle.std.proofs.lemmas.Int.{to_z-of_z}
use Rattle.spec_bodies.specs.Views.{IsView}
use Rattle.event_judge.proofs.Near.{border_fits, border_low, deeper}
use Rattle.event_judge.proofs.valid_node.ValidNode.parts_at_border_or.Goals as goal

pub cut_time_at_border-requires : goal.cut_time_at_border-requires
cut_time_at_border-requires c =
    let s = c.args.self in
    let is : IsView s.search.now.view = subst IsView c.states.ensures c.columns-columns.ensures.view in
    let found = sym c.nearest_border.ensures ∙ c.in-Some.is in
    rw (to_z-of_z w64 c.in-Some.border (border_fits s.search.now is s.node s.valid c.in-Some.border found)) (border_low s.search.now is s.node s.valid c.in-Some.border found)

pub overflow_add-node : goal.overflow_add-node
overflow_add-node c =
    let s = c.args.self in
    let is : IsView s.search.now.view = subst IsView c.states.ensures c.columns-columns.ensures.view in
    let below = deeper s.search.now is s.node s.valid c.requires.may (sym c.nearest_border.ensures ∙ c.in-None.is) in
    let deepest = c.depth-deepest.ensures in
    omega (arith, below, deepest)
