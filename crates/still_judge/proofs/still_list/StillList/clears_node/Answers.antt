use Rattle.std.proofs.Common.{◌∙◌, sym, arith}
use Rattle.still_judge.proofs.Cleared.{cleared}
use Rattle.still_judge.proofs.still_list.StillList.clears_node.Goals as goal

pub returns : goal.returns
returns c = λ s still valid clears.
    let within = c.count_begun_by.ensures.within in
    let some = c.in-Some.ensures.0 in
    let before = c.in-Some.ensures.1 in
    cleared s c.args.self.now c.args.node c.in-Some.place c.span_at.result (omega (arith, within, some, before)) c.span_at.ensures.span still valid (sym c.span_clears_node.ensures ∙ clears)
