use Rattle.std.proofs.Common.{◌∙◌, ap, sym}
use Rattle.std.specs.Prelude.{is_some}
use Rattle.spec_stills.proofs.ServedTrees.{served_clear, served_other}
use Rattle.still_judge.proofs.Served.{is_served_is}
use Rattle.still_judge.proofs.still_list.StillList.served_verdict.Goals as goal

pub serving_span-requires : goal.serving_span-requires
serving_span-requires c = c.requires.valid.inside

pub returns-in-Some-clause-some : goal.returns-in-Some-clause-some
returns-in-Some-clause-some c =
    let s = c.args.search.now in
    let xs = c.args.self.now in
    let served = is_served_is s xs c.args.node ∙ ap is_some (sym c.serving_span.ensures.span ∙ c.in-Some.is) in
    sym (served_clear s xs c.args.node served)

pub returns-in-None-clause-none : goal.returns-in-None-clause-none
returns-in-None-clause-none c =
    let s = c.args.search.now in
    let xs = c.args.self.now in
    let served = is_served_is s xs c.args.node ∙ ap is_some (sym c.serving_span.ensures.span ∙ c.in-None.is) in
    served_other s xs c.args.node served
