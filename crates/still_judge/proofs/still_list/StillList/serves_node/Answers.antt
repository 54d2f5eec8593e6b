use Rattle.std.proofs.Common.{◌∙◌, ap, sym}
use Rattle.std.specs.Prelude.{is_some}
use Rattle.still_judge.proofs.Served.{is_served_is}
use Rattle.still_judge.proofs.still_list.StillList.serves_node.Goals as goal

pub returns : goal.returns
returns c = c.is_some.ensures ∙ ap is_some c.serving_span_among.ensures.span ∙ sym (is_served_is c.args.search.now c.args.self.now c.args.node)
