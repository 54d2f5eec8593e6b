use Rattle.gf_search.proofs.Windows.{kept_still}
use Rattle.gf_search.proofs.by_crew.still_spans_over_node.Goals as goal

pub returns-in-Ok-clause-still : goal.returns-in-Ok-clause-still
returns-in-Ok-clause-still g c = kept_still c.args.search.now c.in-Ok.spans.items c.new.result c.new.ensures c.in-Ok.ensures.still
