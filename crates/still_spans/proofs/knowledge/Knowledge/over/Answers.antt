use Rattle.still_spans.proofs.Margins.{told_by}
use Rattle.still_spans.proofs.knowledge.Knowledge.over.Goals as goal

pub of_model-requires-clause-told : goal.of_model-requires-clause-told
of_model-requires-clause-told c =
    told_by c.args.search.now c.in-Some.made c.states-states.result.now _ _ _ _ c.states-states.ensures c.function_step-listed.ensures.made c.is_search.ensures c.in-Some.ensures
