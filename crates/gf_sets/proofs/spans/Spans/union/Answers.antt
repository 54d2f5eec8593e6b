use Rattle.std.proofs.lemmas.Result.{IfOk-weaker}
use Rattle.gf_sets.proofs.Complements.{all_inside, union_of}
use Rattle.gf_sets.proofs.spans.Spans.union.Goals as goal

pub complement-requires-clause-inside : goal.complement-requires-clause-inside
complement-requires-clause-inside c = all_inside c.args.self.now c.list-spans.ensures.spans

pub complement-requires-2-clause-inside : goal.complement-requires-2-clause-inside
complement-requires-2-clause-inside c = all_inside c.args.other.now c.list-others.ensures.spans

pub complement-requires-3-clause-inside : goal.complement-requires-3-clause-inside
complement-requires-3-clause-inside c = all_inside c.in_ok-neither.neither c.list-outside.ensures.spans

pub returns : goal.returns
returns c =
    IfOk-weaker c.complement-3.result _ _
    (λ out last. union_of c.args.self.now c.args.other.now c.in_ok-own.own c.in_ok-others.others c.in_ok-neither.neither out
    c.list-spans.ensures.spans c.list-others.ensures.spans c.in_ok-own.ensures c.in_ok-others.ensures c.in_ok-neither.ensures last)
    c.complement-3.ensures
