use Rattle.std.proofs.Common.{Option, ◌∙◌, subst, sym}
use Rattle.std.specs.Prelude.{IfSome}
use Rattle.spec_trees.specs.declared.tree.Verdict.{Verdict}
use Rattle.spec_trees.specs.Tree.{IsValid}
use Rattle.spec_searches.specs.Found.{rules}
use Rattle.spec_searches.specs.Search.{IsSearch, Search}
use Rattle.event_judge.specs.Plain.{IsByKnownEnds, IsPlainUnit}
use Rattle.event_judge.proofs.UnitNodes.{told_by_ends}
use Rattle.event_judge.proofs.memory.Memory.unit_verdict.Goals as goal

pub returns-in-Some : goal.returns-in-Some
returns-in-Some g c =
    let n = c.args.node.node in
    let s = g.N.Naming.search in
    let is = subst IsSearch c.requires.named c.is_search.ensures in
    let valid = subst (λ (s : Search). IsValid (rules s) n) c.requires.named c.args.node.valid in
    let plain = subst (λ (s : Search). IsPlainUnit s n) c.requires.named c.requires.unit in
    let by : IsByKnownEnds s n c.in-Some.verdict =
    subst (λ (found : Option Verdict). IfSome found (IsByKnownEnds s n)) c.in-Some.is c.verdict_by_known_ends.ensures in
    by.told ∙ sym (told_by_ends s n is valid plain by.first by.last)
