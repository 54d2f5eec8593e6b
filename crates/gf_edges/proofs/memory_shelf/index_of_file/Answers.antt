use Rattle.std.proofs.Common.{sym, ◌∙◌, rules}
use Rattle.gf_edges.proofs.EntryLemmas.{this_entry}
use Rattle.gf_edges.proofs.memory_shelf.index_of_file.Goals as goal

pub returns-then-eq-clause-there : goal.returns-then-eq-clause-there
returns-then-eq-clause-there c =
    sym c.loop-i.invariant
    ∙ this_entry _ _ _ c.index-files-i.result c.loop-i-test.true c.index-files-i.is (search rules)
