use Rattle.std.proofs.lemmas.Bool.{false≢true}
use Rattle.gf_edges.proofs.Outcomes.{of_any_error}
use Rattle.gf_edges.proofs.memory_shelf.MemoryShelfShelf.open.Goals as goal

pub returns-in_err-count_call-clause-closed : goal.returns-in_err-count_call-clause-closed
returns-in_err-count_call-clause-closed c = of_any_error _ _ false≢true

pub returns-in-None-clause-closed : goal.returns-in-None-clause-closed
returns-in-None-clause-closed c = false≢true
