use Rattle.std.proofs.Common.{refl}
use Rattle.span_ledger.proofs.Indexing.{begins}
use Rattle.span_ledger.proofs.register.Register.new.Goals as goal

pub invariant_of-result : goal.invariant_of-result
invariant_of-result c = begins _ _ _ c.new.ensures.items c.new-2.ensures.empty refl
