use Rattle.std.proofs.Common.{inr, refl}
use Rattle.spec_outcomes.specs.declared.refusal.Refusal.TheVariants.{Memory}
use Rattle.gf_find.proofs.top.write_refusal.Goals as goal

pub returns-in-Err : goal.returns-in-Err
returns-in-Err g c = record { written = (Memory, inr refl, c.write_out_of_memory.ensures.status, c.write_out_of_memory.ensures.line) }
