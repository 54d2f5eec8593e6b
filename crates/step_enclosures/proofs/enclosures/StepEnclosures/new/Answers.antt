use Rattle.std.proofs.Common.{arith}
use Rattle.step_enclosures.proofs.enclosures.StepEnclosures.new.Goals as goal

pub invariant_of-result : goal.invariant_of-result
invariant_of-result c = (c.requires.sight, omega arith, omega arith, λ place below d. absurd (omega (arith, below)))
