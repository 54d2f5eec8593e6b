use Rattle.std.proofs.Common.{arith}
use Rattle.granule_values.proofs.granule_span.GranuleSpan.middle.Goals as goal

pub div_euclid-requires : goal.div_euclid-requires
div_euclid-requires c = record { nonzero = omega arith; no_overflow = λ e f. omega (arith, e) }
