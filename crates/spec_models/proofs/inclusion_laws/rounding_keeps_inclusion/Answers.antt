use Rattle.spec_models.proofs.Inclusions.{Includes-refl, Includes-outer, Includes-narrow, Includes-coarsened}
use Rattle.spec_models.proofs.inclusion_laws.rounding_keeps_inclusion.Goals as goal

pub returns : goal.returns
returns c = record { itself = Includes-refl; narrowed = Includes-outer; both_narrowed = Includes-narrow; coarsened = Includes-coarsened }
