-- No cause has the status of a text.
use Rattle.std.proofs.Common.{◌≡◌, arith}
use Rattle.spec_outcomes.specs.declared.refusal.Refusal.{Refusal}
use Rattle.spec_outcomes.specs.declared.refusal.Refusal.TheVariants as R
use Rattle.spec_outcomes.specs.declared.statuses.TheConstants.{NOT_WRITTEN, REPORTED}
use Rattle.spec_outcomes.specs.Refusals.{status_of}

differ_from_texts : (r : Refusal) → (status_of r ≡ REPORTED → ⊥) × (status_of r ≡ NOT_WRITTEN → ⊥)
differ_from_texts (R.Words number option) = (λ is. absurd (omega (arith, is)), λ is. absurd (omega (arith, is)))
differ_from_texts (R.File name fault) = (λ is. absurd (omega (arith, is)), λ is. absurd (omega (arith, is)))
differ_from_texts (R.NotRead name) = (λ is. absurd (omega (arith, is)), λ is. absurd (omega (arith, is)))
differ_from_texts (R.Outside span whole) = (λ is. absurd (omega (arith, is)), λ is. absurd (omega (arith, is)))
differ_from_texts (R.Event fault) = (λ is. absurd (omega (arith, is)), λ is. absurd (omega (arith, is)))
differ_from_texts (R.TooManyLeaves most) = (λ is. absurd (omega (arith, is)), λ is. absurd (omega (arith, is)))
differ_from_texts (R.Certificate line number) = (λ is. absurd (omega (arith, is)), λ is. absurd (omega (arith, is)))
differ_from_texts R.Memory = (λ is. absurd (omega (arith, is)), λ is. absurd (omega (arith, is)))

pub not_reported : (r : Refusal) → status_of r ≡ REPORTED → ⊥
not_reported r = (differ_from_texts r).0

pub not_unwritten : (r : Refusal) → status_of r ≡ NOT_WRITTEN → ⊥
not_unwritten r = (differ_from_texts r).1
