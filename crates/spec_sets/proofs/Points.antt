-- The sign of a term at a single time tells whether its exact value is at least 0.
use Rattle.std.proofs.Common.{ℤ, arith}
use Rattle.std.proofs.lemmas.Int.{ints}
use Rattle.spec_intervals.specs.Fraction.{Fraction}
use Rattle.spec_intervals.specs.Enclosure.{Enclosure}
use Rattle.spec_expressions.specs.Term.{HasLeaves, Leaf, LeavesAreEnclosed, LeavesAreNumbers, Term, enclosure_of, exact_of}
use Rattle.spec_expressions.proofs.Induction.{AllFractions-of, IsEnclosure-of}
use Rattle.spec_events.specs.Functions.{IsNotNegative}
use Rattle.spec_events.specs.Soundness.{Tells}
use Rattle.spec_events.proofs.Evidence.{tells}
use Rattle.spec_sets.specs.Points.{point_of}

pub point_tells : (exact : Leaf → ℤ → Fraction) (answer : Leaf → ℤ → ℤ → Enclosure) (e : Term) → HasLeaves e → (t : ℤ) → LeavesAreNumbers exact t t
    → LeavesAreEnclosed exact t t (λ l. answer l t t) → Tells (point_of answer e t) (IsNotNegative (exact_of exact e) t)
point_tells exact answer e leaves t numbers holds =
    tells (enclosure_of (λ l. answer l t t) t t e).range (exact_of exact e t)
    (AllFractions-of exact t t numbers e leaves t (omega (arith, ints)) (omega (arith, ints)))
    ((IsEnclosure-of exact t t numbers (omega (arith, ints)) (λ l. answer l t t) holds e leaves).range t (omega (arith, ints)) (omega (arith, ints)))
