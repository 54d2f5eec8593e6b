-- The sign of a term at a single time, by what is returned for its leaves over spans of times.
use Rattle.std.specs.Prelude.{ℤ}
use Rattle.spec_intervals.specs.declared.signs.Sign.{Sign}
use Rattle.spec_intervals.specs.Enclosure.{Enclosure}
use Rattle.spec_intervals.specs.Signs.{sign_of}
use Rattle.spec_expressions.specs.Term.{Leaf, Term, enclosure_of}

abbrev pub point_of : (Leaf → ℤ → ℤ → Enclosure) → Term → ℤ → Sign
point_of answer term t = sign_of (enclosure_of (λ leaf. answer leaf t t) t t term).range
