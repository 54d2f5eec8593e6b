-- The axes of the ecliptic frame, in whole numbers.
use Rattle.std.specs.Prelude.{ℕ, ℤ, pos, ◌+ℤ◌, ◌*ℤ◌}
use Rattle.spec_intervals.specs.Fraction.{Fraction}
use Rattle.spec_bodies.specs.declared.factor.Factor.{Factor}
use Rattle.spec_bodies.specs.Coordinates.{Coordinate}
use Rattle.spec_bodies.specs.Meanings.{exact_of}

-- the exact value of a coordinate's formula at a time
abbrev pub coordinate_value : (ℕ → ℕ → ℤ → Fraction) → (Factor → Fraction) → Coordinate → ℤ → Fraction
coordinate_value column factors coordinate t = exact_of column factors coordinate t

-- cosine and sine of the obliquity, in units of 10^-15
abbrev pub obliquity_cosine : ℤ
obliquity_cosine = pos 917482062069182

abbrev pub obliquity_sine : ℤ
obliquity_sine = pos 397777155931914

abbrev pub squares : ℤ → ℤ → ℤ
squares y z = y *ℤ y +ℤ z *ℤ z
