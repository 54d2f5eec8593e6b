-- What an observer sees at one time, in whole numbers of a unit: a part of a km, and of a km a second.
use Rattle.std.specs.Prelude.{ℕ, zero, suc, ℤ}
use Rattle.spec_text.specs.declared.decimals.Decimal.{Decimal}
use Rattle.spec_intervals.specs.Fraction.{Fraction, decimal}
use Rattle.spec_expressions.specs.Term.{Leaf, position, velocity, IsLeaf}
use Rattle.spec_meanings.specs.Ratios.{IsRatio}
use Rattle.spec_meanings.specs.Space.{Triple, along}

-- `unit` units are 1 km
pub record Scene : Type 0 where
  pub unit : ℕ
  pub target : Triple
  pub second : Triple
  pub target_velocity : Triple
  pub second_velocity : Triple

-- a coordinate of the scene
abbrev pub seen : Scene → Leaf → ℤ
seen s (position zero axis) = along s.target axis
seen s (position (suc number) axis) = along s.second axis
seen s (velocity zero axis) = along s.target_velocity axis
seen s (velocity (suc number) axis) = along s.second_velocity axis

-- the scene is what the exact coordinates are at a time
abbrev pub Shows : (Leaf → ℤ → Fraction) → ℤ → Scene → Type 0
Shows exact t s = (l : Leaf) → IsLeaf l → IsRatio (exact l t) (seen s l) s.unit

-- a length is n units of the scene
abbrev pub IsLong : Scene → Decimal → ℤ → Type 0
IsLong s length n = IsRatio (decimal length.mant length.exp) n s.unit

-- a cosine is n / d
abbrev pub IsCosineOf : Decimal → ℤ → ℕ → Type 0
IsCosineOf cosine n d = IsRatio (decimal cosine.mant cosine.exp) n d

-- some scene is what the coordinates are at a time, with a unit in which two lengths are whole numbers
pub record HasScene (exact : Leaf → ℤ → Fraction) (t : ℤ) (one other : Decimal) : Type 0 where
  pub scene : Scene
  pub shows : Shows exact t scene
  pub first_length : ℤ
  pub second_length : ℤ
  pub first : IsLong scene one first_length
  pub second : IsLong scene other second_length
