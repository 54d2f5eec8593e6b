-- The intervals of pairs, which are the coefficients of a granule rounded down and up.
use Rattle.std.specs.Prelude.{◌≤◌, ◌^◌, List, length, All, pos, ◌≤ℤ◌, ◌<ℤ◌}
use Rattle.spec_chebyshev.specs.declared.ends.Ival62.{Ival62}
use Rattle.spec_chebyshev.specs.Rows.{ends, EndsWithin}
use Rattle.spec_ephemeris.specs.declared.granule.Rounded.{Rounded}

-- a coefficient from its pair, in units of 2^-24 km
abbrev pub term_of : Rounded → Ival62
term_of p = ends p.lo p.hi

-- the floor and the ceiling of a number below 2^60 in magnitude, which are in order and of one sign
pub record IsPair (p : Rounded) : Type 0 where
  pub small : EndsWithin (2 ^ 60) (term_of p)
  pub ordered : p.lo ≤ℤ p.hi
  pub one_sign : p.lo <ℤ pos 0 → p.hi ≤ℤ pos 0

-- the pairs of the coefficients of one axis
pub record ArePairs (ps : List Rounded) : Type 0 where
  pub few : length ps ≤ 32
  pub pairs : All IsPair ps
