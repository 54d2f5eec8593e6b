-- The granules that can be evaluated.
use Rattle.std.specs.Prelude.{◌≡◌, ◌*◌, ◌^◌, ◌≤◌, length, map, All, pos, unsigned_abs, ◌≤ℤ◌}
use Rattle.spec_ephemeris.specs.declared.granule.Granule.{Granule}
use Rattle.spec_ephemeris.specs.Ephemeris.{IsBodyNumber}
use Rattle.spec_ephemeris.specs.Rounding.{pair_of}

-- from 1 to 32 coefficients for each component, each below 2^36 km in size; from 1 to 2^40 seconds; a start of at most
-- 2^50 in size; beside the coefficients their pairs, in the same order
pub record IsEvaluable (g : Granule) : Type 0 where
  pub some : 1 ≤ g.n
  pub few : g.n ≤ 32
  pub count : length g.coefs.now ≡ g.comps * g.n
  pub bodies : All IsBodyNumber g.coefs.now
  pub pairs : g.rounded.now ≡ map pair_of g.coefs.now
  pub long : pos 1 ≤ℤ g.seconds
  pub short : g.seconds ≤ℤ pos (2 ^ 40)
  pub start : unsigned_abs g.start ≤ 2 ^ 50
