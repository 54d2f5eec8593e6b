-- The spans of times that are asked of an axis of a granule.
use Rattle.std.specs.Prelude.{ℕ, ℤ, ◌<◌, ◌≤ℤ◌, ◌+ℤ◌}
use Rattle.spec_ephemeris.specs.declared.granule.Granule.{Granule}
use Rattle.spec_motions.specs.Granules.{IsEvaluable}

-- from time a to time b, within the granule, along an axis counted from 0
pub record IsSpanWithin (g : Granule) (component : ℕ) (a b : ℤ) : Type 0 where
  pub granule : IsEvaluable g
  pub axis : component < g.comps
  pub from : g.start ≤ℤ a
  pub order : a ≤ℤ b
  pub upto : b ≤ℤ (g.start +ℤ g.seconds)
