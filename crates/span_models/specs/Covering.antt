-- A model that is widened for what the rules of intervals round.
use Rattle.std.specs.Prelude.{◌≡◌, ℕ}
use Rattle.spec_intervals.specs.Fraction.{Fraction}
use Rattle.spec_models.specs.Models.{Model, widened}
use Rattle.spec_covers.specs.Combining.{IsEnough}

-- l is k with so many units more of error, which are enough for what is rounded of numbers up to r in size
pub record IsWidenedFor (r : Fraction) (k l : Model) : Type 0 where
  pub units : ℕ
  pub is : l ≡ widened units k
  pub enough : IsEnough units k r
