use Rattle.spec_bodies.specs.declared.source.TheConstants.{MOON_COLUMN}
use Rattle.spec_bodies.specs.Coordinates.{earth}
use Rattle.spec_bodies.specs.Meanings.{exact_of}
use Rattle.spec_bodies.proofs.Apart.{sum_less, less_sum}
use Rattle.spec_bodies.proofs.laws.the_earth_and_the_moon_are_seen_at_their_difference.Goals as goal

pub returns : goal.returns
returns c = record {
  moon = λ axis column factors t. sum_less (exact_of column factors (earth axis) t) (column MOON_COLUMN axis t);
  earth = λ axis column factors t. less_sum (exact_of column factors (earth axis) t) (column MOON_COLUMN axis t);
}
