use Rattle.std.proofs.Common.{ap}
use Rattle.std.proofs.lemmas.Bool.{both_ways}
use Rattle.body_states.specs.Ranges.{is_any}
use Rattle.body_states.proofs.states.BodyStates.point.Goals as goal

pub point_with_velocities-requires : goal.point_with_velocities-requires
point_with_velocities-requires c = record {
  alone = c.requires.single;
  fits = c.requires.fits;
  positions = c.write_entries.ensures.entries;
  velocities = λ wanted. absurd (both_ways (is_any c.none.result) (ap is_any c.none.ensures) wanted);
}

pub formula-requires-clause-ready : goal.formula-requires-clause-ready
formula-requires-clause-ready c = record {
  alone = c.requires.single;
  fits = c.requires.fits;
  positions = c.write_entries.ensures.entries;
  velocities = λ wanted. absurd (both_ways (is_any c.none.result) (ap is_any c.none.ensures) wanted);
}
