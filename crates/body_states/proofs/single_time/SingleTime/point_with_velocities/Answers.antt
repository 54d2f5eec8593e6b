use Rattle.body_states.proofs.single_time.SingleTime.point_with_velocities.Goals as goal

pub formula-requires-clause-ready : goal.formula-requires-clause-ready
formula-requires-clause-ready c = record {
  alone = c.requires.alone;
  fits = c.requires.fits;
  positions = c.requires.positions;
  velocities = c.write_entries.ensures.entries;
}
