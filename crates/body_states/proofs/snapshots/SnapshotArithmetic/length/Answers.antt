use Rattle.std.proofs.Common.{◌∙◌}
use Rattle.spec_intervals.specs.Enclosure.{constant_of}
use Rattle.body_states.proofs.snapshots.SnapshotArithmetic.length.Goals as goal

pub length_interval-requires : goal.length_interval-requires
length_interval-requires c = c.listed_constants_are_within_limits.ensures.lengths _ c.args.km c.requires.part

pub returns : goal.returns
returns c = c.constant.ensures ∙ λ i. constant_of (c.self.view_is i).first (c.self.view_is i).last (c.length_interval.ensures.equals i)
