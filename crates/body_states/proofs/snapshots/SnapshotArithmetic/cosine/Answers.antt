use Rattle.std.proofs.Common.{◌∙◌}
use Rattle.spec_intervals.specs.Enclosure.{constant_of}
use Rattle.body_states.proofs.snapshots.SnapshotArithmetic.cosine.Goals as goal

pub cosine_interval-requires : goal.cosine_interval-requires
cosine_interval-requires c = c.listed_constants_are_within_limits.ensures.cosines _ c.args.number c.requires.part

pub returns : goal.returns
returns c = c.constant.ensures ∙ λ i. constant_of (c.self.view_is i).first (c.self.view_is i).last (c.cosine_interval.ensures.equals i)
