use Rattle.std.proofs.Common.{◌∙◌}
use Rattle.spec_intervals.specs.Enclosure.{constant_of}
use Rattle.body_states.proofs.Good.{zero_number}
use Rattle.body_states.proofs.snapshots.SnapshotArithmetic.zero.Goals as goal

pub constant-requires-clause-number : goal.constant-requires-clause-number
constant-requires-clause-number c = rw c.zero.ensures zero_number

pub returns : goal.returns
returns c = c.constant.ensures ∙ λ i. constant_of (c.self.view_is i).first (c.self.view_is i).last (c.zero.ensures i)
