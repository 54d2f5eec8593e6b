use Rattle.std.proofs.Common.{◌∙◌}
use Rattle.spec_intervals.specs.Enclosure.{signed_square_of}
use Rattle.spec_steps.specs.ColumnTerms.{signed_square as term_of}
use Rattle.spec_steps.proofs.Parts.{square_part}
use Rattle.body_states.proofs.Good.{one}
use Rattle.body_states.proofs.snapshots.SnapshotArithmetic.signed_square.Goals as goal

pub signed_square-requires : goal.signed_square-requires
signed_square-requires c = one c.listed_enclosures_are_within_limits.ensures _ _ c.self.view_is c.self.invariant.2 term_of (square_part _) c.args.x.now c.requires.operand

pub returns : goal.returns
returns c = λ p part x. c.signed_square.ensures ∙ λ i. signed_square_of (c.self.view_is i).first (c.self.view_is i).last (x i)
