use Rattle.std.proofs.Common.{◌∙◌}
use Rattle.spec_intervals.specs.Enclosure.{sum_of}
use Rattle.spec_steps.specs.ColumnTerms.{sum as term_of}
use Rattle.spec_steps.proofs.Parts.{sum_parts}
use Rattle.body_states.proofs.Good.{two}
use Rattle.body_states.proofs.snapshots.SnapshotArithmetic.sum.Goals as goal

pub sum-requires : goal.sum-requires
sum-requires c = two c.listed_enclosures_are_within_limits.ensures _ _ c.self.view_is c.self.invariant.2 term_of (sum_parts _) c.args.x.now c.args.y.now c.requires.operands

pub returns : goal.returns
returns c = λ p q part x y. c.sum.ensures ∙ λ i. sum_of (c.self.view_is i).first (c.self.view_is i).last (x i) (y i)
