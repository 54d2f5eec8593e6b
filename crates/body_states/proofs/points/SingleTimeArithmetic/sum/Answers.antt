use Rattle.std.proofs.Common.{◌∙◌}
use Rattle.spec_intervals.specs.Interval as I
use Rattle.spec_steps.specs.ColumnTerms.{sum as term_of}
use Rattle.spec_steps.proofs.Parts.{sum_parts}
use Rattle.body_states.proofs.Alone.{fits_alone, two_exponents}
use Rattle.body_states.proofs.points.SingleTimeArithmetic.sum.Goals as goal

pub add-requires : goal.add-requires
add-requires c = two_exponents _ _ c.listed_enclosures_are_within_limits.ensures.within (fits_alone c.args.self.now c.requires.ready) term_of (sum_parts _) c.args.x.now c.args.y.now c.requires.operands

pub returns : goal.returns
returns c = λ p q part x y. c.add.ensures.equals ∙ λ i. I.sum (x i) (y i)
