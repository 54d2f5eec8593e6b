use Rattle.std.proofs.Common.{◌∙◌}
use Rattle.spec_intervals.specs.Interval as I
use Rattle.spec_steps.specs.ColumnTerms.{difference as term_of}
use Rattle.spec_steps.proofs.Parts.{difference_parts}
use Rattle.body_states.proofs.Alone.{fits_alone, two_exponents}
use Rattle.body_states.proofs.points.SingleTimeArithmetic.difference.Goals as goal

pub sub-requires : goal.sub-requires
sub-requires c = two_exponents _ _ c.listed_enclosures_are_within_limits.ensures.within (fits_alone c.args.self.now c.requires.ready) term_of (difference_parts _) c.args.x.now c.args.y.now c.requires.operands

pub returns : goal.returns
returns c = λ p q part x y. c.sub.ensures.equals ∙ λ i. I.difference (x i) (y i)
