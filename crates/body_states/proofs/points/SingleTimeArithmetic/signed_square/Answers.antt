use Rattle.std.proofs.Common.{◌∙◌, ap}
use Rattle.spec_intervals.specs.Interval as I
use Rattle.spec_steps.specs.ColumnTerms.{signed_square as term_of}
use Rattle.spec_steps.proofs.Parts.{square_part}
use Rattle.body_states.proofs.Alone.{fits_alone, one_exponent}
use Rattle.body_states.proofs.points.SingleTimeArithmetic.signed_square.Goals as goal

pub signed_square-requires : goal.signed_square-requires
signed_square-requires c = one_exponent _ _ c.listed_enclosures_are_within_limits.ensures.within (fits_alone c.args.self.now c.requires.ready) term_of (square_part _) c.args.x.now c.requires.operand

pub returns : goal.returns
returns c = λ p part x. c.signed_square.ensures.equals ∙ ap I.signed_square x
