use Rattle.spec_steps.proofs.Parts.{square_part}
use Rattle.event_bounds.proofs.Within.{part_within}
use Rattle.event_bounds.proofs.spans.SpanArithmetic.signed_square.Goals as goal

pub signed_square-requires : goal.signed_square-requires
signed_square-requires c =
    let of = c.requires.operand in
    part_within c.args.self.now c.requires.ready c.listed_bounds_are_within_limits.ensures of.operand (square_part _ of.operand of.part) c.args.x.now of.of_operand

pub returns : goal.returns
returns c = λ p part x. c.signed_square.ensures _ x
