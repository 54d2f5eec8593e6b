use Rattle.std.proofs.Common.{◌∙◌, ◌+◌, ◌*◌, ◌^◌, ap}
use Rattle.ival_core.proofs.Quotients.{two_steps}
use Rattle.ival_core.proofs.divider.Divider.divide.Goals as goal

pub returns-else-high-self-clause-parts : goal.returns-else-high-self-clause-parts
returns-else-high-self-clause-parts c =
    rw c.join_halves-else-high-self.ensures (two_steps c.args.x c.args.self.now c.divide_short-first.result.quotient c.divide_short-first.result.rest c.divide_short-second.result.quotient c.divide_short-second.result.rest (c.divide_short-first.ensures.parts ∙ c.high_half-high.ensures) (c.divide_short-second.ensures.parts ∙ (c.join_halves.ensures ∙ ap (λ n. c.divide_short-first.result.rest * 2 ^ 64 + n) c.low_half-low.ensures)))
