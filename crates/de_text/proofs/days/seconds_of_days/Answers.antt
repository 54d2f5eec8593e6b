use Rattle.de_text.proofs.Sizes.{divides, part_seconds, whole_seconds}
use Rattle.de_text.proofs.days.seconds_of_days.Goals as goal

pub returns-then-days-unit-eq0 : goal.returns-then-days-unit-eq0
returns-then-days-unit-eq0 c =
    whole_seconds c.args.d _ _ (divides c.args.d _ _ _ c.magnitude_numerator.ensures.mant c.magnitude_numerator.ensures.size c.saturating_mul-days.ensures c.magnitude_denominator-unit.ensures.size) c.if-days-unit-eq0.true

pub returns-else-days-unit-eq0 : goal.returns-else-days-unit-eq0
returns-else-days-unit-eq0 c =
    part_seconds c.args.d _ _ (divides c.args.d _ _ _ c.magnitude_numerator.ensures.mant c.magnitude_numerator.ensures.size c.saturating_mul-days.ensures c.magnitude_denominator-unit.ensures.size) c.if-days-unit-eq0.false
