use Rattle.std.proofs.Common.{◌∙◌, ◌^◌, ◌+ℤ◌, ◌*ℤ◌, ◌-ℤ◌}
use Rattle.spec_numbers.specs.Numbers.{floor_div}
use Rattle.event_models.proofs.Steps.{kept, kept58, number_kept}
use Rattle.event_models.proofs.rows.recurrence_number.Goals as goal

pub returns-clause-equals : goal.returns-clause-equals
returns-clause-equals c =
    let l = c.args.line.now in
    let own = kept c.kept_coefficient-own.result c.kept_coefficient-own.ensures.small ∙ c.kept_coefficient-own.ensures.equals in
    let under = kept c.lower_coefficient-under.result c.lower_coefficient-under.ensures.small ∙ c.lower_coefficient-under.ensures.equals in
    let before = number_kept c.args.before.now.coefficients c.args.k c.requires.before.numbers c.requires.place in
    kept58 c.recurrence_value.result c.recurrence_value.ensures.small ∙ c.recurrence_value.ensures.equals ∙ λ i. floor_div (l.middle *ℤ own i +ℤ l.slope *ℤ under i) (2 ^ 59) -ℤ before i
