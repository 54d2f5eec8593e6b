use Rattle.std.proofs.Common.{◌∙◌, ◌^◌, ◌+ℤ◌, ◌*ℤ◌, ◌-ℤ◌, ap}
use Rattle.spec_numbers.specs.Numbers.{floor_div}
use Rattle.event_models.proofs.Steps.{halves_kept, kept, kept60, less_fits, less_kept, less_small}
use Rattle.event_models.proofs.rows.recurrence_value.Goals as goal

pub overflow_sub-result : goal.overflow_sub-result
overflow_sub-result c = less_fits c.scaled_sum.result c.args.before c.scaled_sum.ensures.small c.requires.before

pub returns-clause-equals : goal.returns-clause-equals
returns-clause-equals c =
    less_kept c.scaled_sum.result c.args.before c.scaled_sum.ensures.small c.requires.before
    ∙ ap (λ z. z -ℤ c.args.before) (c.scaled_sum.ensures.equals ∙ halves_kept c.product.result c.product-2.result c.product.ensures.small c.product-2.ensures.small
    ∙ (λ i. floor_div (c.product.ensures.equals i +ℤ c.product-2.ensures.equals i) (2 ^ 59))
    ∙ (λ i. floor_div (kept60 c.args.line.now.middle c.requires.line.middle i *ℤ kept c.args.own c.requires.own i +ℤ kept60 c.args.line.now.slope c.requires.line.slope i *ℤ kept c.args.below c.requires.below i) (2 ^ 59)))

pub returns-clause-small : goal.returns-clause-small
returns-clause-small c = less_small c.scaled_sum.result c.args.before c.scaled_sum.ensures.small c.requires.before
