use Rattle.std.proofs.Common.{◌∙◌, ◌^◌, ◌*ℤ◌, pos, unsigned_abs}
use Rattle.spec_numbers.specs.Numbers.{floor_div}
use Rattle.event_models.proofs.GranuleLines.{length_kept, less_fits, middle_kept, middle_within, seconds_kept}
use Rattle.event_models.proofs.Steps.{kept60}
use Rattle.event_models.proofs.lines.granule_line.Goals as goal

pub overflow_sub-after-2 : goal.overflow_sub-after-2
overflow_sub-after-2 c =
    let g = c.args.granule.now in
    let t = c.args.times.now in
    let is = c.requires.granule in
    less_fits t.first t.last g.start g.seconds is.evaluable.long is.evaluable.short is.evaluable.start is.from t.ordered is.upto

pub ratio_in_units-requires-clause-small : goal.ratio_in_units-requires-clause-small
ratio_in_units-requires-clause-small c =
    let g = c.args.granule.now in
    let t = c.args.times.now in
    let is = c.requires.granule in
    rw c.of-divider.ensures (middle_within t.first t.last g.start g.seconds is.evaluable.long is.evaluable.short is.evaluable.start is.from t.ordered is.upto)

pub returns-clause-equals : goal.returns-clause-equals
returns-clause-equals c =
    let g = c.args.granule.now in
    let t = c.args.times.now in
    let is = c.requires.granule in
    let middle = middle_kept t.first t.last g.start g.seconds is.evaluable.long is.evaluable.short is.evaluable.start is.from t.ordered is.upto in
    let length = length_kept t.first t.last g.start g.seconds is.evaluable.long is.evaluable.short is.evaluable.start is.from t.ordered is.upto in
    let seconds = seconds_kept t.first t.last g.start g.seconds is.evaluable.long is.evaluable.short is.evaluable.start is.from t.ordered is.upto in
    let divider = c.of-divider.ensures ∙ λ i. unsigned_abs (seconds i) in
    let first = kept60 c.ratio_in_units.result c.ratio_in_units.ensures.within ∙ c.ratio_in_units.ensures.equals ∙ (λ i. floor_div (middle i *ℤ pos (2 ^ 60)) (divider i)) in
    let second = kept60 c.ratio_in_units-2.result c.ratio_in_units-2.ensures.within ∙ c.ratio_in_units-2.ensures.equals ∙ (λ i. floor_div (length i *ℤ pos (2 ^ 60)) (divider i)) in
    λ i. record { middle = first i; slope = second i }
