use Rattle.std.proofs.Common.{arith, ◌≡◌, ◌∙◌, ap, ◌≤◌}
use Rattle.std.proofs.lemmas.Int.{to_z-of_z}
use Rattle.spec_numbers.specs.Numbers.{floor_div, ceil_div}
use Rattle.ival_core.proofs.Powers.{ten_pos, tenths_capped, ceil_capped}
use Rattle.ival_core.proofs.Passing.{kept}
use Rattle.ival_core.proofs.decimals.quotient_ends.Goals as goal

pub divide_by_guess-parts-requires-clause-positive : goal.divide_by_guess-parts-requires-clause-positive
divide_by_guess-parts-requires-clause-positive c =
    let some : 1 ≤ c.power_of_ten-d.result = rw c.power_of_ten-d.ensures (ten_pos c.min.result) in
    omega arith

pub returns-clause-low : goal.returns-clause-low
returns-clause-low c =
    let z = c.ranges.z in
    let is = c.floor_quotient-low.ensures c.power_of_ten-d.result (c.divide_by_guess-parts.ensures.parts ∙ c.unsigned_abs.ensures.value) c.divide_by_guess-parts.ensures.less in
    let low : c.floor_quotient-low.result ≡ floor_div c.args.z c.power_of_ten-d.result = simp to_z-of_z at is in
    kept c.floor_quotient-low.result _ (record { sfits = c.floor_quotient-low.type_inv }) (low ∙ (ap (floor_div c.args.z) c.power_of_ten-d.ensures ∙ tenths_capped c.args.z c.args.n c.min.result c.requires c.min.ensures))

pub returns-clause-high : goal.returns-clause-high
returns-clause-high c =
    let z = c.ranges.z in
    let is = c.ceil_quotient-high.ensures c.power_of_ten-d.result (c.divide_by_guess-parts.ensures.parts ∙ c.unsigned_abs.ensures.value) c.divide_by_guess-parts.ensures.less in
    let high : c.ceil_quotient-high.result ≡ ceil_div c.args.z c.power_of_ten-d.result = simp to_z-of_z at is in
    kept c.ceil_quotient-high.result _ (record { sfits = c.ceil_quotient-high.type_inv }) (high ∙ (ap (ceil_div c.args.z) c.power_of_ten-d.ensures ∙ ceil_capped c.args.z c.args.n c.min.result c.requires c.min.ensures))
