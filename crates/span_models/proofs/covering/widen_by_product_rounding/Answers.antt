use Rattle.std.proofs.Common.{◌*◌, ◌+◌, ◌^◌, ◌≤◌, subst, ℕ}
use Rattle.spec_models.specs.Models.{bulk}
use Rattle.span_models.proofs.Exponents.{gap_above}
use Rattle.span_models.proofs.Widened.{widened_for}
use Rattle.span_models.proofs.covering.widen_by_product_rounding.Goals as goal

pub returns-in-Some : goal.returns-in-Some
returns-in-Some c =
    let many : bulk c.args.m.now * bulk c.args.n.now ≤ c.in-Some.units * 2 ^ (58 + c.exponent_gap-gap.result) = subst (λ (x : ℕ). x * bulk c.args.n.now ≤ c.in-Some.units * 2 ^ (58 + c.exponent_gap-gap.result)) c.bulk.ensures (subst (λ (x : ℕ). c.bulk.result * x ≤ c.in-Some.units * 2 ^ (58 + c.exponent_gap-gap.result)) c.bulk-2.ensures c.in-Some.ensures) in
    widened_for _ c.args.k.now c.in-Some.units (c.units_that_are_enough.ensures.product c.args.m.now c.args.n.now c.args.k.now c.in-Some.units c.exponent_gap-gap.result (gap_above c.exponent.result c.exponent-2.result c.exponent-4.result _ _ _ c.exponent_gap-gap.result c.exponent.ensures.equals c.exponent-2.ensures.equals c.exponent-4.ensures.equals c.exponent.ensures.small.exponent c.exponent-2.ensures.small.exponent c.exponent-4.ensures.small.exponent c.exponent_gap-gap.ensures) many) c.widened.result c.widened.ensures
