use Rattle.std.proofs.Common.{◌≡◌, ◌∙◌, to_z, of_z, w32, arith}
use Rattle.std.proofs.lemmas.Int.{ints, to_z-of_z}
use mir.Syntax.{w128}
use Rattle.spec_intervals.specs.Interval.{narrow}
use Rattle.spec_models.specs.Bounds.{at_exponent, coarsened}
use Rattle.ival_core.proofs.Passing.{kept}
use Rattle.ival_core.proofs.ival.Ival.coarsened.Goals as goal

pub returns : goal.returns
unfolding coarsened
returns c =
    let own = c.raise_ival-own.ensures in
    let low = own.lo_small in
    let high = own.hi_small in
    let bound = own.exponent_bound in
    let given : to_z w32 (of_z w32 c.args.s) ≡ c.args.s = to_z-of_z w32 c.args.s c.ranges.s in
    let lo : to_z w128 (of_z w128 c.raise_ival-own.result.lo) ≡ (at_exponent (to_z w32 (of_z w32 c.args.s)) c.args.self).lo = kept c.raise_ival-own.result.lo _ (omega (arith, ints)) own.lo in
    let hi : to_z w128 (of_z w128 c.raise_ival-own.result.hi) ≡ (at_exponent (to_z w32 (of_z w32 c.args.s)) c.args.self).hi = kept c.raise_ival-own.result.hi _ (omega (arith, ints)) own.hi in
    let e : to_z w32 (of_z w32 c.raise_ival-own.result.s) ≡ (at_exponent (to_z w32 (of_z w32 c.args.s)) c.args.self).s = to_z-of_z w32 c.raise_ival-own.result.s (omega (arith, ints)) ∙ own.exponent in
    c.normalize_ends.ensures ∙ (λ i. narrow (lo i) (hi i) (e i)) ∙ (λ i. coarsened (given i) c.args.self)
