use Rattle.std.proofs.Common.{rules, ◌≡◌, ap, ◌∙◌, negsuc, w64}
use Rattle.std.proofs.lemmas.Int.{to_z-of_z}
use mir.Syntax.{w16, w128}
use mir.Val.{SFits}
use Rattle.spec_intervals.specs.Interval.{Interval, from_decimal}
use Rattle.spec_ephemeris.specs.Rounding.{pair_of}
use Rattle.spec_ephemeris.proofs.Rounding.{low_size, high_size}
use Rattle.eph_model.proofs.PairLists.{narrowed}
use Rattle.eph_model.proofs.rounding.pair_of.Goals as goal

pub returns : goal.returns
returns c =
    let m : SFits w64 c.args.number.mant = search rules in
    let e : SFits w16 c.args.number.exp = search rules in
    let is : c.from_decimal.result ≡ from_decimal c.args.number.mant c.args.number.exp (negsuc 23) = simp to_z-of_z at c.from_decimal.ensures.equals in
    let f : SFits w128 c.parts-lo.result.0 = search rules in
    let g : SFits w128 c.parts-lo.result.1 = search rules in
    let lo : c.parts-lo.result.0 ≡ (pair_of c.args.number).lo = c.parts-lo.ensures.lo ∙ ap (λ (t : Interval). t.lo) is in
    let hi : c.parts-lo.result.1 ≡ (pair_of c.args.number).hi = c.parts-lo.ensures.hi ∙ ap (λ (t : Interval). t.hi) is in
    let a = narrowed c.parts-lo.result.0 (pair_of c.args.number).lo f lo (low_size c.args.number c.requires) in
    let b = narrowed c.parts-lo.result.1 (pair_of c.args.number).hi g hi (high_size c.args.number c.requires) in
    λ i. record { lo = a i; hi = b i }
