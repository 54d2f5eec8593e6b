use Rattle.std.proofs.Common.{rules, ◌≡◌, ◌∙◌, sym, pos, w64, ap, ℤ, ◌-ℤ◌, ◌*ℤ◌, unsigned_abs}
use Rattle.std.proofs.lemmas.Int.{to_z-of_z}
use mir.Val.{SFits}
use Rattle.spec_chebyshev.specs.Rows.{argument_of}
use Rattle.spec_numbers.proofs.Sizes.{own_size}
use Rattle.cheby_enclose.proofs.granules.argument_at.Goals as goal

pub returns-clause-equals : goal.returns-clause-equals
returns-clause-equals c = λ axis. (
    let t = c.ranges.t in
    let s : SFits w64 c.args.g.now.start = search rules in
    let n : SFits w64 c.args.g.now.seconds = search rules in
    let f : SFits w64 c.argument_numerator.result = record { sfits = c.argument_numerator.type_inv } in
    let u : c.argument_numerator.result ≡ (pos 2 *ℤ (c.args.t -ℤ c.args.g.now.start)) -ℤ c.args.g.now.seconds = simp to_z-of_z at c.argument_numerator.ensures.equals in
    let l : pos (unsigned_abs c.args.g.now.seconds) ≡ c.args.g.now.seconds = own_size c.args.g.now.seconds c.requires.granule.long in
    let e : c.argument_of.result ≡ argument_of c.argument_numerator.result c.argument_numerator.result (pos c.args.divider.now) = simp to_z-of_z at c.argument_of.ensures.equals in
    let p = u ∙ ap (λ (z : ℤ). (pos 2 *ℤ (c.args.t -ℤ c.args.g.now.start)) -ℤ z) (sym l) in
    let r = ap pos c.requires.divider in
    e ∙ λ i. argument_of (p i) (p i) (r i)
    )
