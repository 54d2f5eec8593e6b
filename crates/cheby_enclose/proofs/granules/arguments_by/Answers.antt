use Rattle.std.proofs.Common.{rules, ◌≡◌, ◌∙◌, sym, arith, pos, w64, ap, ℤ, ◌-ℤ◌, ◌*ℤ◌, unsigned_abs}
use Rattle.std.proofs.lemmas.Int.{ints, to_z-of_z}
use mir.Val.{SFits}
use Rattle.spec_chebyshev.specs.Rows.{argument_of}
use Rattle.spec_numbers.proofs.Sizes.{own_size}
use Rattle.cheby_enclose.proofs.granules.arguments_by.Goals as goal
use Rattle.cheby_enclose.proofs.granules.arguments_by.Goals.{After-argument_numerator-2}

first : (c : After-argument_numerator-2) → c.argument_numerator.result ≡ (pos 2 *ℤ (c.args.a -ℤ c.args.g.now.start)) -ℤ c.args.g.now.seconds
first c =
    let a = c.ranges.a in
    let s : SFits w64 c.args.g.now.start = search rules in
    let n : SFits w64 c.args.g.now.seconds = search rules in
    simp to_z-of_z at c.argument_numerator.ensures.equals

second : (c : After-argument_numerator-2) → c.argument_numerator-2.result ≡ (pos 2 *ℤ (c.args.b -ℤ c.args.g.now.start)) -ℤ c.args.g.now.seconds
second c =
    let b = c.ranges.b in
    let s : SFits w64 c.args.g.now.start = search rules in
    let n : SFits w64 c.args.g.now.seconds = search rules in
    simp to_z-of_z at c.argument_numerator-2.ensures.equals

pub argument_by-requires-clause-ordered : goal.argument_by-requires-clause-ordered
argument_by-requires-clause-ordered c =
    let f : SFits w64 c.argument_numerator.result = record { sfits = c.argument_numerator.type_inv } in
    let g : SFits w64 c.argument_numerator-2.result = record { sfits = c.argument_numerator-2.type_inv } in
    let o = c.requires.order in
    let d = (goal.at.argument_by-requires-clause-ordered c).After-argument_numerator-2 in
    rw (to_z-of_z w64 c.argument_numerator.result f, to_z-of_z w64 c.argument_numerator-2.result g, first d, second d) (omega (arith, ints))

pub returns-clause-equals : goal.returns-clause-equals
returns-clause-equals c = λ axis. (
    let d = (goal.at.returns-clause-equals c).After-argument_numerator-2 in
    let f : SFits w64 c.argument_numerator.result = record { sfits = c.argument_numerator.type_inv } in
    let g : SFits w64 c.argument_numerator-2.result = record { sfits = c.argument_numerator-2.type_inv } in
    let l : pos (unsigned_abs c.args.g.now.seconds) ≡ c.args.g.now.seconds = own_size c.args.g.now.seconds c.requires.granule.long in
    let e : c.argument_by.result ≡ argument_of c.argument_numerator.result c.argument_numerator-2.result (pos c.args.divider.now) = simp to_z-of_z at c.argument_by.ensures.equals in
    let p = first d ∙ ap (λ (z : ℤ). (pos 2 *ℤ (c.args.a -ℤ c.args.g.now.start)) -ℤ z) (sym l) in
    let q = second d ∙ ap (λ (z : ℤ). (pos 2 *ℤ (c.args.b -ℤ c.args.g.now.start)) -ℤ z) (sym l) in
    let r = ap pos c.requires.divider in
    e ∙ λ i. argument_of (p i) (q i) (r i)
    )
