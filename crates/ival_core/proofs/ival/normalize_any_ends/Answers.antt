use Rattle.std.proofs.Common.{◌≡◌, ◌∙◌, ◌^◌, arith, ap, to_z, of_z, pos, neg_ℤ}
use Rattle.std.proofs.lemmas.Int.{ints, to_z-of_z}
use mir.Syntax.{w128}
use mir.Val.{SFits}
use Rattle.spec_numbers.specs.Numbers.{floor_div}
use Rattle.ival_core.proofs.Settling.{least_from, below_least, narrow-of}
use Rattle.ival_core.proofs.ival.normalize_any_ends.Goals as goal

pub returns-then-is_least : goal.returns-then-is_least
returns-then-is_least c =
    let l = c.ranges.lo in
    let h = c.ranges.hi in
    let f : SFits w128 c.floor_half.result = record { sfits = c.floor_half.type_inv } in
    let g : SFits w128 c.floor_half-then-is_least.result = record { sfits = c.floor_half-then-is_least.type_inv } in
    let b : c.args.hi ≡ neg_ℤ (pos (2 ^ 127)) = least_from c.args.hi h c.if-is_least.true in
    let a : c.args.lo ≡ neg_ℤ (pos (2 ^ 127)) = below_least c.args.lo c.args.hi l b c.requires.ordered in
    let p : c.floor_half.result ≡ floor_div c.args.lo 2 = simp to_z-of_z at c.floor_half.ensures in
    let q : c.floor_half-then-is_least.result ≡ floor_div c.args.hi 2 = simp to_z-of_z at c.floor_half-then-is_least.ensures in
    let p' : to_z w128 (of_z w128 c.floor_half.result) ≡ neg_ℤ (pos (2 ^ 126)) = to_z-of_z w128 c.floor_half.result f ∙ (p ∙ ap (λ z. floor_div z 2) a) in
    let q' : to_z w128 (of_z w128 c.floor_half-then-is_least.result) ≡ neg_ℤ (pos (2 ^ 126)) = to_z-of_z w128 c.floor_half-then-is_least.result g ∙ (q ∙ ap (λ z. floor_div z 2) b) in
    c.normalize_wide_ends.ensures ∙ narrow-of c.args.lo c.args.hi c.args.s _ _ _ a b p' q' (let e = c.requires.exponent in omega (arith, ints))
