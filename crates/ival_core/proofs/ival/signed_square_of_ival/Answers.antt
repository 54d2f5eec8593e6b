use Rattle.std.proofs.Common.{◌≡◌, ◌∙◌, arith, ap, to_z, of_z, w32, ◌+ℤ◌}
use Rattle.std.proofs.lemmas.Int.{ints, to_z-of_z}
use mir.Syntax.{w128}
use mir.Val.{SFits}
use Rattle.spec_intervals.specs.Interval.{Interval, signed_sq}
use Rattle.spec_intervals.proofs.Squares.{signed_sq-le}
use Rattle.ival_core.proofs.Aligning.{signed_square-is}
use Rattle.ival_core.proofs.Shifts.{small_narrow}
use Rattle.ival_core.proofs.ival.signed_square_of_ival.Goals as goal
use Rattle.ival_core.proofs.ival.signed_square_of_ival.Goals.{After-signed_square_of_end-2}

lo_is : (c : After-signed_square_of_end-2) → to_z w128 (of_z w128 c.signed_square_of_end.result) ≡ signed_sq c.x.inside.lo
lo_is c =
    let a = small_narrow c.x.inside.lo c.x.invariant.lo_small in
    let r : SFits w128 c.signed_square_of_end.result = record { sfits = c.signed_square_of_end.type_inv } in
    to_z-of_z w128 c.signed_square_of_end.result r ∙ (simp to_z-of_z at c.signed_square_of_end.ensures.equals)

hi_is : (c : After-signed_square_of_end-2) → to_z w128 (of_z w128 c.signed_square_of_end-2.result) ≡ signed_sq c.x.inside.hi
hi_is c =
    let a = small_narrow c.x.inside.hi c.x.invariant.hi_small in
    let r : SFits w128 c.signed_square_of_end-2.result = record { sfits = c.signed_square_of_end-2.type_inv } in
    to_z-of_z w128 c.signed_square_of_end-2.result r ∙ (simp to_z-of_z at c.signed_square_of_end-2.ensures.equals)

exponent_is : (c : After-signed_square_of_end-2) → to_z w32 (of_z w32 (to_z w32 (of_z w32 c.x.inside.s) +ℤ to_z w32 (of_z w32 c.x.inside.s))) ≡ c.x.inside.s +ℤ c.x.inside.s
exponent_is c =
    let e : c.x.inside.s ≡ c.args.x.s = ap (λ (t : Interval). t.s) c.x.view_is in
    let p = c.requires in
    omega (arith, ints)

pub normalize_ends-requires-clause-ordered : goal.normalize_ends-requires-clause-ordered
normalize_ends-requires-clause-ordered c =
    rw (lo_is c, hi_is c) (signed_sq-le c.x.inside.lo c.x.inside.hi c.x.invariant.ordered)

pub returns : goal.returns
returns c =
    let d = (goal.at.returns c).After-signed_square_of_end-2 in
    rw (← c.x.view_is) (c.normalize_ends.ensures ∙ signed_square-is _ _ _ _ (lo_is d) (hi_is d) (exponent_is d))
