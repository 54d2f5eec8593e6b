use Rattle.std.proofs.Common.{◌≡◌, ◌∙◌, to_z, of_z, pos, ◌*ℤ◌}
use Rattle.std.proofs.lemmas.Int.{to_z-of_z}
use mir.Syntax.{w128}
use Rattle.spec_numbers.specs.Numbers.{floor_div, ceil_div}
use Rattle.spec_numbers.proofs.Floor.{ordered_quotients}
use Rattle.ival_core.proofs.Passing.{kept}
use Rattle.ival_core.proofs.Aligning.{scale-is, doubled_fits}
use Rattle.spec_numbers.proofs.Integers.{doubles_ordered}
use Rattle.ival_core.proofs.ival.scale_ends_by.Goals as goal
use Rattle.ival_core.proofs.ival.scale_ends_by.Goals.{After-up}

ends_are : (c : After-up) → (to_z w128 (of_z w128 c.down.result) ≡ floor_div (pos 2 *ℤ c.args.lo) c.args.divider.now) × (to_z w128 (of_z w128 c.up.result) ≡ ceil_div (pos 2 *ℤ c.args.hi) c.args.divider.now)
ends_are c =
    let l = c.ranges.lo in
    let h = c.ranges.hi in
    let d = doubled_fits c.args.lo c.requires.lo_size in
    let e = doubled_fits c.args.hi c.requires.hi_size in
    (kept c.down.result _ (record { sfits = c.down.type_inv }) (simp to_z-of_z at c.down.ensures.equals), kept c.up.result _ (record { sfits = c.up.type_inv }) (simp to_z-of_z at c.up.ensures.equals))

pub normalize_wide_ends-requires-clause-ordered : goal.normalize_wide_ends-requires-clause-ordered
normalize_wide_ends-requires-clause-ordered c =
    let is = ends_are c in rw (is.0, is.1) (ordered_quotients (pos 2 *ℤ c.args.lo) (pos 2 *ℤ c.args.hi) c.args.divider.now c.down.ensures.positive (doubles_ordered c.args.lo c.args.hi c.requires.ordered))

pub returns-clause-equals : goal.returns-clause-equals
returns-clause-equals c =
    let d = (goal.at.returns-clause-equals c).After-up in
    let s = c.ranges.s in
    (simp to_z-of_z at c.normalize_wide_ends.ensures) ∙ scale-is c.args.lo c.args.hi c.args.s c.args.divider.now _ _ (ends_are d).0 (ends_are d).1
