use Rattle.std.proofs.Common.{◌≡◌, arith, ap, ◌∙◌, to_z, of_z, w32, ◌+ℤ◌, rules}
use Rattle.std.proofs.lemmas.Int.{ints, to_z-of_z}
use mir.Syntax.{w128}
use Rattle.spec_intervals.specs.Interval.{Interval, least4, greatest4}
use Rattle.spec_intervals.proofs.Products.{product-parts, corners_ordered}
use Rattle.ival_core.proofs.Passing.{kept}
use Rattle.ival_core.proofs.Shifts.{small_narrow}
use Rattle.ival_core.proofs.Passing.{small_end_kept, wide_kept}
use Rattle.ival_core.proofs.ival.product_of_ivals.Goals as goal
use Rattle.ival_core.proofs.ival.product_of_ivals.Goals.{After-product_ends-lo}

s_of : (c : After-product_ends-lo) → c.x.inside.s ≡ c.args.x.s
s_of c = ap (λ (t : Interval). t.s) c.x.view_is

t_of : (c : After-product_ends-lo) → c.y.inside.s ≡ c.args.y.s
t_of c = ap (λ (t : Interval). t.s) c.y.view_is

ends_are : (c : After-product_ends-lo) → (to_z w128 (of_z w128 c.product_ends-lo.result.0) ≡ least4 c.x.inside.lo c.x.inside.hi c.y.inside.lo c.y.inside.hi) × (to_z w128 (of_z w128 c.product_ends-lo.result.1) ≡ greatest4 c.x.inside.lo c.x.inside.hi c.y.inside.lo c.y.inside.hi)
ends_are c =
    let a = small_narrow c.x.inside.lo c.x.invariant.lo_small in
    let b = small_narrow c.x.inside.hi c.x.invariant.hi_small in
    let d = small_narrow c.y.inside.lo c.y.invariant.lo_small in
    let e = small_narrow c.y.inside.hi c.y.invariant.hi_small in
    (kept c.product_ends-lo.result.0 _ (search rules) (simp to_z-of_z at c.product_ends-lo.ensures.least), kept c.product_ends-lo.result.1 _ (search rules) (simp to_z-of_z at c.product_ends-lo.ensures.greatest))

exponent_is : (c : After-product_ends-lo) → to_z w32 (of_z w32 (to_z w32 (of_z w32 c.x.inside.s) +ℤ to_z w32 (of_z w32 c.y.inside.s))) ≡ c.args.x.s +ℤ c.args.y.s
exponent_is c =
    let e : c.x.inside.s ≡ c.args.x.s = s_of c in
    let f : c.y.inside.s ≡ c.args.y.s = t_of c in
    let p = c.requires.exponent in
    let q = c.requires.other_exponent in
    omega (arith, ints)

pub normalize_ends-requires-clause-ordered : goal.normalize_ends-requires-clause-ordered
normalize_ends-requires-clause-ordered c =
    let d = (goal.at.normalize_ends-requires-clause-ordered c).After-product_ends-lo in
    let is = ends_are d in rw (is.0, is.1) (corners_ordered c.x.inside.lo c.x.inside.hi c.y.inside.lo c.y.inside.hi)

pub returns : goal.returns
returns c =
    let d = (goal.at.returns c).After-product_ends-lo in
    rw (← c.x.view_is, ← c.y.view_is) (c.normalize_ends.ensures ∙ product-parts _ _ _ _ _ (ends_are d).0 (ends_are d).1 (exponent_is d ∙ rw (← s_of d, ← t_of d)))

pub overflow_add-s : goal.overflow_add-s
overflow_add-s c =
    let e : c.x.inside.s ≡ c.args.x.s = ap (λ (t : Interval). t.s) c.x.view_is in
    let f : c.y.inside.s ≡ c.args.y.s = ap (λ (t : Interval). t.s) c.y.view_is in
    let p = c.requires.exponent in
    let q = c.requires.other_exponent in
    omega (arith, ints)

pub product_ends-lo-requires-clause-a_small : goal.product_ends-lo-requires-clause-a_small
product_ends-lo-requires-clause-a_small c = small_end_kept c.x.inside.lo c.x.invariant.lo_small

pub product_ends-lo-requires-clause-b_small : goal.product_ends-lo-requires-clause-b_small
product_ends-lo-requires-clause-b_small c = small_end_kept c.x.inside.hi c.x.invariant.hi_small

pub product_ends-lo-requires-clause-c_small : goal.product_ends-lo-requires-clause-c_small
product_ends-lo-requires-clause-c_small c = small_end_kept c.y.inside.lo c.y.invariant.lo_small

pub product_ends-lo-requires-clause-d_small : goal.product_ends-lo-requires-clause-d_small
product_ends-lo-requires-clause-d_small c = small_end_kept c.y.inside.hi c.y.invariant.hi_small

pub normalize_ends-requires-clause-lo_bound : goal.normalize_ends-requires-clause-lo_bound
normalize_ends-requires-clause-lo_bound c = wide_kept c.product_ends-lo.result.0 c.product_ends-lo.ensures.least_bound

pub normalize_ends-requires-clause-hi_bound : goal.normalize_ends-requires-clause-hi_bound
normalize_ends-requires-clause-hi_bound c = wide_kept c.product_ends-lo.result.1 c.product_ends-lo.ensures.greatest_bound
