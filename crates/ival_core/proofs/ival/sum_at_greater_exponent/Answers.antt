use Rattle.std.proofs.Common.{◌≡◌, ◌∙◌, ◌+ℤ◌, ap, to_z, of_z, w32, arith}
use Rattle.std.proofs.lemmas.Int.{ints, to_z-of_z}
use Rattle.std.specs.Int.{int_max}
use mir.Syntax.{w128}
use mir.Val.{SFits}
use Rattle.spec_intervals.specs.Interval.{Interval, narrow}
use Rattle.spec_models.specs.Bounds.{at_exponent, raised_sum}
use Rattle.spec_models.proofs.SumInclusions.{sums_ordered}
use Rattle.ival_core.proofs.Passing.{made_of}
use Rattle.ival_core.proofs.ival.sum_at_greater_exponent.Goals as goal
use Rattle.ival_core.proofs.ival.sum_at_greater_exponent.Goals.{After-sum_of_ends-2}

-- the greater exponent
greater_is : (c : After-sum_of_ends-2) → to_z w32 (of_z w32 c.greater_exponent-s.result) ≡ int_max c.args.x.s c.args.y.s
greater_is c =
    let e : c.x.inside.s ≡ c.args.x.s = ap (λ (t : Interval). t.s) c.x.view_is in
    let f : c.y.inside.s ≡ c.args.y.s = ap (λ (t : Interval). t.s) c.y.view_is in
    let p = c.requires.exponent in
    let q = c.requires.other_exponent in
    let bound = c.greater_exponent-s.ensures.bound in
    let a : SFits w32 c.x.inside.s = omega (arith, ints) in
    let b : SFits w32 c.y.inside.s = omega (arith, ints) in
    let g : c.greater_exponent-s.result ≡ int_max c.x.inside.s c.y.inside.s = simp to_z-of_z at c.greater_exponent-s.ensures.equals in
    to_z-of_z w32 c.greater_exponent-s.result (omega (arith, ints)) ∙ (g ∙ λ i. int_max (e i) (f i))

-- each end is the sum of two at that exponent
lo_is : (c : After-sum_of_ends-2) → to_z w128 (of_z w128 c.sum_of_ends.result) ≡ c.raise_ival-own.result.lo +ℤ c.raise_ival-more.result.lo
lo_is c =
    let a = c.raise_ival-own.ensures.lo_small in
    let b = c.raise_ival-more.ensures.lo_small in
    made_of (λ m n. m +ℤ n) c.raise_ival-own.result.lo c.raise_ival-more.result.lo c.sum_of_ends.result (omega (arith, ints)) (omega (arith, ints)) (record { sfits = c.sum_of_ends.type_inv }) c.sum_of_ends.ensures.equals

hi_is : (c : After-sum_of_ends-2) → to_z w128 (of_z w128 c.sum_of_ends-2.result) ≡ c.raise_ival-own.result.hi +ℤ c.raise_ival-more.result.hi
hi_is c =
    let a = c.raise_ival-own.ensures.hi_small in
    let b = c.raise_ival-more.ensures.hi_small in
    made_of (λ m n. m +ℤ n) c.raise_ival-own.result.hi c.raise_ival-more.result.hi c.sum_of_ends-2.result (omega (arith, ints)) (omega (arith, ints)) (record { sfits = c.sum_of_ends-2.type_inv }) c.sum_of_ends-2.ensures.equals

pub normalize_ends-requires-clause-ordered : goal.normalize_ends-requires-clause-ordered
normalize_ends-requires-clause-ordered c =
    rw (lo_is c, hi_is c) (sums_ordered _ _ _ _ c.raise_ival-own.ensures.ordered c.raise_ival-more.ensures.ordered)

pub normalize_ends-requires-clause-exponent : goal.normalize_ends-requires-clause-exponent
normalize_ends-requires-clause-exponent c = let bound = c.greater_exponent-s.ensures.bound in omega (arith, ints)

pub returns : goal.returns
unfolding raised_sum
returns c =
    let d = (goal.at.returns c).After-sum_of_ends-2 in
    let own = c.raise_ival-own.ensures in
    let more = c.raise_ival-more.ensures in
    let s = greater_is d in
    let lo = lo_is d ∙ λ i. own.lo i +ℤ more.lo i in
    let hi = hi_is d ∙ λ i. own.hi i +ℤ more.hi i in
    c.normalize_ends.ensures ∙ (λ i. narrow (lo i) (hi i) (to_z w32 (of_z w32 c.greater_exponent-s.result))) ∙ (λ i. narrow ((at_exponent (s i) c.args.x).lo +ℤ (at_exponent (s i) c.args.y).lo) ((at_exponent (s i) c.args.x).hi +ℤ (at_exponent (s i) c.args.y).hi) (s i))
