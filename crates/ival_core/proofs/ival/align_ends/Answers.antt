use Rattle.std.proofs.Common.{◌≡◌, ◌-◌, ◌^◌, arith, ap, ◌∙◌, to_z, of_z, w32, pos, rules, ◌+ℤ◌, ◌*ℤ◌, ◌≤ℤ◌, min}
use Rattle.std.proofs.lemmas.Int.{ints, to_z-of_z}
use Rattle.std.specs.Int.{int_gap}
use mir.Syntax.{w128}
use mir.Val.{SFits}
use Rattle.spec_intervals.specs.Interval.{Interval, surplus, lift}
use Rattle.spec_numbers.specs.Numbers.{floor_div, ceil_div}
use Rattle.spec_numbers.proofs.Floor.{ordered_quotients}
use Rattle.spec_numbers.proofs.Order.{le-mul}
use Rattle.std.proofs.lemmas.Nat.{pow_pos}
use Rattle.ival_core.proofs.Shifts.{small_narrow, exponent_sum, shift_bound}
use Rattle.ival_core.proofs.Passing.{shifted}
use Rattle.ival_core.proofs.ival.align_ends.Goals as goal
use Rattle.ival_core.proofs.ival.align_ends.Goals.{After-raise_end-upper_hi}

-- the two shifts are those of the rule
gap_is : (c : After-raise_end-upper_hi) → c.exponent_gap-d.result ≡ int_gap c.args.x.s c.args.y.s
gap_is c =
    let e : c.x.inside.s ≡ c.args.x.s = ap (λ (t : Interval). t.s) c.x.view_is in
    let f : c.y.inside.s ≡ c.args.y.s = ap (λ (t : Interval). t.s) c.y.view_is in
    let p = c.requires.exponent in
    let q = c.requires.other_exponent in
    let a : SFits w32 c.x.inside.s = omega (arith, ints) in
    let b : SFits w32 c.y.inside.s = omega (arith, ints) in
    let g : c.exponent_gap-d.result ≡ int_gap c.x.inside.s c.y.inside.s = simp to_z-of_z at c.exponent_gap-d.ensures.equals in
    g ∙ rw (e, f)

lift_is : (c : After-raise_end-upper_hi) → c.min-m.result ≡ lift c.args.x c.args.y
lift_is c = c.min-m.ensures ∙ ap (λ n. min n 60) (gap_is c)

surplus_is : (c : After-raise_end-upper_hi) → c.exponent_gap-d.result - c.min-m.result ≡ surplus c.args.x c.args.y
surplus_is c =
    let m : c.min-m.result ≡ min c.exponent_gap-d.result 60 = c.min-m.ensures in
    let e : c.exponent_gap-d.result - c.min-m.result ≡ c.exponent_gap-d.result - 60 = omega arith in
    e ∙ ap (λ n. n - 60) (gap_is c)

lower_lo_is : (c : After-raise_end-upper_hi) → to_z w128 (of_z w128 c.floor_shift-lower_lo.result) ≡ floor_div c.args.x.lo (2 ^ surplus c.args.x c.args.y)
lower_lo_is c =
    shifted (λ z n. floor_div z (2 ^ n)) _ _ _ _ _ (small_narrow _ c.x.invariant.lo_small) (record { sfits = c.floor_shift-lower_lo.type_inv }) c.floor_shift-lower_lo.ensures.equals (ap (λ (t : Interval). t.lo) c.x.view_is) (surplus_is c)

lower_hi_is : (c : After-raise_end-upper_hi) → to_z w128 (of_z w128 c.ceil_shift-lower_hi.result) ≡ ceil_div c.args.x.hi (2 ^ surplus c.args.x c.args.y)
lower_hi_is c =
    shifted (λ z n. ceil_div z (2 ^ n)) _ _ _ _ _ (small_narrow _ c.x.invariant.hi_small) (record { sfits = c.ceil_shift-lower_hi.type_inv }) c.ceil_shift-lower_hi.ensures.equals (ap (λ (t : Interval). t.hi) c.x.view_is) (surplus_is c)

upper_lo_is : (c : After-raise_end-upper_hi) → to_z w128 (of_z w128 c.raise_end-upper_lo.result) ≡ c.args.y.lo *ℤ pos (2 ^ lift c.args.x c.args.y)
upper_lo_is c =
    shifted (λ z n. z *ℤ pos (2 ^ n)) _ _ _ _ _ (small_narrow _ c.y.invariant.lo_small) (record { sfits = c.raise_end-upper_lo.type_inv }) c.raise_end-upper_lo.ensures.equals (ap (λ (t : Interval). t.lo) c.y.view_is) (lift_is c)

upper_hi_is : (c : After-raise_end-upper_hi) → to_z w128 (of_z w128 c.raise_end-upper_hi.result) ≡ c.args.y.hi *ℤ pos (2 ^ lift c.args.x c.args.y)
upper_hi_is c =
    shifted (λ z n. z *ℤ pos (2 ^ n)) _ _ _ _ _ (small_narrow _ c.y.invariant.hi_small) (record { sfits = c.raise_end-upper_hi.type_inv }) c.raise_end-upper_hi.ensures.equals (ap (λ (t : Interval). t.hi) c.y.view_is) (lift_is c)

x_ordered : (c : After-raise_end-upper_hi) → c.args.x.lo ≤ℤ c.args.x.hi
x_ordered c = rw (← c.x.view_is) c.x.invariant.ordered

y_ordered : (c : After-raise_end-upper_hi) → c.args.y.lo ≤ℤ c.args.y.hi
y_ordered c = rw (← c.y.view_is) c.y.invariant.ordered

pub returns : goal.returns
returns c =
    let d = (goal.at.returns c).After-raise_end-upper_hi in
    let e : c.x.inside.s ≡ c.args.x.s = ap (λ (t : Interval). t.s) c.x.view_is in
    let b = c.exponent_gap-d.ensures.bound in
    record {
      lower_lo = lower_lo_is d;
      lower_hi = lower_hi_is d;
      upper_lo = upper_lo_is d;
      upper_hi = upper_hi_is d;
      exponent = exponent_sum c.x.inside.s c.args.x.s (c.exponent_gap-d.result - c.min-m.result) e c.requires.exponent (omega arith) ∙ (ap (λ z. z +ℤ pos (c.exponent_gap-d.result - c.min-m.result)) e ∙ ap (λ n. c.args.x.s +ℤ pos n) (surplus_is d));
      lower_ordered = rw (lower_lo_is d, lower_hi_is d) (ordered_quotients c.args.x.lo c.args.x.hi (2 ^ surplus c.args.x c.args.y) (pow_pos (surplus c.args.x c.args.y)) (x_ordered d));
      upper_ordered = rw (upper_lo_is d, upper_hi_is d) (le-mul c.args.y.lo c.args.y.hi (pos (2 ^ lift c.args.x c.args.y)) (omega (arith, ints)) (y_ordered d));
      lower_lo_small = search rules;
      lower_hi_small = search rules;
      upper_lo_bound = search rules;
      upper_hi_bound = search rules;
      exponent_bound = shift_bound c.x.inside.s c.args.x.s (c.exponent_gap-d.result - c.min-m.result) e c.requires.exponent (omega arith);
    }
