use Rattle.std.proofs.Common.{◌≡◌, ◌^◌, arith, ap, ◌∙◌, to_z, of_z, w32, pos, rules, ◌+ℤ◌, ◌≤ℤ◌}
use Rattle.std.proofs.lemmas.Int.{ints, to_z-of_z}
use Rattle.std.specs.Int.{int_gap}
use mir.Syntax.{w128}
use mir.Val.{SFits}
use Rattle.spec_intervals.specs.Interval.{Interval}
use Rattle.spec_numbers.specs.Numbers.{floor_div, ceil_div}
use Rattle.spec_numbers.proofs.Floor.{ordered_quotients}
use Rattle.std.proofs.lemmas.Nat.{pow_pos}
use Rattle.ival_core.proofs.Shifts.{small_narrow, exponent_sum, shift_bound}
use Rattle.ival_core.proofs.Passing.{shifted}
use Rattle.ival_core.proofs.ival.raise_ival.Goals as goal
use Rattle.ival_core.proofs.ival.raise_ival.Goals.{After-ceil_shift-hi}

rise_is : (c : After-ceil_shift-hi) → c.exponent_rise-k.result ≡ int_gap c.args.x.s c.args.s
rise_is c =
    let e : c.x.inside.s ≡ c.args.x.s = ap (λ (t : Interval). t.s) c.x.view_is in
    let p = c.requires.exponent in
    let q = c.requires.other_exponent in
    let a : SFits w32 c.x.inside.s = omega (arith, ints) in
    let b : SFits w32 c.args.s = omega (arith, ints) in
    let g : c.exponent_rise-k.result ≡ int_gap c.x.inside.s c.args.s = simp to_z-of_z at c.exponent_rise-k.ensures.equals in
    g ∙ rw e

lo_is : (c : After-ceil_shift-hi) → to_z w128 (of_z w128 c.floor_shift-lo.result) ≡ floor_div c.args.x.lo (2 ^ int_gap c.args.x.s c.args.s)
lo_is c =
    shifted (λ z n. floor_div z (2 ^ n)) _ _ _ _ _ (small_narrow _ c.x.invariant.lo_small) (record { sfits = c.floor_shift-lo.type_inv }) c.floor_shift-lo.ensures.equals (ap (λ (t : Interval). t.lo) c.x.view_is) (rise_is c)

hi_is : (c : After-ceil_shift-hi) → to_z w128 (of_z w128 c.ceil_shift-hi.result) ≡ ceil_div c.args.x.hi (2 ^ int_gap c.args.x.s c.args.s)
hi_is c =
    shifted (λ z n. ceil_div z (2 ^ n)) _ _ _ _ _ (small_narrow _ c.x.invariant.hi_small) (record { sfits = c.ceil_shift-hi.type_inv }) c.ceil_shift-hi.ensures.equals (ap (λ (t : Interval). t.hi) c.x.view_is) (rise_is c)

x_ordered : (c : After-ceil_shift-hi) → c.args.x.lo ≤ℤ c.args.x.hi
x_ordered c = rw (← c.x.view_is) c.x.invariant.ordered

pub returns : goal.returns
returns c =
    let d = (goal.at.returns c).After-ceil_shift-hi in
    let e : c.x.inside.s ≡ c.args.x.s = ap (λ (t : Interval). t.s) c.x.view_is in
    let b = c.exponent_rise-k.ensures.bound in
    record {
      lo = lo_is d;
      hi = hi_is d;
      exponent = exponent_sum c.x.inside.s c.args.x.s c.exponent_rise-k.result e c.requires.exponent (omega arith) ∙ (ap (λ z. z +ℤ pos c.exponent_rise-k.result) e ∙ ap (λ n. c.args.x.s +ℤ pos n) (rise_is d));
      ordered = rw (lo_is d, hi_is d) (ordered_quotients c.args.x.lo c.args.x.hi (2 ^ int_gap c.args.x.s c.args.s) (pow_pos (int_gap c.args.x.s c.args.s)) (x_ordered d));
      lo_small = search rules;
      hi_small = search rules;
      exponent_bound = shift_bound c.x.inside.s c.args.x.s c.exponent_rise-k.result e c.requires.exponent (omega arith);
    }
