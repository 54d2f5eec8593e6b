use Rattle.std.proofs.Common.{arith, ◌≡◌, ◌∙◌, ◌^◌, pos, ap, sym, ◌*ℤ◌, ◌≤ℤ◌, unsigned_abs}
use Rattle.std.proofs.lemmas.Int.{ints, to_z-of_z}
use mir.Syntax.{w128}
use mir.Val.{SFits}
use Rattle.spec_numbers.specs.Numbers.{floor_div, ceil_div}
use Rattle.spec_intervals.proofs.DecimalEnds.{whole-low, whole-high, tenths-low, tenths-high, whole-size}
use Rattle.ival_core.proofs.Passing.{kept}
use Rattle.ival_core.proofs.decimals.decimal_ends.Goals as goal
use Rattle.ival_core.proofs.decimals.decimal_ends.Goals.{After-unsigned_abs-n}

scaled_is : (c : After-unsigned_abs-n) → c.shifted_mantissa-scaled.result ≡ c.args.mant *ℤ pos (2 ^ unsigned_abs c.args.s)
scaled_is c =
    let m = c.ranges.mant in
    let s = c.ranges.s in
    let k : c.unsigned_abs-k.result ≡ unsigned_abs c.args.s = simp to_z-of_z at c.unsigned_abs-k.ensures.value in
    let e : c.shifted_mantissa-scaled.result ≡ c.args.mant *ℤ pos (2 ^ c.unsigned_abs-k.result) = simp to_z-of_z at c.shifted_mantissa-scaled.ensures.equals in
    e ∙ ap (λ n. c.args.mant *ℤ pos (2 ^ n)) k

power_is : (c : After-unsigned_abs-n) → c.unsigned_abs-n.result ≡ unsigned_abs c.args.exp
power_is c = let q = c.ranges.exp in simp to_z-of_z at c.unsigned_abs-n.ensures.value

pub times_power_of_ten-end-requires : goal.times_power_of_ten-end-requires
times_power_of_ten-end-requires c =
    let d = (goal.at.times_power_of_ten-end-requires c).After-unsigned_abs-n in
    let q = c.ranges.exp in
    let f : SFits w128 c.shifted_mantissa-scaled.result = record { sfits = c.shifted_mantissa-scaled.type_inv } in
    simp to_z-of_z (rw (scaled_is d, power_is d) (whole-size c.args.mant c.args.exp c.args.s c.requires.below (omega (arith, ints)) c.requires.size))

pub returns-then-exp-ge0 : goal.returns-then-exp-ge0
returns-then-exp-ge0 c =
    let d = (goal.at.returns-then-exp-ge0 c).After-unsigned_abs-n in
    let q = c.ranges.exp in
    let above : pos 0 ≤ℤ c.args.exp = omega (arith, ints) in
    let f : SFits w128 c.shifted_mantissa-scaled.result = record { sfits = c.shifted_mantissa-scaled.type_inv } in
    let e : c.times_power_of_ten-end.result ≡ c.shifted_mantissa-scaled.result *ℤ pos (10 ^ c.unsigned_abs-n.result) = simp to_z-of_z at c.times_power_of_ten-end.ensures in
    let is = kept c.times_power_of_ten-end.result _ (record { sfits = c.times_power_of_ten-end.type_inv }) (rw (scaled_is d, power_is d) at e) in
    record { low = is ∙ sym (whole-low c.args.mant c.args.exp c.args.s c.requires.below above); high = is ∙ sym (whole-high c.args.mant c.args.exp c.args.s c.requires.below above) }

pub returns-else-exp-ge0 : goal.returns-else-exp-ge0
returns-else-exp-ge0 c =
    let d = (goal.at.returns-else-exp-ge0 c).After-unsigned_abs-n in
    let q = c.ranges.exp in
    let f : SFits w128 c.shifted_mantissa-scaled.result = record { sfits = c.shifted_mantissa-scaled.type_inv } in
    let low : c.quotient_ends.result.0 ≡ floor_div c.shifted_mantissa-scaled.result (10 ^ c.unsigned_abs-n.result) = simp to_z-of_z at c.quotient_ends.ensures.low in
    let high : c.quotient_ends.result.1 ≡ ceil_div c.shifted_mantissa-scaled.result (10 ^ c.unsigned_abs-n.result) = simp to_z-of_z at c.quotient_ends.ensures.high in
    record { low = low ∙ rw (scaled_is d, power_is d) (sym (tenths-low c.args.mant c.args.exp c.args.s c.requires.below (omega (arith, ints)))); high = high ∙ rw (scaled_is d, power_is d) (sym (tenths-high c.args.mant c.args.exp c.args.s c.requires.below (omega (arith, ints)))) }
