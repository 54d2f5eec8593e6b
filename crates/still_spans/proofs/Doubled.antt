-- Units of one power of 2 in a number of units of another, and the steps that a margin allows.
use Rattle.std.proofs.Common.{◌≡◌, ℕ, ◌+◌, ◌*◌, ◌^◌, ◌≤◌, Option, None, Some, [], ◌∷◌, ℤ, pos, ◌-ℤ◌, ◌*ℤ◌, ◌≤ℤ◌, arith, sym, ap, ◌∙◌}
use Rattle.std.specs.Prelude.{IfSome}
use Rattle.std.proofs.lemmas.Int.{ints}
use Rattle.std.proofs.lemmas.Nat.{pow-add}
use Rattle.std.proofs.Math.Nat.{mul-le-mul_left, mul-le-mul_right}
use Rattle.std.proofs.Math.Pow.{pow_mono}
use borrow.Author.Differences.{up, down}
use Rattle.spec_numbers.proofs.Order.{lin, le-mul}
use Rattle.spec_numbers.proofs.Ring.{v, k as lit, ◌⊗◌, ring}
use Rattle.spec_intervals.specs.Fraction.{Fraction}
use Rattle.spec_intervals.specs.Interval.{Interval}
use Rattle.spec_models.specs.Bounds.{Bound}
use Rattle.spec_models.specs.Ends.{NoMore, greatest_end, in_units, size}
use Rattle.spec_stills.specs.Margins.{StepsFit, multiple}

three_powers : (a b c : ℕ) → 2 ^ (a + b + c) ≡ 2 ^ a * 2 ^ b * 2 ^ c
three_powers a b c = pow-add 2 (a + b) c ∙ ap (λ n. n * 2 ^ c) (pow-add 2 a b)

-- doubled, no more often than the unit is finer
raised : (size k : ℕ) (exponent unit : ℤ) → pos k ≤ℤ (exponent -ℤ unit)
    → size * 2 ^ k * 2 ^ up unit * 2 ^ down exponent ≤ size * 2 ^ up exponent * 2 ^ down unit
raised size k exponent unit within =
    let sums : k + up unit + down exponent ≤ up exponent + down unit = omega (arith, lin, within) in
    let powers : 2 ^ k * 2 ^ up unit * 2 ^ down exponent ≤ 2 ^ up exponent * 2 ^ down unit =
    rw (← three_powers k (up unit) (down exponent), ← pow-add 2 (up exponent) (down unit)) (pow_mono sums) in
    omega (arith, mul-le-mul_left size powers)

pub units_doubled : (n size k : ℕ) (exponent unit : ℤ) → pos k ≤ℤ (exponent -ℤ unit) → n ≡ size * 2 ^ k
    → NoMore (in_units (pos n) unit) (in_units (pos size) exponent)
units_doubled n size k exponent unit within is =
    rw is (omega (arith, ints, raised size k exponent unit within))

-- halved, as often as the unit is coarser
pub units_halved : (n size k : ℕ) (exponent unit : ℤ) → pos k ≡ unit -ℤ exponent → n * 2 ^ k ≤ size
    → NoMore (in_units (pos n) unit) (in_units (pos size) exponent)
units_halved n size k exponent unit apart less =
    let sums : up unit + down exponent ≡ k + up exponent + down unit = omega (arith, lin, apart) in
    let powers : 2 ^ up unit * 2 ^ down exponent ≡ 2 ^ k * 2 ^ up exponent * 2 ^ down unit =
    sym (pow-add 2 (up unit) (down exponent)) ∙ (ap (λ n. 2 ^ n) sums ∙ three_powers k (up exponent) (down unit)) in
    let left : n * (2 ^ up unit * 2 ^ down exponent) ≡ n * (2 ^ k * 2 ^ up exponent * 2 ^ down unit) = ap (λ m. n * m) powers in
    let right : n * 2 ^ k * (2 ^ up exponent * 2 ^ down unit) ≤ size * (2 ^ up exponent * 2 ^ down unit) =
    mul-le-mul_right (2 ^ up exponent * 2 ^ down unit) less in
    omega (arith, ints, left, right)

-- so many steps, and one more, of which nearly twice a number of units are enough
pub steps_fit : (step : Interval) (units nearly few : ℕ) (g : Fraction) → NoMore (in_units (pos units) step.s) g → 16 * nearly ≤ 31 * units
    → greatest_end step * (few + 1) ≤ nearly → NoMore (multiple (16 * (few + 1)) (size step)) (multiple 31 g)
steps_fit step units nearly few g within twice small =
    let all : greatest_end step * (16 * (few + 1)) ≤ units * 31 = omega (arith, twice, small) in
    let more = mul-le-mul_right (2 ^ up step.s * g.denominator) all in
    let most = le-mul (pos units *ℤ pos (2 ^ up step.s) *ℤ pos g.denominator) (g.numerator *ℤ pos (2 ^ down step.s)) (pos 31)
    (omega (arith, lin)) within in
    let e = ring (g.numerator ∷ pos (2 ^ down step.s) ∷ []) (v 0 ⊗ lit (pos 31) ⊗ v 1) (v 0 ⊗ v 1 ⊗ lit (pos 31)) tt in
    omega (arith, ints, most, e, more)

pub steps_if : (p : Bound) (g : Fraction) (units nearly : ℕ) (found : Option ℕ) → NoMore (in_units (pos 1024) p.range.s) g → NoMore (in_units (pos units) p.step.s) g
    → 16 * nearly ≤ 31 * units → IfSome found (λ few. greatest_end p.step * (few + 1) ≤ nearly) → IfSome found (λ few. StepsFit p few g)
steps_if p g units nearly None fine within twice small = small
steps_if p g units nearly (Some few) fine within twice small =
    record { steps = steps_fit p.step units nearly few g within twice small; unit = fine }
