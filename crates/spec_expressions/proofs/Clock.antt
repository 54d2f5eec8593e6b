-- Leaves whose value is the time itself are enclosed.
use Rattle.std.proofs.Common.{ℕ, ◌^◌, ◌≤◌, arith, ℤ, pos, ◌≤ℤ◌, unsigned_abs}
use Rattle.std.proofs.lemmas.Int.{ints}
use Rattle.spec_numbers.proofs.Order.{lin}
use Rattle.spec_intervals.proofs.Narrow.{Holds-narrow}
use Rattle.spec_intervals.specs.Interval.{narrow}
use Rattle.spec_intervals.specs.Fraction.{Holds, fraction}
use Rattle.spec_intervals.specs.Enclosure.{IsEnclosure, AllFractions, IsSpan, AllWithin, IsWithin, middle, change}
use Rattle.spec_intervals.proofs.Centred.{middle_between}
use Rattle.spec_intervals.proofs.Exponents.{narrow-within}
use Rattle.spec_expressions.specs.ExpressionExamples.{clock, clock_over}
use Rattle.spec_expressions.specs.Term.{Leaf}

holds-whole : (lo hi t : ℤ) → lo ≤ℤ t → t ≤ℤ hi → Holds (narrow lo hi (pos 0)) (fraction t 1)
holds-whole lo hi t p q = Holds-narrow lo hi (pos 0) (fraction t 1) (omega (arith, ints)) (omega (arith, ints))

one_step : (t : ℤ) → Holds (narrow (pos 1) (pos 1) (pos 0)) (change (λ t. fraction t 1) t)
one_step t = Holds-narrow (pos 1) (pos 1) (pos 0) (change (λ t. fraction t 1) t) (omega (arith, ints)) (omega (arith, ints))

pub IsEnclosure-clock : (leaf : Leaf) (a b : ℤ) → IsEnclosure (clock leaf) a b (clock_over a b leaf)
IsEnclosure-clock leaf a b =
    record { mid = holds-whole (middle a b) (middle a b) (middle a b) (omega (arith, lin)) (omega (arith, lin)); range = λ t p q. holds-whole a b t p q; step = λ t p q. one_step t }

pub AllFractions-clock : (leaf : Leaf) (a b : ℤ) → AllFractions (clock leaf) a b
AllFractions-clock leaf a b t p q = omega arith

within-whole : (n : ℕ) (lo hi : ℤ) → unsigned_abs lo ≤ 2 ^ 50 → unsigned_abs hi ≤ 2 ^ 50 → IsWithin n (narrow lo hi (pos 0))
within-whole n lo hi p q = narrow-within 0 n lo hi (pos 0) (omega arith) (omega arith) (omega (arith, ints)) (omega (arith, ints))

between_small : (a m b : ℤ) → unsigned_abs a ≤ 2 ^ 50 → unsigned_abs b ≤ 2 ^ 50 → a ≤ℤ m → m ≤ℤ b → unsigned_abs m ≤ 2 ^ 50
between_small a m b p q r s = omega (arith, ints)

pub AllWithin-clock : (n : ℕ) (leaf : Leaf) (a b : ℤ) → IsSpan a b → AllWithin n (clock_over a b leaf)
AllWithin-clock n leaf a b s =
    let w = middle_between a b s.ordered in
    let m = between_small a (middle a b) b s.first_near s.last_near w.0 w.1 in
    record { mid = within-whole n (middle a b) (middle a b) m m; range = within-whole n a b s.first_near s.last_near; step = within-whole n (pos 1) (pos 1) (omega arith) (omega arith) }
