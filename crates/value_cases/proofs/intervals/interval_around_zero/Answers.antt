use Rattle.std.proofs.Common.{◌≡◌, arith, ◌*◌, ◌^◌, ℤ, pos, ◌*ℤ◌, ◌≤ℤ◌, Result, Ok, Err, IfOk, sym, subst}
use borrow.Author.Differences.{up}
use Rattle.std.proofs.lemmas.Int.{ints}
use Rattle.spec_intervals.specs.Interval.{Interval, interval}
use Rattle.spec_intervals.specs.Fraction.{Holds, fraction}
use Rattle.spec_numbers.proofs.Order.{lin, le-mul}
use Rattle.value_cases.proofs.intervals.interval_around_zero.Goals as goal

-- ends on the two sides of 0 hold 0
zero_held : (lo hi s : ℤ) → lo ≤ℤ pos 0 → pos 0 ≤ℤ hi → Holds (interval lo hi s) (fraction (pos 0) 1)
zero_held lo hi s p q =
    let a : (lo *ℤ pos (2 ^ up s * 1)) ≤ℤ (pos 0 *ℤ pos (2 ^ up s * 1)) = le-mul lo (pos 0) (pos (2 ^ up s * 1)) (omega (arith, lin)) p in
    let b : (pos 0 *ℤ pos (2 ^ up s * 1)) ≤ℤ (hi *ℤ pos (2 ^ up s * 1)) = le-mul (pos 0) hi (pos (2 ^ up s * 1)) (omega (arith, lin)) q in
    record { low = omega (arith, ints); high = omega (arith, ints) }

-- what is made of an interval that holds 0, and is that interval, holds 0
kept : {E : Type 0} (result : Result Interval E) (x : Interval) → Holds x (fraction (pos 0) 1) → IfOk result (λ y. y ≡ x)
    → IfOk result (λ y. Holds y (fraction (pos 0) 1))
kept (Ok y) x held same = subst (λ z. Holds z (fraction (pos 0) 1)) (sym same) held
kept (Err e) x held same = same

pub returns-clause-zero : goal.returns-clause-zero
returns-clause-zero c =
    kept c.check_exponent.result c.of.result (c.of.ensures.holds (fraction (pos 0) 1) (zero_held _ _ _ (omega (arith, ints)) (omega (arith, ints)))) c.check_exponent.ensures.same
