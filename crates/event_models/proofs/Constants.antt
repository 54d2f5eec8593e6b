-- What constants are read as has its ends in order.
use Rattle.std.proofs.Common.{arith, ℤ}
use Rattle.std.proofs.lemmas.Int.{ints}
use Rattle.spec_numbers.proofs.Floor.{ordered_quotients}
use Rattle.spec_numbers.proofs.Order.{lin}
use Rattle.spec_text.specs.declared.decimals.Decimal.{Decimal}
use Rattle.spec_intervals.specs.Interval.{decimal_bottom, decimal_top, from_decimal, zero_interval}
use Rattle.spec_intervals.proofs.Decimals.{bottom_pos}
use Rattle.spec_models.specs.Ends.{IsOrdered}
use Rattle.spec_bodies.specs.declared.factor.Factor.{Factor}
use Rattle.spec_bodies.specs.Meanings.{factor, factor_interval}
use Rattle.spec_bodies.proofs.Formulas.{IsFraction-factor}

pub zero_ordered : IsOrdered zero_interval
zero_ordered = omega (arith, ints)

pub decimal_ordered : (m q s : ℤ) → IsOrdered (from_decimal m q s)
unfolding from_decimal
decimal_ordered m q s = ordered_quotients (decimal_top m q s) (decimal_top m q s) (decimal_bottom q s) (bottom_pos q s) (omega (arith, lin))

pub factor_ordered : (ratio : Decimal) (f : Factor) → IsOrdered (factor_interval (factor ratio f))
unfolding factor_interval
factor_ordered ratio f = ordered_quotients _ _ (factor ratio f).denominator (IsFraction-factor ratio f) (omega (arith, lin))
