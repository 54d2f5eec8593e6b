-- The signed square of the worked example.
use Rattle.std.proofs.Common.{◌≡◌, refl, arith, ℤ, pos}
use Rattle.spec_numbers.specs.Numbers.{minus}
use Rattle.std.proofs.lemmas.Int.{ints}
use Rattle.spec_intervals.specs.Interval.{interval, narrow, narrow_by, narrow_shift, first_fit, settled, sum, sum_up, product, meet, meet_up, signed_square}
use Rattle.spec_intervals.specs.Fraction.{Holds, fraction}
use Rattle.spec_intervals.specs.Enclosure.{triple, centred, enclosure, twice_size, signed_square_of}
use Rattle.spec_intervals.specs.Examples.{square_before_zero}

pub square_row : square_before_zero ≡ triple (interval (minus 4) (minus 4) (pos 0)) (interval (minus 9) (minus 1) (pos 0)) (interval (pos 0) (pos 6) (pos 0))
unfolding signed_square_of enclosure centred twice_size signed_square sum sum_up product meet meet_up narrow narrow_by narrow_shift first_fit settled
square_row = refl

range_holds : (z : ℤ) → Holds (interval (minus 9) (minus 1) (pos 0)) (fraction z 1) → Holds square_before_zero.range (fraction z 1)
range_holds z h = rw square_row h

step_holds : (z : ℤ) → Holds (interval (pos 0) (pos 6) (pos 0)) (fraction z 1) → Holds square_before_zero.step (fraction z 1)
step_holds z h = rw square_row h

pub holds-first : Holds square_before_zero.range (fraction (minus 9) 1)
holds-first = range_holds (minus 9) (record { low = omega (arith, ints); high = omega (arith, ints) })

pub holds-last : Holds square_before_zero.range (fraction (minus 1) 1)
holds-last = range_holds (minus 1) (record { low = omega (arith, ints); high = omega (arith, ints) })

pub holds-first_change : Holds square_before_zero.step (fraction (pos 5) 1)
holds-first_change = step_holds (pos 5) (record { low = omega (arith, ints); high = omega (arith, ints) })

pub holds-second_change : Holds square_before_zero.step (fraction (pos 3) 1)
holds-second_change = step_holds (pos 3) (record { low = omega (arith, ints); high = omega (arith, ints) })
