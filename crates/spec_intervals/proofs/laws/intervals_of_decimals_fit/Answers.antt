use Rattle.std.proofs.Common.{arith, refl, subst}
use Rattle.std.proofs.lemmas.Int.{ints}
use Rattle.spec_intervals.specs.Interval.{IsIval, distance_exponent, cosine_exponent}
use Rattle.spec_intervals.proofs.DecimalEnds.{decimal-IsIval, from_decimal-parts, distance-size, cosine-size}
use Rattle.spec_intervals.proofs.laws.intervals_of_decimals_fit.Goals as goal

pub returns-clause-distance : goal.returns-clause-distance
returns-clause-distance c m q is =
    let size = distance-size m q distance_exponent refl is in
    subst IsIval (from_decimal-parts m q distance_exponent (omega (arith, ints)) size _ _ refl refl) (decimal-IsIval m q distance_exponent (omega (arith, ints)) size)

pub returns-clause-cosine : goal.returns-clause-cosine
returns-clause-cosine c m q is =
    let size = cosine-size m q cosine_exponent refl is in
    subst IsIval (from_decimal-parts m q cosine_exponent (omega (arith, ints)) size _ _ refl refl) (decimal-IsIval m q cosine_exponent (omega (arith, ints)) size)
