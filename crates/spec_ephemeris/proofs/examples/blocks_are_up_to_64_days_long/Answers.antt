use Rattle.std.proofs.Common.{refl, arith, pos}
use Rattle.std.proofs.lemmas.Int.{ints}
use Rattle.spec_ephemeris.specs.Examples.{de405_of_length}
use Rattle.spec_ephemeris.proofs.HeaderTest.{passes}
use Rattle.spec_ephemeris.proofs.examples.blocks_are_up_to_64_days_long.Goals as goal

pub returns-clause-longest : goal.returns-clause-longest
returns-clause-longest c = passes (de405_of_length (pos 5529600000)) (record { least = omega (arith, ints); greatest = omega (arith, ints) }) refl refl

pub returns-clause-too_long : goal.returns-clause-too_long
returns-clause-too_long c = λ header. let longest = header.longest in omega (arith, ints, longest)

pub returns-clause-no_seconds : goal.returns-clause-no_seconds
returns-clause-no_seconds c = λ seconds. let longest = seconds.longest in omega (arith, ints, longest)
