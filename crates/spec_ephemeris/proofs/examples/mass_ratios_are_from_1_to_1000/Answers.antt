use Rattle.std.proofs.Common.{arith}
use Rattle.std.proofs.lemmas.Int.{ints}
use Rattle.spec_ephemeris.proofs.examples.mass_ratios_are_from_1_to_1000.Goals as goal

pub returns-clause-least : goal.returns-clause-least
returns-clause-least c = record { least = omega (arith, ints); greatest = omega (arith, ints) }

pub returns-clause-too_small : goal.returns-clause-too_small
returns-clause-too_small c = λ ratio. let least = ratio.least in omega (arith, ints, least)

pub returns-clause-greatest : goal.returns-clause-greatest
returns-clause-greatest c = record { least = omega (arith, ints); greatest = omega (arith, ints) }

pub returns-clause-too_great : goal.returns-clause-too_great
returns-clause-too_great c = λ ratio. let greatest = ratio.greatest in omega (arith, ints, greatest)
