use Rattle.std.proofs.Common.{refl, arith, [], ◌∷◌}
use Rattle.std.proofs.lemmas.Int.{ints}
use Rattle.spec_ephemeris.specs.Examples.{column, four_columns, de405, de405_with, de430t}
use Rattle.spec_ephemeris.proofs.HeaderTest.{passes}
use Rattle.spec_ephemeris.proofs.examples.headers_meet_or_break_the_rules.Goals as goal

pub returns-clause-four : goal.returns-clause-four
returns-clause-four c = passes four_columns (record { least = omega (arith, ints); greatest = omega (arith, ints) }) refl refl

pub returns-clause-of_de405 : goal.returns-clause-of_de405
returns-clause-of_de405 c = passes de405 (record { least = omega (arith, ints); greatest = omega (arith, ints) }) refl refl

pub returns-clause-of_de430t : goal.returns-clause-of_de430t
returns-clause-of_de430t c = passes de430t (record { least = omega (arith, ints); greatest = omega (arith, ints) }) refl refl

pub returns-clause-taken_places : goal.returns-clause-taken_places
returns-clause-taken_places c = passes (de405_with (column 3 40 7 ∷ [])) (record { least = omega (arith, ints); greatest = omega (arith, ints) }) refl refl

pub returns-clause-sixteen : goal.returns-clause-sixteen
returns-clause-sixteen c = λ header. let most = header.count.1 in omega (arith, most)

pub returns-clause-two_on_one_place : goal.returns-clause-two_on_one_place
returns-clause-two_on_one_place c = λ header.
    header.apart 1 2 (column 3 2 1) (column 8 2 1) (omega arith) (record { listed = refl; present = refl }) (record { listed = refl; present = refl })
    8 (record { from = omega arith; before = omega arith }) (record { from = omega arith; before = omega arith })
