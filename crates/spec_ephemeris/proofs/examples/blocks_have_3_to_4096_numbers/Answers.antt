use Rattle.std.proofs.Common.{refl, arith, pos}
use Rattle.std.proofs.lemmas.Int.{ints}
use Rattle.spec_ephemeris.specs.Header.{IsMassRatio}
use Rattle.spec_ephemeris.specs.Examples.{column, one_column, whole}
use Rattle.spec_ephemeris.proofs.HeaderTest.{passes}
use Rattle.spec_ephemeris.proofs.examples.blocks_have_3_to_4096_numbers.Goals as goal

ratio : IsMassRatio (whole (pos 81))
ratio = record { least = omega (arith, ints); greatest = omega (arith, ints) }

pub returns-clause-fewest : goal.returns-clause-fewest
returns-clause-fewest c = passes (one_column 3 (column 3 0 0)) ratio refl refl

pub returns-clause-too_few : goal.returns-clause-too_few
returns-clause-too_few c = λ header. let fewest = header.fewest in omega (arith, fewest)

pub returns-clause-most : goal.returns-clause-most
returns-clause-most c = passes (one_column 4096 (column 3 2 1)) ratio refl refl

pub returns-clause-too_many : goal.returns-clause-too_many
returns-clause-too_many c = λ header. let most = header.most in omega (arith, most)

pub returns-clause-most_coefficients : goal.returns-clause-most_coefficients
returns-clause-most_coefficients c = passes (one_column 98 (column 3 32 1)) ratio refl refl

pub returns-clause-too_many_coefficients : goal.returns-clause-too_many_coefficients
returns-clause-too_many_coefficients c = λ header.
    let few = (header.columns 1 (column 3 33 1) (record { listed = refl; present = refl })).coefficients in omega (arith, few)
