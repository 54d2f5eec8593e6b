use Rattle.std.specs.Prelude.{All}
use Rattle.spec_ephemeris.specs.Ephemeris.{IsBodyNumber}
use Rattle.value_cases.proofs.building.next_body_numbers.Given as goal

abbrev pub invariant-loop : goal.invariant-loop
invariant-loop l = All IsBodyNumber l.numbers.items
