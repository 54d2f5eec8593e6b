-- The first of the numbers that are kept of a row.
use Rattle.std.specs.Prelude.{ℕ, List, take, Result, Ok, Err}
use Rattle.spec_files.specs.declared.rules.BrokenRule.{BrokenRule}

-- so many of a list, where there is one
abbrev pub first_of : {X : Type 0} → ℕ → Result (List X) BrokenRule → Result (List X) BrokenRule
first_of count (Ok xs) = Ok (take count xs)
first_of count (Err broken) = Err broken

-- a value whose rules are met
abbrev pub if_met : {X : Type 0} → X → Result (Unit {0}) BrokenRule → Result X BrokenRule
if_met x (Ok met) = Ok x
if_met x (Err broken) = Err broken
