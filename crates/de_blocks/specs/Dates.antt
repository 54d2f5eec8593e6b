-- The dates of a block that was begun, and what is known of a number after the others.
use Rattle.std.specs.Prelude.{◌≡◌, List, [], ◌∷◌, ◌++◌, IfOk, Result, Ok, Err}
use Rattle.spec_text.specs.declared.decimals.Decimal.{Decimal}
use Rattle.spec_ephemeris.specs.Ephemeris.{Ephemeris}
use Rattle.spec_files.specs.declared.rules.BrokenRule.{BrokenRule}
use Rattle.spec_files.specs.Sections.{◌>>=◌}
use Rattle.spec_files.specs.BlockRules.{time_of, value_rule}
use Rattle.de_blocks.specs.declared.dates.Dates.{Dates}
use Rattle.de_blocks.specs.declared.dates.RuledNumber.{RuledNumber}

-- the times of the dates that these numbers begin with
abbrev pub AreDates : List Decimal → Dates → Type 0
AreDates [] dates = Unit {0}
AreDates (first ∷ []) dates = time_of first ≡ Ok dates.start
AreDates (first ∷ second ∷ rest) dates = (time_of first ≡ Ok dates.start) × (time_of second ≡ Ok dates.end)

-- whether a rule is met, without what comes of it
abbrev pub met : {A : Type 0} → Result A BrokenRule → Result (Unit {0}) BrokenRule
met (Ok x) = Ok tt
met (Err b) = Err b

-- a number meets its rule after the others, and these are the dates with it; or it breaks the rule
pub record AreRuled (before : Ephemeris) (numbers : List Decimal) (d : Decimal) (result : Result Dates BrokenRule) : Type 0 where
  pub rule : met result ≡ value_rule before numbers d
  pub dates : IfOk result (λ dates. AreDates (numbers ++ d ∷ []) dates)

-- the number of a word
abbrev pub number_in : Result RuledNumber BrokenRule → Result Decimal BrokenRule
number_in (Ok ruled) = Ok ruled.number
number_in (Err b) = Err b

-- a number as the one after these
abbrev pub ruled_by : Ephemeris → List Decimal → Decimal → Result Decimal BrokenRule
ruled_by before numbers d = value_rule before numbers d >>= λ meets. Ok d
