-- What a reader says of the lines to come, given what it keeps of the lines before.
use Rattle.std.specs.Prelude.{◌≡◌, ℕ, ◌+◌, ◌<◌, ◌≤◌, ◌∷◌, List, take, Result, Ok, Err, Option, None, Some}
use Rattle.spec_text.specs.Lines.{TokenLine}
use Rattle.spec_text.specs.declared.decimals.Fault.{Fault}
use Rattle.spec_ephemeris.specs.declared.header.Header.{Header}
use Rattle.spec_ephemeris.specs.declared.limits.TheConstants.{MAX_COLUMNS}
use Rattle.spec_files.specs.declared.rules.BrokenRule.{BrokenRule}
use Rattle.spec_faults.specs.declared.numbers.TheConstants.{ENDED}
use Rattle.spec_files.specs.declared.limits.TheConstants.{MAX_CONSTANTS}
use Rattle.spec_files.specs.declared.facts.BlockShape.{BlockShape}
use Rattle.spec_files.specs.declared.facts.Facts.{Facts}
use Rattle.spec_files.specs.HeaderLines.{HeaderOrStop, from_coefficients, from_column_group, from_end_group, from_first_line, from_granules, from_name_count, from_name_group, from_span, from_starts, from_title_group, from_titles, from_value_count, from_value_group, from_values, header_of, names}
use Rattle.spec_files.specs.HeaderRules.{emrat_from}
pub use Rattle.spec_files.specs.FileLines.{line_of}
use Rattle.spec_files.specs.FileLines.{stopped_at}
use Rattle.spec_files.specs.Sections.{FileLine, Stop, ended, breaks, ◌>>=◌, after_words, at_line}
use Rattle.spec_files.specs.declared.errors.ReadError.{ReadError}
use Rattle.spec_files.specs.declared.errors.ReadError.TheVariants as errors
use Rattle.de_header.specs.declared.answers.Step.{Step}
use Rattle.de_header.specs.declared.answers.Step.TheVariants.{More, Done}
use Rattle.de_header.specs.declared.state.State.{State}
use Rattle.de_header.specs.declared.state.State.TheVariants.{First, TitleGroup, Titles, Span, NameGroup, NameCount, Names, ValueGroup, ValueCount, ValuesBefore, ValuesAfter, ColumnGroup, Starts, Coefficients, Granules, EndGroup, Whole, Refused}

-- the place that was found before, or one that was found later
abbrev pub or_else : Option ℕ → Option ℕ → Option ℕ
or_else None later = later
or_else (Some place) later = Some place

-- the rest of a header within its names, of which so many are left, and others are passed
abbrev pub from_more_names : BlockShape → ℕ → ℕ → ℕ → Option ℕ → List FileLine → HeaderOrStop
from_more_names shape count left passed emrat lines = do
  named ← names left lines
  from_value_group shape count (or_else emrat (emrat_from passed named.0)) named.1

-- the rest of a header within its values, after that of EMRAT
abbrev pub from_more_values : Facts → ℕ → List FileLine → HeaderOrStop
from_more_values facts left lines = do
  rest ← after_words ENDED left lines
  from_column_group facts rest

-- what a reader that reads this file says of the lines to come
unfoldable pub says : ℕ → State → List FileLine → HeaderOrStop
says file First lines = from_first_line lines
says file (TitleGroup ncoeff) lines = from_title_group ncoeff lines
says file (Titles ncoeff) lines = from_titles ncoeff lines
says file (Span ncoeff) lines = from_span ncoeff lines
says file (NameGroup shape) lines = from_name_group shape lines
says file (NameCount shape) lines = from_name_count shape lines
says file (Names shape count left passed emrat) lines = from_more_names shape count left passed emrat lines
says file (ValueGroup shape count emrat) lines = from_value_group shape count emrat lines
says file (ValueCount shape count emrat) lines = from_value_count shape count emrat lines
says file (ValuesBefore shape left before) lines = from_values shape left before lines
says file (ValuesAfter facts left) lines = from_more_values facts left lines
says file (ColumnGroup facts) lines = from_column_group facts lines
says file (Starts facts) lines = from_starts facts lines
says file (Coefficients facts count starts) lines = from_coefficients facts (take count starts) lines
says file (Granules facts count starts coefs) lines = from_granules facts (take count starts) (take count coefs) lines
says file (EndGroup facts count columns) lines = from_end_group facts (take count columns) lines
says file (Whole facts count columns) lines = Ok (header_of facts (take count columns), lines)
says file (Refused fault) lines = Err (breaks file fault)

-- the reader stands where this is the rest of a header, in whatever file
abbrev pub IsAt : State → (List FileLine → HeaderOrStop) → Type 0
IsAt state rest_of_header = (file : ℕ) (lines : List FileLine) → says file state lines ≡ rest_of_header lines

-- the new state is that of the old one after this line
abbrev pub HasRead : State → TokenLine → State → Type 0
HasRead old line new = (file : ℕ) (rest : List FileLine) → says file new rest ≡ says file old (line_of file line ∷ rest)

-- where a line meets its rules, the next state says the same; else the first broken rule is the line's
abbrev pub Moves : State → TokenLine → Result State BrokenRule → Type 0
Moves state line (Ok new) = (file : ℕ) (rest : List FileLine) → says file state (line_of file line ∷ rest) ≡ says file new rest
Moves state line (Err broken) =
    (file : ℕ) (rest : List FileLine) → says file state (line_of file line ∷ rest) ≡ at_line file line.number (Err broken)

-- more lines are wanted
abbrev pub IsOpen : State → Type 0
IsOpen (Whole facts count columns) = ⊥
IsOpen (Refused fault) = ⊥
IsOpen state = Unit {0}

abbrev pub IsNotWhole : State → Type 0
IsNotWhole (Whole facts count columns) = ⊥
IsNotWhole state = Unit {0}

abbrev pub IsWhole : State → Type 0
IsWhole (Whole facts count columns) = Unit {0}
IsWhole state = ⊥

abbrev pub IsAfterValues : State → Type 0
IsAfterValues (ColumnGroup facts) = Unit {0}
IsAfterValues (Starts facts) = Unit {0}
IsAfterValues (Coefficients facts count starts) = Unit {0}
IsAfterValues (Granules facts count starts coefs) = Unit {0}
IsAfterValues (EndGroup facts count columns) = Unit {0}
IsAfterValues state = ⊥

abbrev pub IsAfterNames : State → Type 0
IsAfterNames (ValueGroup shape count emrat) = Unit {0}
IsAfterNames (ValueCount shape count emrat) = Unit {0}
IsAfterNames (ValuesBefore shape left before) = Unit {0}
IsAfterNames (ValuesAfter facts left) = Unit {0}
IsAfterNames state = IsAfterValues state

abbrev pub IsRefused : State → Fault → Type 0
IsRefused (Refused kept) fault = kept ≡ fault
IsRefused state fault = ⊥

-- how many counted words are still to come, and how many names are passed
abbrev pub left_of : State → ℕ
left_of (Names shape count left passed emrat) = left
left_of (ValuesAfter facts left) = left
left_of state = 1

abbrev pub passed_of : State → ℕ
passed_of (Names shape count left passed emrat) = passed
passed_of state = 0

-- the count that is kept
abbrev pub count_of : State → ℕ
count_of (Names shape count left passed emrat) = count
count_of (ValueGroup shape count emrat) = count
count_of (ValueCount shape count emrat) = count
count_of (ValuesBefore shape left before) = left
count_of (ValuesAfter facts left) = left
count_of state = 0

-- how many columns there are
abbrev pub columns_of : State → ℕ
columns_of (Coefficients facts count starts) = count
columns_of (Granules facts count starts coefs) = count
columns_of state = 0

-- where words are counted some are still to come, and all counts are within the limits
abbrev pub Fits : State → Type 0
Fits state =
    (0 < left_of state) × (passed_of state + left_of state ≤ MAX_CONSTANTS) × (count_of state ≤ MAX_CONSTANTS) × (columns_of state ≤ MAX_COLUMNS)

-- a fault that is answered is the one that the state keeps
abbrev pub KeepsFault : State → Result Step ReadError → Type 0
KeepsFault state result = (fault : Fault) → result ≡ Err (errors.Fault fault) → IsRefused state fault

-- a fault that was kept is kept and answered again
abbrev pub GivesAgain : State → State → Result Step ReadError → Type 0
GivesAgain old new result = (fault : Fault) → IsRefused old fault → IsRefused new fault × (result ≡ Err (errors.Fault fault))

-- the answer to a line, where this is said of no more lines: that more are wanted, the first fault, or the whole header
abbrev pub answer_of : Stop → Result Step ReadError
answer_of (ended late) = Ok More
answer_of (breaks file fault) = Err (errors.Fault fault)

abbrev pub answer : HeaderOrStop → Result Step ReadError
answer (Ok x) = Ok Done
answer (Err stop) = answer_of stop

abbrev pub IsNotDone : Result Step ReadError → Type 0
IsNotDone (Ok Done) = ⊥
IsNotDone answer = Unit {0}

-- the header of what is said, unless it is out of memory, or the fault of what is said
abbrev pub Ends : ℕ → HeaderOrStop → Result Header ReadError → Type 0
Ends end (Ok x) (Ok header) = header ≡ x.0
Ends end (Err stop) (Err (errors.Fault fault)) = fault ≡ stopped_at end stop
Ends end (Ok x) (Err errors.Memory) = Unit {0}
Ends end said result = ⊥
