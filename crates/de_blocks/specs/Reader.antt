-- What a reader says of the lines to come, given what it keeps of the lines before.
use Rattle.std.specs.Prelude.{◌≡◌, ℕ, ◌<◌, List, [], ◌∷◌, length, Result, Ok, Err}
use Rattle.spec_text.specs.Lines.{TokenLine}
use Rattle.spec_text.specs.declared.decimals.Decimal.{Decimal}
use Rattle.spec_text.specs.declared.decimals.Fault.{Fault}
use Rattle.spec_ephemeris.specs.Ephemeris.{Ephemeris, IsEphemeris}
use Rattle.eph_model.specs.Stores.{Store}
use Rattle.spec_files.specs.Sections.{FileLine, Stop, ended, breaks, ◌>>=◌}
use Rattle.spec_files.specs.Blocks.{blocks_after, further_numbers, with_numbers}
use Rattle.spec_files.specs.Read.{AreRead}
use Rattle.spec_files.specs.FileLines.{line_of, stopped_at}
use Rattle.spec_files.specs.declared.errors.ReadError.{ReadError}
use Rattle.spec_files.specs.declared.errors.ReadError.TheVariants as errors
use Rattle.de_blocks.specs.declared.state.Place.{Place}
use Rattle.de_blocks.specs.declared.state.Place.TheVariants.{Between, Inside, Refused}
use Rattle.de_blocks.specs.Steps.{wanted}

-- the ephemeris, or why the lines are refused
abbrev pub Says : Type 0
Says = Result Ephemeris Stop

-- what a reader keeps: the blocks that it accepted, the numbers of a block that is not whole, and where it stands
pub record Progress : Type 0 where
  pub accepted : Ephemeris
  pub numbers : List Decimal
  pub place : Place

-- the blocks that begin with these lines
abbrev pub from_record : Ephemeris → List FileLine → Says
from_record before lines = blocks_after (length lines) before lines

-- what a block still wants after these numbers, and the blocks after it
abbrev pub from_numbers : Ephemeris → List Decimal → List FileLine → Says
from_numbers before numbers lines = further_numbers before (wanted before numbers) numbers lines >>= λ found. from_record (with_numbers before found.0) found.1

abbrev pub says_at : ℕ → Place → Ephemeris → List Decimal → List FileLine → Says
says_at file Between before numbers lines = from_record before lines
says_at file Inside before numbers lines = from_numbers before numbers lines
says_at file (Refused fault) before numbers lines = Err (breaks file fault)

-- what a reader that reads this file says of the lines to come
unfoldable pub says : ℕ → Progress → List FileLine → Says
says file reader lines = says_at file reader.place reader.accepted reader.numbers lines

-- the reader says this of all lines to come, in whatever file
abbrev pub IsAt : Progress → (List FileLine → Says) → Type 0
IsAt reader rest_of_blocks = (file : ℕ) (lines : List FileLine) → says file reader lines ≡ rest_of_blocks lines

-- the new reader is the old one after this line
abbrev pub HasRead : Progress → TokenLine → Progress → Type 0
HasRead old line new = (file : ℕ) (rest : List FileLine) → says file new rest ≡ says file old (line_of file line ∷ rest)

abbrev pub IsUnrefusedPlace : Place → Type 0
IsUnrefusedPlace (Refused fault) = ⊥
IsUnrefusedPlace place = Unit {0}

-- no fault was met
abbrev pub IsNotRefused : Progress → Type 0
IsNotRefused reader = IsUnrefusedPlace reader.place

-- the first fault was met, and is this one
abbrev pub IsRefused : Progress → Fault → Type 0
IsRefused reader fault = reader.place ≡ Refused fault

abbrev pub numbers_at : Place → List Decimal → List Decimal
numbers_at Inside numbers = numbers
numbers_at place numbers = []

-- numbers are kept within a block alone, where they meet their rules and are too few
pub record Fits (reader : Progress) : Type 0 where
  pub checked : IsEphemeris reader.accepted
  pub kept : numbers_at reader.place reader.numbers ≡ reader.numbers
  pub read : AreRead reader.accepted reader.numbers
  pub few : length reader.numbers < reader.accepted.header.ncoeff

-- the answer to a line, where this is said of no more lines
abbrev pub answer_of : Stop → Result (Unit {0}) ReadError
answer_of (ended late) = Ok tt
answer_of (breaks file fault) = Err (errors.Fault fault)

abbrev pub answer : Says → Result (Unit {0}) ReadError
answer (Ok e) = Ok tt
answer (Err stop) = answer_of stop

abbrev pub IsNotMemory : Result (Unit {0}) ReadError → Type 0
IsNotMemory (Err errors.Memory) = ⊥
IsNotMemory result = Unit {0}

-- a fault that is answered is the one that the reader keeps
abbrev pub KeepsFault : Progress → Result (Unit {0}) ReadError → Type 0
KeepsFault reader result = (fault : Fault) → result ≡ Err (errors.Fault fault) → IsRefused reader fault

-- a fault that was kept is kept and answered again
abbrev pub GivesAgain : Progress → Progress → Result (Unit {0}) ReadError → Type 0
GivesAgain old new result = (fault : Fault) → IsRefused old fault → IsRefused new fault × (result ≡ Err (errors.Fault fault))

-- a line takes a reader from one state to the next, with this answer
pub record Takes (old : Progress) (line : TokenLine) (result : Result (Unit {0}) ReadError) (new : Progress) : Type 0 where
  pub read : IsNotMemory result → HasRead old line new
  pub answers : IsNotMemory result → result ≡ answer (says 0 new [])
  pub goes_on : result ≡ Ok tt → IsNotRefused new
  pub kept : KeepsFault new result
  pub unchanged : result ≡ Err errors.Memory → new ≡ old

-- where the lines end at this number, what is said of no more lines
abbrev pub at_end : ℕ → Says → Result Ephemeris ReadError
at_end end (Ok e) = Ok e
at_end end (Err stop) = Err (errors.Fault (stopped_at end stop))

-- the ephemeris of what is said, or its fault
abbrev pub Ends : ℕ → Says → Result Ephemeris ReadError → Type 0
Ends end said result = result ≡ at_end end said

-- a checked ephemeris with a block
abbrev pub HasBlocks : Ephemeris → Type 0
HasBlocks e = IsEphemeris e × (0 < e.blocks)

-- the ephemeris of the whole blocks of a store, or why there is none
abbrev pub accepted_in : Result Store ReadError → Result Ephemeris ReadError
accepted_in (Ok store) = Ok store.accepted
accepted_in (Err error) = Err error
