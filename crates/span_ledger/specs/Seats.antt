-- How contracts see a ledger and its seats.
use Rattle.std.specs.Prelude.{◌≡◌, ◌<◌, ℕ, min, List, [], length, slice_index_or, All}
use Rattle.atomic_table.specs.Seated.{TableId}
use Rattle.spec_trees.specs.declared.book.Booked.{Booked}
use Rattle.spec_trees.specs.declared.tree.Leaf.{Leaf}
use Rattle.spec_pool.specs.declared.ledger.SeatHistory.{SeatHistory}
use Rattle.spec_pool.specs.declared.ledger.LedgerTerms.{LedgerTerms}
use Rattle.spec_pool.specs.declared.ledger.CloseError.{CloseError}
use Rattle.spec_pool.specs.declared.ledger.CloseError.TheVariants.{Missing}
use Rattle.spec_pool.specs.History.{FitsPart, Fresh, part_of}
use Rattle.span_ledger.specs.declared.desk.LedgerSeat.{LedgerSeat}
use Rattle.span_ledger.specs.declared.desk.SpanLedger.{SpanLedger}
use Rattle.span_ledger.specs.Rule.{the_part}

-- the root, the limit and the number of seats
abbrev pub terms : SpanLedger → LedgerTerms
terms ledger = ledger.table.shared.key

-- a seat's number, the entries that it made, the leaves that stood already when it entered them, and the history as it
-- last saw it
abbrev pub part : LedgerSeat → SeatHistory
part seat = the_part seat.raw.me.0.parts

-- which table lies under a ledger, and of which table a seat is
abbrev pub table_of : SpanLedger → TableId
table_of ledger = ledger.table.shared.table_id

abbrev pub seat_table : LedgerSeat → TableId
seat_table seat = seat.raw.table_id

abbrev pub IsSeatOf : SpanLedger → LedgerSeat → Type 0
IsSeatOf ledger seat = seat_table seat ≡ table_of ledger

-- the seat is of the table z, has the number k and has entered nothing
abbrev pub IsMade : TableId → ℕ → LedgerSeat → Type 0
IsMade z k seat = (seat.raw.table_id ≡ z) × (part seat ≡ part_of k [] [] [])

abbrev pub IsNew : SpanLedger → ℕ → LedgerSeat → Type 0
IsNew ledger k seat = IsMade ledger.table.shared.table_id k seat

-- the seats are of the ledger, have their places as numbers and have entered nothing
abbrev pub AreNew : SpanLedger → List LedgerSeat → Type 0
AreNew ledger seats = (k : ℕ) (d : LedgerSeat) → k < length seats → IsNew ledger k (slice_index_or seats k d)

-- what each seat knows fits the history
abbrev pub AllFit : List Booked → List LedgerSeat → Type 0
AllFit log seats = All (λ s. FitsPart log (part s)) seats

-- the two numbers that are reported
abbrev pub IsMissing : ℕ → ℕ → CloseError → Type 0
IsMissing given made (Missing g m) = (g ≡ min given 4294967295) × (m ≡ made)

-- the history lacks the leaf and is shorter than the limit
abbrev pub MayEnter : ℕ → Leaf → List Booked → Type 0
MayEnter limit leaf log = Fresh leaf log × (length log < limit)
