-- The roots of the tests' ledgers.
use Rattle.std.specs.Prelude.{◌≡◌, pos}
use Rattle.span_ledger.specs.declared.desk.SpanLedger.{SpanLedger}
use Rattle.span_ledger.specs.Seats.{terms}

-- a thousand seconds for each number of a seat
abbrev pub IsThousands : SpanLedger → Type 0
IsThousands ledger = ((terms ledger).root.a ≡ pos 0) × ((terms ledger).root.b ≡ pos 64000)

-- a hundred seconds
abbrev pub IsHundred : SpanLedger → Type 0
IsHundred ledger = ((terms ledger).root.a ≡ pos 0) × ((terms ledger).root.b ≡ pos 100)
