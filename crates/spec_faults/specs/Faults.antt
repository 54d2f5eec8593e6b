-- How a fault is reported: the table of all faults, looked up by number.
use Rattle.std.specs.Prelude.{ℕ, ◌==◌, ◌&&◌, nat_lt, Bool, true, List, [], ◌∷◌, map, Option, None, Some, if◌then◌else◌}
use Rattle.std.specs.Borrow.{Bor}
use Rattle.spec_faults.specs.declared.table.TheConstants.{FAULTS}

-- one kind of fault: its number, its name, and whether a detail is printed after the name
pub record Kind : Type 0 where
  pub number : ℕ
  pub name : List ℕ
  pub has_detail : Bool

-- the table
abbrev pub kinds : List Kind
kinds = map (λ row. record { number = row.0; name = row.1.now; has_detail = row.2 }) FAULTS

-- rows of the table as code reads them
abbrev pub kinds_of : List (ℕ × Bor (List ℕ) × Bool) → List Kind
kinds_of rows = map (λ row. record { number = row.0; name = row.1.now; has_detail = row.2 }) rows

-- the first of these kinds with this number
abbrev pub kind_among : List Kind → ℕ → Option Kind
kind_among [] number = None
kind_among (kind ∷ kinds) number = if kind.number == number then Some kind else kind_among kinds number

-- the kind of fault with this number, where the table has a row for it
unfoldable pub fault_kind : ℕ → Option Kind
fault_kind number = kind_among kinds number

-- the numbers of these kinds rise, and lie above this one
abbrev pub rise_from : ℕ → List Kind → Bool
rise_from number [] = true
rise_from number (kind ∷ kinds) = nat_lt number kind.number && rise_from kind.number kinds
