-- Rows of the table of faults, as laws state them.
use Rattle.std.specs.Prelude.{ℕ, List, Bool}
use Rattle.spec_faults.specs.Faults.{Kind}

-- the kind of fault with this number and name, and whether a detail is printed after the name
abbrev pub row : ℕ → List ℕ → Bool → Kind
row number name has_detail = record { number = number; name = name; has_detail = has_detail }
