-- The table of kinds: what each is called, and what it is asked with.
use Rattle.std.specs.Prelude.{ℕ, Bool, true, false, List, [], map, get_or}
use Rattle.spec_kinds.specs.declared.kind.Kind.{Kind}
use Rattle.spec_kinds.specs.declared.kind.Kind.TheVariants.{Coord, Radius, Apsis, Conj, Oppo, Station, Sep, SepExt, Any, Full, Annular}
use Rattle.spec_kinds.specs.declared.table.Use.{Use}
use Rattle.spec_kinds.specs.declared.table.Use.TheVariants.{Needed, Optional, Unused}
use Rattle.spec_kinds.specs.declared.table.KindRow.{KindRow}
use Rattle.spec_kinds.specs.declared.table.Range.TheVariants.{Free}
use Rattle.spec_kinds.specs.declared.table.TheConstants.{KINDS}

-- ---- uses

abbrev pub is_needed : Use → Bool
is_needed Needed = true
is_needed Optional = false
is_needed Unused = false

abbrev pub is_unused : Use → Bool
is_unused Needed = false
is_unused Optional = false
is_unused Unused = true

-- ---- rows

-- the names of kinds, each with its row
abbrev pub rows : List (List ℕ × KindRow)
rows = map (λ row. (row.0.now, row.1)) KINDS

-- where the kind stands in the table
abbrev pub place : Kind → ℕ
place Coord = 0
place Radius = 1
place Apsis = 2
place Conj = 3
place Oppo = 4
place Station = 5
place Sep = 6
place SepExt = 7
place Any = 8
place Full = 9
place Annular = 10

-- what a kind past the end of the table would be; there is none
abbrev pub no_row : Kind → KindRow
no_row kind = record {
  kind = kind;
  second = Unused;
  frame = Unused;
  axis = Unused;
  reference = Unused;
  range = Free;
  radii = Unused;
}

abbrev pub named_row : Kind → List ℕ × KindRow
named_row kind = get_or rows (place kind) ([], no_row kind)

abbrev pub row_of : Kind → KindRow
row_of kind = (named_row kind).1

-- ---- what holds for a kind

abbrev pub kind_name : Kind → List ℕ
kind_name kind = (named_row kind).0

-- whether events of the kind are of two bodies
abbrev pub takes_second : Kind → Bool
takes_second kind = is_needed (row_of kind).second

-- whether events of the kind lie between two discs, whose radii are asked for
abbrev pub takes_radii : Kind → Bool
takes_radii kind = is_needed (row_of kind).radii
