-- The files of a shelf in memory, by their places.
use Rattle.std.specs.Prelude.{ℕ, zero, suc, List, [], ◌∷◌, Option, None, Some, String, Vec, string_bytes, drop}
use Rattle.std.specs.declared.alloc.Global.{Global}
use Rattle.gf_edges.specs.declared.memory_shelf.Place.{Place}
use Rattle.gf_edges.specs.Edges.{Files}

abbrev pub Kept : Type 0
Kept = List (String Global × Vec ℕ Global)

-- names and bytes
abbrev pub entries : Kept → Files
entries [] = []
entries (entry ∷ rest) = (string_bytes entry.0, entry.1.items) ∷ entries rest

-- the bytes of the entry at an index, none past the end
abbrev pub bytes_at : Kept → ℕ → List ℕ
bytes_at [] i = []
bytes_at (entry ∷ rest) zero = entry.1.items
bytes_at (entry ∷ rest) (suc i) = bytes_at rest i

-- what is left from a place on
abbrev pub left_from : Kept → Option Place → Option (List ℕ)
left_from files None = None
left_from files (Some place) = Some (drop place.at (bytes_at files place.index))
