-- What contracts see of the shelf of a call.
use Rattle.std.specs.Prelude.{ℕ, List, Option, None, Some}
use Rattle.std.specs.Borrow.{Bor}
use Rattle.gf_edges.specs.Edges.{Files}

-- its files, and what is left of the open one
pub record CallFiles : Type 0 where
  pub files : Files
  pub left : Option (List ℕ)

abbrev pub left_of : Option (Bor (List ℕ)) → Option (List ℕ)
left_of None = None
left_of (Some bytes) = Some bytes.now
