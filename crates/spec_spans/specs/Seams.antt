-- The times at which a span can be cut so that its parts have the windows of the whole.
use Rattle.std.specs.Prelude.{◌≡◌, ◌⊎◌, ℕ, ◌<◌, ℤ, pos, ◌+ℤ◌, ◌*ℤ◌, ◌<ℤ◌}
use Rattle.spec_ephemeris.specs.Ephemeris.{Ephemeris, IsBorderIn}
use Rattle.spec_bodies.specs.Views.{columns_of}
use Rattle.spec_searches.specs.Search.{Search}

-- a time strictly inside a span that is a border of a column in use, or the tick before one
pub record IsSeam (s : Search) (first last time : ℤ) : Type 0 where
  pub border : ℤ
  pub inside : IsBorderIn s.view.ephemeris (columns_of s.view) first last border
  pub near : (time ≡ border) ⊎ (time +ℤ pos 1 ≡ border)
  pub after : first <ℤ time
  pub before : time <ℤ last

-- the time at which a block begins, the first of which is block 0
abbrev pub block_start : Ephemeris → ℕ → ℤ
block_start e block = e.start +ℤ (pos block *ℤ e.header.block_seconds)

-- a time at which one block ends and the next begins
pub record IsBlockBorder (e : Ephemeris) (time : ℤ) : Type 0 where
  pub block : ℕ
  pub later : 0 < block
  pub within : block < e.blocks
  pub begins : block_start e block ≡ time
