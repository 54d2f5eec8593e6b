-- The borders of a grid.
use Rattle.std.specs.Prelude.{◌≡◌, ℕ, ◌*◌, ◌<◌, ℤ, pos, ◌+ℤ◌, ◌-ℤ◌, ◌<ℤ◌, ◌≤ℤ◌}
use Rattle.spec_ephemeris.specs.Header.{IsColumn}
use Rattle.spec_ephemeris.specs.Ephemeris.{Ephemeris}
use Rattle.eph_model.specs.declared.grid.Grid.{Grid}

-- twice the middle of a and b, counted from the first granule
abbrev pub twice_middle : Grid → ℤ → ℤ → ℤ
twice_middle g a b = (a -ℤ g.start) +ℤ (b -ℤ g.start)

-- t is the start of the granule of this index, a border in (a, b]
pub record IsBorderAt (g : Grid) (index : ℕ) (a b t : ℤ) : Type 0 where
  pub later : 0 < index
  pub inside : index < g.count
  pub is : t ≡ g.start +ℤ pos (index * g.seconds)
  pub after : a <ℤ t
  pub upto : t ≤ℤ b

-- t is a border of the grid in (a, b]
pub record IsGridBorder (g : Grid) (a b t : ℤ) : Type 0 where
  pub index : ℕ
  pub border : IsBorderAt g index a b t

-- the grid is that of a column of the ephemeris
pub record IsGridOf (e : Ephemeris) (number : ℕ) (g : Grid) : Type 0 where
  pub column : IsColumn e.header number g.column
  pub start : g.start ≡ e.start
  pub shares : e.header.block_seconds ≡ pos (g.seconds * g.column.granules)
  pub count : g.count ≡ e.blocks * g.column.granules
