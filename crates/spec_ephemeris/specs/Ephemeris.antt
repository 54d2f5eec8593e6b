-- The checked ephemeris, the granule of a column at a time, and the borders of granules.
-- Times are whole numbers since J2000 in TDB: of seconds, as they are read, or of ticks.
use Rattle.std.specs.Prelude.{◌≡◌, ◌⊎◌, ℕ, suc, ◌+◌, ◌-◌, ◌*◌, ◌<◌, ◌≤◌, List, [], ◌++◌, length, take, drop, slice_get, Contains, Option, None, Some, ℤ, pos, ◌+ℤ◌, ◌-ℤ◌, ◌*ℤ◌, ◌≤ℤ◌, ◌<ℤ◌, unsigned_abs}
use Rattle.spec_text.specs.declared.decimals.Decimal.{Decimal}
use Rattle.spec_ephemeris.specs.declared.header.Column.{Column}
use Rattle.spec_ephemeris.specs.declared.header.Header.{Header}
use Rattle.spec_ephemeris.specs.declared.limits.TheConstants.{BODY_COLUMNS, MAX_BLOCKS, FIRST_TICK, LAST_TICK}
use Rattle.spec_ephemeris.specs.Header.{IsColumn, IsHeader, Takes, granule_size}
use Rattle.spec_ephemeris.specs.Series.{Series, IsCoefficient, IsInUnits}

-- the header, the time at which the first block begins, and the blocks: their count, and the numbers of one after the
-- other
pub record Ephemeris : Type 0 where
  pub header : Header
  pub start : ℤ
  pub blocks : ℕ
  pub numbers : List Decimal

-- an ephemeris that has no block yet
abbrev pub empty_ephemeris : Header → ℤ → Ephemeris
empty_ephemeris h start = record { header = h; start = start; blocks = 0; numbers = [] }

-- one block more, at the end
abbrev pub with_block : Ephemeris → List Decimal → Ephemeris
with_block e block = record { header = e.header; start = e.start; blocks = e.blocks + 1; numbers = e.numbers ++ block }

-- blocks follow one another, and the last ends here
abbrev pub end_of : Ephemeris → ℤ
end_of e = e.start +ℤ (pos e.blocks *ℤ e.header.block_seconds)

-- the numbers of a block; the first is block 0
abbrev pub block_numbers : Ephemeris → ℕ → List Decimal
block_numbers e block = take e.header.ncoeff (drop (block * e.header.ncoeff) e.numbers)

-- ---- what is checked of the numbers
abbrev pub IsStart : ℤ → Type 0
IsStart start = (FIRST_TICK ≤ℤ start) × (start ≤ℤ LAST_TICK)

-- a coefficient of a body is below 2^36 km in size, and its exponent is at least -140
pub record IsBodyNumber (d : Decimal) : Type 0 where
  pub small : IsCoefficient d
  pub in_units : IsInUnits d

-- each number of a block at a place of a column of a body is such a coefficient
abbrev pub AreBodiesBounded : Header → List Decimal → Type 0
AreBodiesBounded h block = (number place : ℕ) (c : Column) (d : Decimal) → IsColumn h number c → number ≤ BODY_COLUMNS
    → Takes number c (suc place) → slice_get block place ≡ Some d → IsBodyNumber d

-- a block of the header's kind
pub record IsBlock (h : Header) (block : List Decimal) : Type 0 where
  pub whole : length block ≡ h.ncoeff
  pub bodies : AreBodiesBounded h block

pub record IsEphemeris (e : Ephemeris) : Type 0 where
  pub header : IsHeader e.header
  pub start : IsStart e.start
  pub few : e.blocks ≤ MAX_BLOCKS
  pub whole : length e.numbers ≡ e.blocks * e.header.ncoeff
  pub bodies : (block : ℕ) → block < e.blocks → AreBodiesBounded e.header (block_numbers e block)

-- ---- granules
-- a granule begins at `start` and takes `duration`; its coefficients stand axis after axis, each from T_0 on
pub record Granule : Type 0 where
  pub start : ℤ
  pub duration : ℕ
  pub coefs : List Decimal

-- the numbers of a column's granule in a block; `inner` counts the block's granules from 0, and places count from 1
abbrev pub granule_numbers : ℕ → Column → ℕ → List Decimal → List Decimal
granule_numbers number c inner block = take (granule_size number c) (drop (c.start - 1 + inner * granule_size number c) block)

-- a granule of the column: the granules of a block share its time, in order, and follow those of the block before
pub record IsGranule (e : Ephemeris) (number : ℕ) (g : Granule) : Type 0 where
  pub column : Column
  pub is : IsColumn e.header number column
  pub block : ℕ
  pub of_ephemeris : block < e.blocks
  pub inner : ℕ
  pub of_block : inner < column.granules
  pub shares : e.header.block_seconds ≡ pos (g.duration * column.granules)
  pub start : g.start ≡ e.start +ℤ pos ((block * column.granules + inner) * g.duration)
  pub coefs : g.coefs ≡ granule_numbers number column inner (block_numbers e block)

abbrev pub granule_end : Granule → ℤ
granule_end g = g.start +ℤ pos g.duration

-- the granule of a time: a time at which a granule begins belongs to that granule, and the last time of all to the last
pub record IsGranuleAt (e : Ephemeris) (number : ℕ) (t : ℤ) (g : Granule) : Type 0 where
  pub granule : IsGranule e number g
  pub from : g.start ≤ℤ t
  pub upto : (t <ℤ granule_end g) ⊎ ((t ≡ granule_end g) × (t ≡ end_of e))

-- the series of one axis, counted from 0, of a granule with n coefficients an axis
abbrev pub axis_series : Granule → ℕ → ℕ → Series
axis_series g n axis = record { start = g.start; duration = g.duration; coefficients = take n (drop (axis * n) g.coefs) }

-- ---- borders
-- a border of a column is the start of any of its granules but the first
pub record IsBorder (e : Ephemeris) (number : ℕ) (t : ℤ) : Type 0 where
  pub granule : Granule
  pub is : IsGranule e number granule
  pub begins : granule.start ≡ t
  pub later : e.start <ℤ t

-- a border of one of the columns in (a, b]
pub record IsBorderIn (e : Ephemeris) (columns : List ℕ) (a b t : ℤ) : Type 0 where
  pub number : ℕ
  pub listed : Contains columns number
  pub border : IsBorder e number t
  pub after : a <ℤ t
  pub upto : t ≤ℤ b

-- twice the distance from the middle of a and b
abbrev pub off_middle : ℤ → ℤ → ℤ → ℕ
off_middle a b t = unsigned_abs ((pos 2 *ℤ t) -ℤ (a +ℤ b))

-- t is nearer to the middle than s, or as near and no later
abbrev pub IsPreferred : ℤ → ℤ → ℤ → ℤ → Type 0
IsPreferred a b t s = (off_middle a b t < off_middle a b s) ⊎ ((off_middle a b t ≡ off_middle a b s) × (t ≤ℤ s))

-- of the times with P the one that is nearest to the middle of a and b, the smaller of two; none where none has P
abbrev pub IsNearest : (ℤ → Type 0) → ℤ → ℤ → Option ℤ → Type 0
IsNearest P a b None = (s : ℤ) → P s → ⊥
IsNearest P a b (Some t) = P t × ((s : ℤ) → P s → IsPreferred a b t s)

-- the border of the columns in (a, b] that is nearest to the middle
abbrev pub IsNearestBorder : Ephemeris → List ℕ → ℤ → ℤ → Option ℤ → Type 0
IsNearestBorder e columns a b = IsNearest (IsBorderIn e columns a b) a b
