-- The same search by other limits, and over some of the blocks alone.
use Rattle.std.specs.Prelude.{◌≡◌, ◌⊎◌, ℕ, ◌+◌, ◌*◌, ◌≤◌, take, drop, ℤ, ◌<ℤ◌}
use Rattle.spec_ephemeris.specs.Ephemeris.{Ephemeris}
use Rattle.spec_trees.specs.declared.cuts.CutRule.{CutRule}
use Rattle.spec_searches.specs.Search.{Search}
use Rattle.spec_spans.specs.Seams.{block_start}

-- down to another depth, by another rule of the cuts
abbrev pub limited : ℕ → CutRule → Search → Search
limited depth rule s = record s { depth = depth; cut = rule }

-- so many blocks, after those that are skipped
abbrev pub some_blocks : ℕ → ℕ → Ephemeris → Ephemeris
some_blocks skipped count e = record {
  header = e.header;
  start = block_start e skipped;
  blocks = count;
  numbers = take (count * e.header.ncoeff) (drop (skipped * e.header.ncoeff) e.numbers);
}

abbrev pub over_blocks : ℕ → ℕ → Search → Search
over_blocks skipped count s = record s { view = record (s.view) { ephemeris = some_blocks skipped count s.view.ephemeris } }

-- these blocks are there, and with them the block of each time up to the last: a time at a border belongs to the block
-- that begins there, and the end of all blocks to the last
pub record AreBlocksUpTo (e : Ephemeris) (skipped count : ℕ) (last : ℤ) : Type 0 where
  pub there : skipped + count ≤ e.blocks
  pub next : (last <ℤ block_start e (skipped + count)) ⊎ (skipped + count ≡ e.blocks)
