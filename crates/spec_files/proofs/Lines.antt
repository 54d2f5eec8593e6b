-- Accepted lines are a checked ephemeris.
use Rattle.std.proofs.Common.{◌<◌, List, Result, Ok, Err, sym, subst, ◌≤ℤ◌}
use Rattle.spec_ephemeris.specs.declared.header.Header.{Header}
use Rattle.spec_ephemeris.specs.declared.limits.TheConstants.{LONGEST_BLOCK}
use Rattle.spec_ephemeris.specs.Ephemeris.{Ephemeris, IsEphemeris}
use Rattle.spec_ephemeris.specs.Ticks.{IsInSeconds}
use Rattle.spec_files.specs.HeaderLines.{header}
use Rattle.spec_files.proofs.AcceptedHeaders.{accepted_header, accepted_length}
use Rattle.spec_files.specs.Sections.{FileLine}
use Rattle.spec_files.proofs.Holding.{Holds, holds_also, then_any}
use Rattle.spec_files.specs.Blocks.{blocks, no_blocks}
use Rattle.spec_files.proofs.AcceptedBlocks.{blocks_hold}
use Rattle.spec_files.proofs.Blocks.{IsWith}
use Rattle.spec_files.proofs.Ending.{LiesInTime, blocks_lie}
use Rattle.spec_files.specs.Lines.{ephemeris}

-- a checked ephemeris with one block or more
abbrev pub HasBlocks : Ephemeris → Type 0
HasBlocks e = IsEphemeris e × (0 < e.blocks)

-- accepted lines count seconds
pub seconds_hold : (lines : List FileLine) → Holds IsInSeconds (ephemeris lines)
seconds_hold lines =
    then_any IsInSeconds (header lines) _ (λ found is.
    let length = accepted_length lines found.0 found.1 is in
    holds_both (IsWith (no_blocks found.0)) LiesInTime IsInSeconds (blocks found.0 found.1)
    (λ e with lies. record { longest = subst (λ (h : Header). h.block_seconds ≤ℤ LONGEST_BLOCK) (sym with.header) length; first = lies.0.0; last = lies.0.1; end = lies.1 })
    (blocks_hold found.0 found.1 (accepted_header lines found.0 found.1 is)) (blocks_lie found.0 found.1))
  where
    holds_both : {B E : Type 0} (P Q R : B → Type 0) (r : Result B E) → ((x : B) → P x → Q x → R x) → Holds P r → Holds Q r → Holds R r
    holds_both P Q R (Ok x) both one other = both x one other
    holds_both P Q R (Err e) both one other = tt

pub ephemeris_holds : (lines : List FileLine) → Holds HasBlocks (ephemeris lines)
ephemeris_holds lines =
    then_any HasBlocks (header lines) _ (λ found is.
    holds_also (IsWith (no_blocks found.0)) HasBlocks (blocks found.0 found.1) (λ e with. (with.checked, with.some))
    (blocks_hold found.0 found.1 (accepted_header lines found.0 found.1 is)))
