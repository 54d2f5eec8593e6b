-- An ephemeris that is accepted has a block, and counts seconds.
use Rattle.std.proofs.Common.{◌≡◌, ◌<◌, ℕ, List, [], ◌∷◌, Option, None, Some, Result, Ok, Err, subst}
use Rattle.spec_text.specs.declared.decimals.Fault.{Fault}
use Rattle.spec_ephemeris.specs.Ephemeris.{Ephemeris, IsEphemeris}
use Rattle.spec_ephemeris.specs.Ticks.{IsInSeconds}
use Rattle.spec_files.specs.Sections.{Stop, ended, breaks}
use Rattle.spec_files.proofs.Holding.{holds_ok}
use Rattle.spec_files.specs.HeaderLines.{header}
use Rattle.spec_files.specs.Lines.{ephemeris}
use Rattle.spec_files.specs.Outcome.{first_fault, outcome, outcome_by}
use Rattle.spec_files.specs.Files.{AreFiles}
use Rattle.spec_files.specs.Texts.{joined}
use Rattle.spec_files.proofs.Lines.{HasBlocks, ephemeris_holds, seconds_hold}
use Rattle.gf_edges.specs.Edges.{Files}
use Rattle.gf_find.specs.Outcomes.{HaveEphemeris}

-- what comes out is what the lines are
of_lines : (fault : Option (ℕ × Fault)) (texts : List (List ℕ)) (found : Result Ephemeris Stop) (e : Ephemeris) → outcome_by fault texts found ≡ Ok e → found ≡ Ok e
of_lines (Some fault) texts found e is = absurd (cc)
of_lines None texts (Ok f) e is = cc
of_lines None texts (Err (ended number)) e is = absurd (cc)
of_lines None texts (Err (breaks file fault)) e is = absurd (cc)

lines_are : (texts : List (List ℕ)) (e : Ephemeris) → outcome texts ≡ Ok e → ephemeris (joined texts) ≡ Ok e
unfolding outcome
lines_are texts e is = of_lines (first_fault texts) texts (ephemeris (joined texts)) e is

module _ (files : Option Files) (names : List (List ℕ)) (e : Ephemeris) (held : HaveEphemeris files names e) where
  are : ephemeris (joined held.accepted.texts) ≡ Ok e
  are = lines_are held.accepted.texts e held.accepted.accepted

  pub is_checked : IsEphemeris e
  is_checked = (holds_ok HasBlocks (ephemeris (joined held.accepted.texts)) e are (ephemeris_holds (joined held.accepted.texts))).0

  pub has_block : 0 < e.blocks
  has_block = (holds_ok HasBlocks (ephemeris (joined held.accepted.texts)) e are (ephemeris_holds (joined held.accepted.texts))).1

  pub in_seconds : IsInSeconds e
  in_seconds = holds_ok IsInSeconds (ephemeris (joined held.accepted.texts)) e are (seconds_hold (joined held.accepted.texts))

-- the same files by other names of their names
pub held_as : (files : Option Files) (shown names : List (List ℕ)) (e : Ephemeris) → shown ≡ names → HaveEphemeris files shown e → HaveEphemeris files names e
held_as files shown names e same held = subst (λ (ns : List (List ℕ)). HaveEphemeris files ns e) same held

-- no files are no ephemeris
none_are : (files : Option Files) (texts : List (List ℕ)) (e : Ephemeris) → AreFiles files [] texts → ephemeris (joined texts) ≡ Ok e → ⊥
unfolding header
none_are files [] e there is = absurd (cc)
none_are files (text ∷ texts) e there is = absurd there

pub none_held : (files : Option Files) (e : Ephemeris) → HaveEphemeris files [] e → ⊥
none_held files e held = none_are files held.accepted.texts e held.accepted.there (lines_are held.accepted.texts e held.accepted.accepted)
