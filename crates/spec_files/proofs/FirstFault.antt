-- A first fault stays first, whatever texts follow.
use Rattle.std.proofs.Common.{◌≡◌, ℕ, ◌+◌, List, [], ◌∷◌, ◌++◌, length, Option, None, Some, Result, Ok, Err, refl, ap, ◌∙◌}
use Rattle.spec_text.specs.declared.decimals.Fault.{Fault}
use Rattle.spec_ephemeris.specs.Ephemeris.{Ephemeris}
use Rattle.spec_files.specs.Sections.{FileLine, Stop, ended, breaks}
use Rattle.spec_files.specs.Lines.{ephemeris}
use Rattle.spec_files.specs.Outcome.{fault_or_cut, first_fault}
use Rattle.spec_files.specs.Texts.{cut_off, file_lines, first_cut, first_cut_from, joined, joined_from, or_later}
use Rattle.spec_files.proofs.Joining.{joined_more}
use Rattle.spec_files.proofs.MoreBlocks.{ephemeris_keeps}
use Rattle.spec_files.proofs.MoreLines.{KeepsFault}

abbrev Texts : Type 0
Texts = List (List ℕ)

-- after a text that is cut off nothing is read
abbrev CutStays : ℕ → Texts → Texts → ℕ × Fault → Type 0
CutStays file texts later cut =
    (first_cut_from file (texts ++ later) ≡ Some cut) × (joined_from file (texts ++ later) ≡ joined_from file texts)

cut_here : (file : ℕ) (text : List ℕ) (texts later : Texts) (cut : ℕ × Fault) (here : Option Fault) → cut_off text ≡ here → or_later file here (first_cut_from (file + 1) texts) ≡ Some cut
    → (first_cut_from (file + 1) texts ≡ Some cut → CutStays (file + 1) texts later cut) → CutStays file (text ∷ texts) later cut
cut_here file text texts later cut (Some fault) is first below = (rw is first, rw is refl)
cut_here file text texts later cut None is first below =
    let b = below first in
    (rw is b.0, rw is (ap (λ (l : List FileLine). file_lines file text ++ l) b.1))

cut_stays : (file : ℕ) (texts later : Texts) (cut : ℕ × Fault) → first_cut_from file texts ≡ Some cut → CutStays file texts later cut
cut_stays file [] later cut is = absurd (cc)
cut_stays file (text ∷ texts) later cut is = cut_here file text texts later cut (cut_off text) refl is (cut_stays (file + 1) texts later cut)

fault_of_lines : (few more : Result Ephemeris Stop) (cut : Option (ℕ × Fault)) (file : ℕ) (fault : Fault) → KeepsFault few more → fault_or_cut None few ≡ Some (file, fault)
    → fault_or_cut cut more ≡ Some (file, fault)
fault_of_lines (Ok e) more cut file fault keeps is = absurd (cc)
fault_of_lines (Err (ended late)) more cut file fault keeps is = absurd (cc)
fault_of_lines (Err (breaks f b)) more cut file fault keeps is = ap (fault_or_cut cut) keeps ∙ is

stays_by : (texts later : Texts) (file : ℕ) (fault : Fault) (cut : Option (ℕ × Fault)) → first_cut texts ≡ cut → fault_or_cut cut (ephemeris (joined texts)) ≡ Some (file, fault)
    → fault_or_cut (first_cut (texts ++ later)) (ephemeris (joined (texts ++ later))) ≡ Some (file, fault)
stays_by texts later file fault (Some cut) here is =
    let stays = cut_stays 0 texts later cut here in
    (λ i. fault_or_cut (stays.0 i) (ephemeris (stays.1 i))) ∙ is
stays_by texts later file fault None here is =
    let lines = joined_more 0 texts later here in
    ap (λ (l : List FileLine). fault_or_cut (first_cut (texts ++ later)) (ephemeris l)) lines
    ∙ fault_of_lines (ephemeris (joined texts)) (ephemeris (joined texts ++ joined_from (0 + length texts) later)) (first_cut (texts ++ later)) file fault
    (ephemeris_keeps (joined texts) (joined_from (0 + length texts) later)) is

pub first_fault_stays : (texts later : Texts) (file : ℕ) (fault : Fault) → first_fault texts ≡ Some (file, fault) → first_fault (texts ++ later) ≡ Some (file, fault)
unfolding first_fault
first_fault_stays texts later file fault is = stays_by texts later file fault (first_cut texts) refl is
