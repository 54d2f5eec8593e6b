-- A reader over the text of a file.
use Rattle.std.proofs.Common.{◌≡◌, ◌<◌, ◌≤◌, ℕ, List, [], length, Some, refl, sym, subst, inr}
use Rattle.std.proofs.lemmas.Bool.{lt-ltb, le-ltb}
use Rattle.spec_text.specs.Lines.{text_lines}
use Rattle.spec_text.specs.declared.limits.TheConstants.{MAX_TEXT_BYTES}
use Rattle.spec_files.specs.FileLines.{first_long, readable}
use Rattle.spec_files.specs.Sections.{FileLine}
use Rattle.spec_files.specs.Texts.{cut_off, fault_at, file_lines}
use Rattle.spec_faults.specs.declared.numbers.TheConstants.{FILE_TOO_LARGE}
use Rattle.gf_files.specs.declared.reader.Reader.{Reader}
use Rattle.gf_files.specs.Reader.{HasNoFault, IsFirstFault, IsReady, ephemeris_after}

pub small_lines : (text : List ℕ) → length text ≤ MAX_TEXT_BYTES → (file : ℕ) → file_lines file text ≡ readable file (text_lines text)
small_lines text small file = rw (le-ltb MAX_TEXT_BYTES (length text) small) refl

pub small_cut : (text : List ℕ) → length text ≤ MAX_TEXT_BYTES → cut_off text ≡ first_long (text_lines text)
small_cut text small = rw (le-ltb MAX_TEXT_BYTES (length text) small) refl

large_text : (text : List ℕ) → MAX_TEXT_BYTES < length text → (cut_off text ≡ Some (fault_at 0 FILE_TOO_LARGE)) × ((file : ℕ) → file_lines file text ≡ [])
large_text text large = (rw (lt-ltb MAX_TEXT_BYTES (length text) large) refl, λ file. rw (lt-ltb MAX_TEXT_BYTES (length text) large) refl)

pub large_stops : (reader : Reader) (text : List ℕ) → IsReady reader → MAX_TEXT_BYTES < length text → IsFirstFault reader text (fault_at 0 FILE_TOO_LARGE)
large_stops reader text ready large = λ file.
    let t = large_text text large in
    inr (t.0, subst (λ (l : List FileLine). HasNoFault (ephemeris_after file reader l)) (sym (t.1 file)) (ready.sound file))
