-- A reader over the lines of a text.
use Rattle.std.proofs.Common.{◌≡◌, ◌+◌, ℕ, Bool, true, false, List, [], ◌∷◌, ◌++◌, Some, refl, sym, ap, ◌∙◌, subst, append-nil, inr}
use Rattle.std.specs.Prelude.{if◌then◌else◌}
use Rattle.spec_text.specs.Lines.{Numbered, is_too_long, token_line}
use Rattle.spec_faults.specs.declared.numbers.TheConstants.{LINE_TOO_LONG}
use Rattle.spec_files.specs.FileLines.{first_long, readable}
use Rattle.spec_files.specs.Sections.{FileLine}
use Rattle.spec_files.specs.Texts.{fault_at}
use Rattle.de_text.specs.declared.cursor.LineStep.TheVariants.{Line, TooLong}
use Rattle.de_text.specs.Steps.{step_of}
use Rattle.gf_files.specs.declared.reader.Reader.{Reader}
use Rattle.gf_files.specs.Reader.{HasNoFault, IsFirstFaultOf, IsReady, ephemeris_after}

-- the lines of a text that are left are those of the whole text, as a reader ephemeris_after
pub record Leads (old : Reader) (whole : List Numbered) (now : Reader) (left : List Numbered) : Type 0 where
  pub same : (file : ℕ) (rest : List FileLine) → ephemeris_after file now (readable file left ++ rest) ≡ ephemeris_after file old (readable file whole ++ rest)
  pub ready : IsReady now
  pub long : first_long left ≡ first_long whole

long_by : (first : Numbered) (long : Bool) (number : ℕ) → (if long then TooLong first.number else Line (token_line first)) ≡ TooLong number → (long ≡ true) × (first.number ≡ number)
long_by first true number is = (refl, cc)
long_by first false number is = absurd (cc)

pub long_line : (left : List Numbered) (number : ℕ) → step_of left ≡ TooLong number → (first_long left ≡ Some (fault_at number LINE_TOO_LONG)) × ((file : ℕ) → readable file left ≡ [])
long_line [] number is = absurd (cc)
long_line (first ∷ rest) number is =
    let by = long_by first (is_too_long first) number is in
    (rw (by.0) (ap (λ (n : ℕ). Some (fault_at n LINE_TOO_LONG)) by.1), λ file. rw (by.0) refl)

-- the line that is too long
pub leads_long : (old : Reader) (whole : List Numbered) (now : Reader) (left : List Numbered) (number : ℕ) → Leads old whole now left → step_of left ≡ TooLong number
    → (file : ℕ) → IsFirstFaultOf file old whole (fault_at number LINE_TOO_LONG)
leads_long old whole now left number leads is = λ file.
    let long = long_line left number is in
    let same : ephemeris_after file now [] ≡ ephemeris_after file old (readable file whole) =
    ap (λ (l : List FileLine). ephemeris_after file now (l ++ [])) (sym (long.1 file)) ∙ leads.same file []
    ∙ ap (λ (l : List FileLine). ephemeris_after file old l) (append-nil (readable file whole)) in
    inr (sym leads.long ∙ long.0, subst HasNoFault same (leads.ready.sound file))
