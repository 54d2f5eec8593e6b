-- Texts after texts.
use Rattle.std.proofs.Common.{◌≡◌, ℕ, suc, ◌+◌, List, [], ◌∷◌, ◌++◌, length, Option, None, Some, Err, refl, sym, ap, ◌∙◌, append_assoc, arith}
use Rattle.spec_text.specs.declared.decimals.Fault.{Fault}
use Rattle.spec_files.specs.Sections.{FileLine}
use Rattle.spec_files.specs.Lines.{ephemeris}
use Rattle.spec_files.specs.Texts.{cut_off, file_lines, first_cut_from, joined, joined_from, or_later}
use Rattle.spec_files.specs.Outcome.{first_fault, outcome, outcome_by}

-- where a text is cut off, it is the first
whole_first : (file : ℕ) (cut : Option Fault) (later : Option (ℕ × Fault)) → or_later file cut later ≡ None → (cut ≡ None) × (later ≡ None)
whole_first file None later is = (refl, is)
whole_first file (Some fault) later is = absurd (cc)

pub joined_more : (file : ℕ) (texts later : List (List ℕ)) → first_cut_from file texts ≡ None
    → joined_from file (texts ++ later) ≡ joined_from file texts ++ joined_from (file + length texts) later
joined_more file [] later whole = let same : file + 0 ≡ file = omega arith in ap (λ (n : ℕ). joined_from n later) (sym same)
joined_more file (text ∷ texts) later whole =
    let w = whole_first file (cut_off text) (first_cut_from (file + 1) texts) whole in
    let next : (file + 1) + length texts ≡ file + suc (length texts) = omega arith in
    rw (w.0)
    (ap (λ (l : List FileLine). file_lines file text ++ l)
    (joined_more (file + 1) texts later w.1 ∙ ap (λ (n : ℕ). joined_from (file + 1) texts ++ joined_from n later) next)
    ∙ sym (append_assoc (file_lines file text) (joined_from (file + 1) texts) (joined_from (file + suc (length texts)) later)))

pub cut_more : (file : ℕ) (texts later : List (List ℕ)) → first_cut_from file texts ≡ None
    → first_cut_from file (texts ++ later) ≡ first_cut_from (file + length texts) later
cut_more file [] later whole = let same : file + 0 ≡ file = omega arith in ap (λ (n : ℕ). first_cut_from n later) (sym same)
cut_more file (text ∷ texts) later whole =
    let w = whole_first file (cut_off text) (first_cut_from (file + 1) texts) whole in
    let next : (file + 1) + length texts ≡ file + suc (length texts) = omega arith in
    rw (w.0) (cut_more (file + 1) texts later w.1 ∙ ap (λ (n : ℕ). first_cut_from n later) next)

pub first_fault_refused : (texts : List (List ℕ)) (file : ℕ) (fault : Fault) → first_fault texts ≡ Some (file, fault) → outcome texts ≡ Err (file, fault)
unfolding outcome
first_fault_refused texts file fault is = ap (λ (b : Option (ℕ × Fault)). outcome_by b texts (ephemeris (joined texts))) is
