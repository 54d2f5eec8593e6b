-- Sections of lines, and of more lines: a broken rule stays, and what stands after a section is followed by the further
-- lines.
use Rattle.std.proofs.Common.{◌≡◌, ◌≢◌, ◌<◌, ◌≤◌, ◌+◌, ◌-◌, ℕ, min, Bool, true, false, List, [], ◌∷◌, ◌++◌, length, map, take, drop, Result, Ok, Err, refl, sym, ap, ◌∙◌, subst, arith, inl, inr, append-nil, append_assoc, eq-eqb, ne_eqb}
use Rattle.std.specs.Prelude.{slice_get, if◌then◌else◌}
use Rattle.std.proofs.lemmas.Bool.{cases_eq}
use Rattle.std.proofs.lemmas.List.{drop_all}
use Rattle.spec_files.proofs.FurtherWords.{none_further}
use Rattle.spec_files.specs.declared.rules.BrokenRule.{BrokenRule}
use Rattle.spec_files.specs.Sections.{FileLine, FileWord, Stop, ended, breaks, ◌>>=◌, at_line, after_words, first_words, from_word, is_word, lines_after, one_line, word_of}
use Rattle.spec_files.proofs.WordSections.{all_after, length_first, no_words}
use Rattle.spec_files.specs.Blocks.{further_words}

-- what more lines come to, where these come to this: the value with the further lines after it, or the same broken rule
abbrev pub Keeps : {A : Type 0} → List FileLine → Result (A × List FileLine) Stop → Result (A × List FileLine) Stop → Type 0
Keeps later (Ok x) more = more ≡ Ok (x.0, x.1 ++ later)
Keeps later (Err (ended late)) more = Unit {0}
Keeps later (Err (breaks file fault)) more = more ≡ Err (breaks file fault)

-- the same of what has no lines after it
abbrev pub KeepsFault : {A : Type 0} → Result A Stop → Result A Stop → Type 0
KeepsFault (Ok x) more = Unit {0}
KeepsFault (Err (ended late)) more = Unit {0}
KeepsFault (Err (breaks file fault)) more = more ≡ Err (breaks file fault)

module _ {A B : Type 0} (later : List FileLine) where
  -- a section, and what stands after it
  pub section_then : (few more : Result (A × List FileLine) Stop) (k : A × List FileLine → Result (B × List FileLine) Stop) → Keeps later few more
      → ((x : A × List FileLine) → Keeps later (k x) (k (x.0, x.1 ++ later))) → Keeps later (few >>= k) (more >>= k)
  section_then (Ok x) more k keeps all = subst (λ (r : Result (A × List FileLine) Stop). Keeps later (k x) (r >>= k)) (sym keeps) (all x)
  section_then (Err (ended late)) more k keeps all = tt
  section_then (Err (breaks file fault)) more k keeps all = ap (λ (r : Result (A × List FileLine) Stop). r >>= k) keeps

  pub section_end : (few more : Result (A × List FileLine) Stop) (k l : A × List FileLine → Result B Stop) → Keeps later few more
      → ((x : A × List FileLine) → KeepsFault (k x) (l (x.0, x.1 ++ later))) → KeepsFault (few >>= k) (more >>= l)
  section_end (Ok x) more k l keeps all = subst (λ (r : Result (A × List FileLine) Stop). KeepsFault (k x) (r >>= l)) (sym keeps) (all x)
  section_end (Err (ended late)) more k l keeps all = tt
  section_end (Err (breaks file fault)) more k l keeps all = ap (λ (r : Result (A × List FileLine) Stop). r >>= l) keeps

-- a section of one line

rule_keeps : {A : Type 0} (later : List FileLine) (file number : ℕ) (rest : List FileLine) (r : Result A BrokenRule)
    → Keeps later (at_line file number r >>= λ x. Ok (x, rest)) (at_line file number r >>= λ x. Ok (x, rest ++ later))
rule_keeps later file number rest (Ok x) = refl
rule_keeps later file number rest (Err rule) = refl

pub line_keeps : {A : Type 0} (later : List FileLine) (late : ℕ) (rule : List (List ℕ) → Result A BrokenRule) (lines : List FileLine)
    → Keeps later (one_line late rule lines) (one_line late rule (lines ++ later))
line_keeps later late rule [] = tt
line_keeps later late rule (line ∷ rest) = rule_keeps later line.file line.number rest (rule line.words)

found_keeps : {A : Type 0} (later : List FileLine) (late : ℕ) (rule : List (List ℕ) → Result A BrokenRule) (text : List ℕ) (line : FileLine) (rest : List FileLine) (here : Bool)
    → Keeps later (one_line late rule (from_word text rest)) (one_line late rule (from_word text (rest ++ later)))
    → Keeps later (one_line late rule (if here then line ∷ rest else from_word text rest)) (one_line late rule (if here then line ∷ (rest ++ later) else from_word text (rest ++ later)))
found_keeps later late rule text line rest true below = line_keeps later late rule (line ∷ rest)
found_keeps later late rule text line rest false below = below

pub word_keeps : {A : Type 0} (later : List FileLine) (late : ℕ) (rule : List (List ℕ) → Result A BrokenRule) (text : List ℕ) (lines : List FileLine)
    → Keeps later (one_line late rule (from_word text lines)) (one_line late rule (from_word text (lines ++ later)))
word_keeps later late rule text [] = tt
word_keeps later late rule text (line ∷ rest) =
    found_keeps later late rule text line rest (is_word (slice_get line.words 0) text) (word_keeps later late rule text rest)

-- a section of words

pub first_words-more : (n : ℕ) (lines later : List FileLine) → first_words n (lines ++ later) ≡ first_words n lines ++ first_words (n - length (first_words n lines)) later
first_words-more n [] later = let all : n ≡ n - 0 = omega arith in ap (λ (k : ℕ). first_words k later) all
first_words-more n (line ∷ rest) later =
    let here = map (word_of line) (take n line.words) in
    let left = n - length line.words in
    let some = first_words left rest in
    let size : length (here ++ some) ≡ min n (length line.words) + length some = length_first n line rest in
    let still : left - length some ≡ n - length (here ++ some) = omega (arith, size) in
    ap (λ (ws : List FileWord). here ++ ws) (first_words-more left rest later ∙ ap (λ (k : ℕ). some ++ first_words k later) still)
    ∙ sym (append_assoc here some (first_words (n - length (here ++ some)) later))

-- n words stand in these lines
pub record AreWords (late n : ℕ) (lines later : List FileLine) : Type 0 where
  pub words : first_words n (lines ++ later) ≡ first_words n lines
  pub further : further_words n (lines ++ later) ≡ further_words n lines
  pub fewer : after_words late n lines ≡ Ok (lines_after n lines)
  pub more : after_words late n (lines ++ later) ≡ Ok (lines_after n lines ++ later)

lines_after-more : (n : ℕ) (lines later : List FileLine) → length (first_words n lines) ≡ n → lines_after n (lines ++ later) ≡ lines_after n lines ++ later
lines_after-more n [] later all = all_after n later (sym all)
lines_after-more n (line ∷ rest) later all = elim (cases_eq n 0) [
  | inl none ↦ all_after n (line ∷ (rest ++ later)) none ∙ ap (λ (l : List FileLine). l ++ later) (sym (all_after n (line ∷ rest) none))
  | inr some ↦
      let size = length_first n line rest in
      rw (ne_eqb n 0 some) (lines_after-more (n - length line.words) rest later (omega (arith, size, all)))
]

further_words-more : (n : ℕ) (lines later : List FileLine) → length (first_words n lines) ≡ n → further_words n (lines ++ later) ≡ further_words n lines
further_words-more n [] later all = none_further n later (sym all)
further_words-more n (line ∷ rest) later all = elim (cases_eq n 0) [
  | inl none ↦ none_further n (line ∷ (rest ++ later)) none ∙ sym (none_further n (line ∷ rest) none)
  | inr some ↦
      let size = length_first n line rest in
      rw (ne_eqb n 0 some)
      (ap (λ (ws : List FileWord). map (word_of line) (drop n line.words) ++ ws) (further_words-more (n - length line.words) rest later (omega (arith, size, all))))
]

pub no_further : (n : ℕ) (lines : List FileLine) → length (first_words n lines) < n → further_words n lines ≡ []
no_further n [] few = refl
no_further n (line ∷ rest) few = elim (cases_eq n 0) [
  | inl none ↦ none_further n (line ∷ rest) none
  | inr some ↦
      let size = length_first n line rest in
      let here : drop n line.words ≡ [] = drop_all n line.words (omega (arith, size, few)) in
      rw (ne_eqb n 0 some)
      ((λ i. map (word_of line) (here i) ++ further_words (n - length line.words) rest) ∙ no_further (n - length line.words) rest (omega (arith, size, few)))
]

pub are_words : (late n : ℕ) (lines later : List FileLine) → length (first_words n lines) ≡ n → AreWords late n lines later
are_words late n lines later all =
    let none : first_words (n - length (first_words n lines)) later ≡ [] = no_words (n - length (first_words n lines)) later (omega (arith, all)) in
    let words : first_words n (lines ++ later) ≡ first_words n lines =
    first_words-more n lines later ∙ ap (λ (ws : List FileWord). first_words n lines ++ ws) none ∙ append-nil (first_words n lines) in
    record {
      words = words;
      further = further_words-more n lines later all;
      fewer = rw (eq-eqb _ _ all) refl;
      more = rw (eq-eqb _ _ (ap length words ∙ all), lines_after-more n lines later all) refl;
    }

pub not_words : (late n : ℕ) (lines : List FileLine) → length (first_words n lines) ≢ n → after_words late n lines ≡ Err (ended late)
not_words late n lines other = rw (ne_eqb _ _ other) refl

-- there are at most n first words
pub at_most_words : (n : ℕ) (lines : List FileLine) → length (first_words n lines) ≤ n
at_most_words n [] = omega arith
at_most_words n (line ∷ rest) = let size = length_first n line rest in let below = at_most_words (n - length line.words) rest in omega (arith, size, below)
