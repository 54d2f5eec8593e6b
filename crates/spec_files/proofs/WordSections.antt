-- The lines after a section of words, a line at a time.
use Rattle.std.proofs.Common.{◌≡◌, ◌≢◌, ℕ, ◌+◌, ◌-◌, ◌<◌, ◌≤◌, ◌==◌, min, true, false, List, [], ◌∷◌, ◌++◌, length, map, take, Ok, refl, sym, ap, ◌∙◌, inl, inr, arith, eq-eqb, ne_eqb}
use Rattle.std.proofs.lemmas.Bool.{cases_eq}
use Rattle.std.proofs.lemmas.List.{length-append, length-map, length-take}
use Rattle.spec_files.proofs.Holding.{Holds}
use Rattle.spec_files.specs.Sections.{FileLine, after_words, first_words, lines_after, word_of}

-- no words
pub no_words : (n : ℕ) (lines : List FileLine) → n ≡ 0 → first_words n lines ≡ []
no_words n [] is = refl
no_words n (line ∷ rest) is =
    ap (λ (k : ℕ). map (word_of line) (take k line.words) ++ first_words (n - length line.words) rest) is ∙ no_words (n - length line.words) rest (omega (arith, is))

pub all_after : (n : ℕ) (lines : List FileLine) → n ≡ 0 → lines_after n lines ≡ lines
all_after n [] is = refl
all_after n (line ∷ rest) is = rw is refl

pub after_no_words : (late n : ℕ) (lines : List FileLine) → n ≡ 0 → after_words late n lines ≡ Ok lines
after_no_words late n lines is =
    let test : (length (first_words n lines) == n) ≡ true = eq-eqb _ _ (ap length (no_words n lines is) ∙ sym is) in
    rw (test, all_after n lines is) refl

pub length_first : (n : ℕ) (line : FileLine) (rest : List FileLine)
    → length (first_words n (line ∷ rest)) ≡ min n (length line.words) + length (first_words (n - length line.words) rest)
length_first n line rest =
    length-append (map (word_of line) (take n line.words)) (first_words (n - length line.words) rest)
    ∙ ap (λ (k : ℕ). k + length (first_words (n - length line.words) rest)) (length-map (take n line.words) (word_of line) ∙ length-take n line.words)

-- a line takes its words from those that are left
pub after_words_of_line : (late n here : ℕ) (line : FileLine) (rest : List FileLine) → 0 < n → here ≡ min n (length line.words)
    → after_words late n (line ∷ rest) ≡ after_words late (n - here) rest
after_words_of_line late n here line rest some here_is =
    let not_none : n ≢ 0 = λ e. omega (arith, e, some) in
    let left : n - length line.words ≡ n - here = omega (arith, here_is) in
    let all : length (first_words n (line ∷ rest)) ≡ here + length (first_words (n - here) rest) =
    length_first n line rest ∙ ap (λ (k : ℕ). min n (length line.words) + length (first_words k rest)) left
    ∙ ap (λ (k : ℕ). k + length (first_words (n - here) rest)) (sym here_is) in
    elim (cases_eq (length (first_words (n - here) rest)) (n - here)) [
      | inl same ↦
          let one : (length (first_words n (line ∷ rest)) == n) ≡ true = eq-eqb _ _ (omega (arith, all, same, here_is)) in
          let other : (length (first_words (n - here) rest) == n - here) ≡ true = eq-eqb _ _ same in
          rw (one, other, ne_eqb n 0 not_none, left) refl
      | inr apart ↦
          let one : (length (first_words n (line ∷ rest)) == n) ≡ false = ne_eqb _ _ (λ e. apart (omega (arith, all, e, here_is))) in
          let other : (length (first_words (n - here) rest) == n - here) ≡ false = ne_eqb _ _ apart in
          rw (one, other) refl
    ]

no_more_after : (n : ℕ) (lines : List FileLine) → length (lines_after n lines) ≤ length lines
no_more_after n [] = omega arith
no_more_after n (line ∷ rest) = elim (cases_eq n 0) [
  | inl none ↦ rw (eq-eqb n 0 none) (omega arith)
  | inr some ↦ rw (ne_eqb n 0 some) (omega (arith, no_more_after (n - length line.words) rest))
]

-- the lines after a section of words are no more than those that it is cut off
pub after_fewer : (late n : ℕ) (lines : List FileLine) → Holds (λ (rest : List FileLine). length rest ≤ length lines) (after_words late n lines)
after_fewer late n lines = elim (cases_eq (length (first_words n lines)) n) [
  | inl same ↦ rw (eq-eqb _ _ same) (no_more_after n lines)
  | inr other ↦ rw (ne_eqb _ _ other) tt
]
