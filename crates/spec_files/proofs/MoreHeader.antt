-- The header of lines, and of more lines.
use Rattle.std.proofs.Common.{◌≡◌, ◌-◌, ℕ, zero, suc, List, ◌∷◌, [], ◌++◌, length, Option, None, Some, Result, Ok, Err, refl, ap, ◌∙◌, inl, inr}
use Rattle.std.specs.Prelude.{codes, slice_get}
use Rattle.std.proofs.lemmas.Bool.{cases_eq}
use Rattle.spec_text.specs.declared.decimals.Decimal.{Decimal}
use Rattle.spec_files.specs.declared.rules.BrokenRule.{BrokenRule}
use Rattle.spec_faults.specs.declared.numbers.TheConstants.{ENDED}
use Rattle.spec_files.specs.HeaderLines.{header, mass_ratio_among, mass_ratio_at, names}
use Rattle.spec_files.specs.HeaderRules.{mass_ratio}
use Rattle.spec_files.specs.Sections.{FileLine, FileWord, ◌>>=◌, at_line, after_words, first_words}
use Rattle.spec_files.proofs.MoreLines.{Keeps, are_words, first_words-more, line_keeps, not_words, section_then, word_keeps}

-- a place in a list is the same in a longer one
get_more : (words later : List FileWord) (place : ℕ) (word : FileWord) → slice_get words place ≡ Some word → slice_get (words ++ later) place ≡ Some word
get_more [] later zero word is = absurd (cc)
get_more [] later (suc place) word is = absurd (cc)
get_more (w ∷ words) later zero word is = is
get_more (w ∷ words) later (suc place) word is = get_more words later place word is

names_keep : (later : List FileLine) (n : ℕ) (lines : List FileLine) → Keeps later (names n lines) (names n (lines ++ later))
names_keep later n lines = elim (cases_eq (length (first_words n lines)) n) [
  | inl all ↦ let are = are_words ENDED n lines later all in rw (are.fewer, are.more, are.words) refl
  | inr other ↦ rw (not_words ENDED n lines other) tt
]

rest_keeps : (later : List FileLine) (n : ℕ) (emrat : Decimal) (lines : List FileLine)
    → Keeps later (after_words ENDED n lines >>= λ rest. Ok (emrat, rest)) (after_words ENDED n (lines ++ later) >>= λ rest. Ok (emrat, rest))
rest_keeps later n emrat lines = elim (cases_eq (length (first_words n lines)) n) [
  | inl all ↦ let are = are_words ENDED n lines later all in rw (are.fewer, are.more) refl
  | inr other ↦ rw (not_words ENDED n lines other) tt
]

ratio_keeps : (later : List FileLine) (n file number : ℕ) (lines : List FileLine) (ratio : Result Decimal BrokenRule)
    → Keeps later (at_line file number ratio >>= λ emrat. after_words ENDED n lines >>= λ rest. Ok (emrat, rest))
    (at_line file number ratio >>= λ emrat. after_words ENDED n (lines ++ later) >>= λ rest. Ok (emrat, rest))
ratio_keeps later n file number lines (Ok emrat) = rest_keeps later n emrat lines
ratio_keeps later n file number lines (Err rule) = refl

word_ratio_keeps : (later : List FileLine) (n : ℕ) (lines : List FileLine) (few more : Option FileWord) → ((word : FileWord) → few ≡ Some word → more ≡ Some word)
    → Keeps later (mass_ratio_at few >>= λ emrat. after_words ENDED n lines >>= λ rest. Ok (emrat, rest))
    (mass_ratio_at more >>= λ emrat. after_words ENDED n (lines ++ later) >>= λ rest. Ok (emrat, rest))
word_ratio_keeps later n lines None more same = tt
word_ratio_keeps later n lines (Some word) more same = rw (same word refl) (ratio_keeps later n word.file word.line lines (mass_ratio word.text))

mass_ratio_keeps : (later : List FileLine) (n place : ℕ) (lines : List FileLine) → Keeps later (mass_ratio_among n place lines) (mass_ratio_among n place (lines ++ later))
mass_ratio_keeps later n place lines =
    word_ratio_keeps later n lines (slice_get (first_words n lines) place) (slice_get (first_words n (lines ++ later)) place)
    (λ word is. ap (λ (ws : List FileWord). slice_get ws place) (first_words-more n lines later)
    ∙ get_more (first_words n lines) (first_words (n - length (first_words n lines)) later) place word is)

pub header_keeps : (later lines : List FileLine) → Keeps later (header lines) (header (lines ++ later))
unfolding header
header_keeps later lines =
    section_then later _ _ _ (line_keeps later ENDED _ lines) (λ ncoeff.
    section_then later _ _ _ (line_keeps later ENDED _ ncoeff.1) (λ titles.
    section_then later _ _ _ (word_keeps later ENDED _ (codes "GROUP") titles.1) (λ dates.
    section_then later _ _ _ (line_keeps later ENDED _ dates.1) (λ block.
    section_then later _ _ _ (line_keeps later ENDED _ block.1) (λ constants.
    section_then later _ _ _ (line_keeps later ENDED _ constants.1) (λ count.
    section_then later _ _ _ (names_keep later count.0 count.1) (λ named.
    section_then later _ _ _ (line_keeps later ENDED _ named.1) (λ values.
    section_then later _ _ _ (line_keeps later ENDED _ values.1) (λ place.
    section_then later _ _ _ (mass_ratio_keeps later count.0 place.0 place.1) (λ emrat.
    section_then later _ _ _ (line_keeps later ENDED _ emrat.1) (λ places.
    section_then later _ _ _ (line_keeps later ENDED _ places.1) (λ starts.
    section_then later _ _ _ (line_keeps later ENDED _ starts.1) (λ coefs.
    section_then later _ _ _ (line_keeps later ENDED _ coefs.1) (λ columns.
    section_then later _ _ _ (line_keeps later ENDED _ columns.1) (λ end. refl)))))))))))))))
