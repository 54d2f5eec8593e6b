-- The first line of a text.
use Rattle.std.proofs.Common.{◌≡◌, ◌≢◌, ℕ, ◌+◌, ◌<◌, true, false, List, [], ◌∷◌, ◌++◌, length, get_or, map, take, drop, ne_eqb, refl, sym, ap, ◌∙◌, inl, inr, arith}
use Rattle.std.specs.List.{All, slice_split, onto_first, position_or_len}
use Rattle.std.specs.Str.Lines.{strip_carriage_return}
use Rattle.std.proofs.lemmas.Bool.{cases_Bool}
use Rattle.std.proofs.lemmas.List.Splits.{slice_split_none, slice_split_at, slice_split_first}
use Rattle.std.proofs.lemmas.List.Sums.{position_or_len_is}
use Rattle.spec_text.specs.Bytes.{line_feed}
use Rattle.spec_text.specs.Lines.{is_line_feed, without_empty_end, lines}

-- a text has a first part
record Cut (text : List ℕ) : Type 0 where
  first : List ℕ
  rest : List (List ℕ)
  is : slice_split is_line_feed text ≡ first ∷ rest

onto_is : (b : ℕ) (parts : List (List ℕ)) → (first : List ℕ) × (rest : List (List ℕ)) × (onto_first b parts ≡ first ∷ rest)
onto_is b [] = (b ∷ [], [], refl)
onto_is b (part ∷ parts) = (b ∷ part, parts, refl)

cut : (text : List ℕ) → Cut text
cut [] = record { first = []; rest = []; is = refl }
cut (b ∷ bs) = elim (cases_Bool (is_line_feed b)) [
  | inl feed ↦ record { first = []; rest = slice_split is_line_feed bs; is = rw feed refl }
  | inr other ↦
      let parts = onto_is b (slice_split is_line_feed bs) in
      record { first = parts.0; rest = parts.1; is = rw other parts.2 }
]

keeps_first : (part text : List ℕ) → without_empty_end (part ∷ slice_split is_line_feed text) ≡ part ∷ without_empty_end (slice_split is_line_feed text)
keeps_first part text =
    let next = cut text in
    ap (λ (parts : List (List ℕ)). without_empty_end (part ∷ parts)) next.is
    ∙ ap (λ (parts : List (List ℕ)). part ∷ without_empty_end parts) (sym next.is)

lines_of : (text line rest : List ℕ) → slice_split is_line_feed text ≡ line ∷ slice_split is_line_feed rest → lines text ≡ strip_carriage_return line ∷ lines rest
lines_of text line rest is =
    ap (λ (parts : List (List ℕ)). map strip_carriage_return (without_empty_end parts)) is
    ∙ ap (map strip_carriage_return) (keeps_first line rest)

-- by what stands before and after its line feed
pub first_line : (line rest : List ℕ) → All (λ b. is_line_feed b ≡ false) line → lines (line ++ line_feed ∷ rest) ≡ strip_carriage_return line ∷ lines rest
first_line line rest none = lines_of (line ++ line_feed ∷ rest) line rest (slice_split_at is_line_feed line line_feed rest none refl)

-- by the place of its line feed
pub line_at : (text : List ℕ) (i : ℕ) → i < length text → ((k : ℕ) → k < i → is_line_feed (get_or text k 0) ≡ false) → is_line_feed (get_or text i 0) ≡ true
    → lines text ≡ strip_carriage_return (take i text) ∷ lines (drop (i + 1) text)
line_at text i below before at =
    let place : position_or_len is_line_feed text ≡ i = position_or_len_is is_line_feed text i 0 (omega arith) before (λ _. at) in
    lines_of text (take i text) (drop (i + 1) text)
    (slice_split_first is_line_feed text 0 (rw place below) ∙ ap (λ (k : ℕ). take k text ∷ slice_split is_line_feed (drop (k + 1) text)) place)

-- a text without a line feed is one line, unless it is empty
pub last_line : (line : List ℕ) → All (λ b. is_line_feed b ≡ false) line → 0 < length line → lines line ≡ strip_carriage_return line ∷ []
last_line line none some =
    let not_empty : length line ≢ 0 = λ e. absurd (omega arith) in
    let one : without_empty_end (line ∷ []) ≡ line ∷ [] = rw (ne_eqb (length line) 0 not_empty) refl in
    ap (λ (parts : List (List ℕ)). map strip_carriage_return (without_empty_end parts)) (slice_split_none is_line_feed line none)
    ∙ ap (map strip_carriage_return) one
