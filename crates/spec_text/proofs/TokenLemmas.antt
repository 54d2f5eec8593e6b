-- The first token of a line.
use Rattle.std.proofs.Common.{◌≡◌, ℕ, zero, suc, ◌+◌, ◌<◌, ◌≤◌, true, false, List, [], ◌∷◌, ◌++◌, length, length-take, get_or, take, drop, refl, sym, ap, ◌∙◌, inl, inr, arith, lit<}
use Rattle.std.specs.Prelude.{filter}
use Rattle.std.specs.List.{All, onto_first, slice_split, position_or_len}
use Rattle.std.proofs.lemmas.Bool.{cases_lt, lt-ltb}
use Rattle.std.proofs.lemmas.List.{drop_more, drop_all, take_all, get_or_default}
use Rattle.std.proofs.lemmas.List.Sums.{position_or_len_is}
use Rattle.std.proofs.lemmas.List.Splits.{slice_split_none, slice_split_at, slice_split_first}
use Rattle.spec_text.specs.Lines.{is_separator, is_not_empty, tokens}

pub skip_one : (b : ℕ) (bs : List ℕ) → is_separator b ≡ true → tokens (b ∷ bs) ≡ tokens bs
skip_one b bs test = rw test refl

-- separators at the front do not count
pub skip : (line : List ℕ) (i : ℕ) → i ≤ length line → ((k : ℕ) → k < i → is_separator (get_or line k 0) ≡ true) → tokens line ≡ tokens (drop i line)
skip line zero within before = refl
skip [] (suc i) within before = refl
skip (b ∷ bs) (suc i) within before =
    skip_one b bs (before 0 (omega arith)) ∙ skip bs i (omega arith) (λ k h. before (suc k) (omega arith))

-- a line of separators alone is blank
pub blank_line : (line : List ℕ) → ((k : ℕ) → k < length line → is_separator (get_or line k 0) ≡ true) → tokens line ≡ []
blank_line [] all = refl
blank_line (b ∷ bs) all = skip_one b bs (all 0 (omega arith)) ∙ blank_line bs (λ k h. all (suc k) (omega arith))

keeps_some : (part : List ℕ) (rest : List (List ℕ)) → 0 < length part → filter is_not_empty (part ∷ rest) ≡ part ∷ filter is_not_empty rest
keeps_some part rest some = rw (lt-ltb 0 (length part) some) refl

-- a line that begins with no separator has a token
pub some_token : (b : ℕ) (bs : List ℕ) → is_separator b ≡ false → 0 < length (tokens (b ∷ bs))
some_token b bs begins = rw begins (first (slice_split is_separator bs))
  where
    first : (parts : List (List ℕ)) → 0 < length (filter is_not_empty (onto_first b parts))
    first [] = lit< tt
    first (part ∷ parts) = rw (keeps_some (b ∷ part) parts (omega arith)) (omega arith)

-- a token, and a separator after it
pub first_token : (word : List ℕ) (b : ℕ) (rest : List ℕ) → All (λ b. is_separator b ≡ false) word → 0 < length word → is_separator b ≡ true
    → tokens (word ++ b ∷ rest) ≡ word ∷ tokens rest
first_token word b rest none some ends =
    ap (filter is_not_empty) (slice_split_at is_separator word b rest none ends) ∙ keeps_some word (slice_split is_separator rest) some

-- a line without a separator is one token, unless it is empty
pub last_token : (word : List ℕ) → All (λ b. is_separator b ≡ false) word → 0 < length word → tokens word ≡ word ∷ []
last_token word none some = ap (filter is_not_empty) (slice_split_none is_separator word none) ∙ keeps_some word [] some

-- the first token of a line that begins with one, by the place where it ends
pub token_at : (text : List ℕ) (n : ℕ) → 0 < n → n ≤ length text → ((k : ℕ) → k < n → is_separator (get_or text k 0) ≡ false)
    → (n < length text → is_separator (get_or text n 0) ≡ true) → tokens text ≡ take n text ∷ tokens (drop n text)
token_at text n some within before at = elim (cases_lt n (length text)) [
  | inl below ↦
      let place : position_or_len is_separator text ≡ n = position_or_len_is is_separator text n 0 within before at in
      let parts : slice_split is_separator text ≡ take n text ∷ slice_split is_separator (drop (n + 1) text) =
      slice_split_first is_separator text 0 (rw place below)
      ∙ ap (λ (k : ℕ). take k text ∷ slice_split is_separator (drop (k + 1) text)) place in
      let rest : tokens (drop (n + 1) text) ≡ tokens (drop n text) =
      sym (ap tokens (drop_more text n 0 below) ∙ skip_one (get_or text n 0) (drop (n + 1) text) (at below)) in
      ap (filter is_not_empty) parts
      ∙ keeps_some (take n text) (slice_split is_separator (drop (n + 1) text)) (omega (arith, length-take n text))
      ∙ ap (λ (l : List (List ℕ)). take n text ∷ l) rest
  | inr past ↦
      last_token text (λ k d h. rw (get_or_default text k d 0 h) (before k (omega arith))) (omega arith)
      ∙ (λ i. sym (take_all n text past) i ∷ tokens (sym (drop_all n text past) i))
]
