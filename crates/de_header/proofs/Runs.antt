-- Sections of counted words, a line at a time.
use Rattle.std.proofs.Common.{◌≡◌, ℕ, zero, suc, ◌-◌, ◌<◌, ◌≤◌, min, List, [], ◌∷◌, ◌++◌, length, map, take, Option, None, Some, Result, Ok, Err, refl, sym, ap, ◌∙◌, inl, inr, arith}
use Rattle.std.specs.Prelude.{slice_get}
use Rattle.std.proofs.lemmas.Bool.{cases_lt, cases_eq}
use Rattle.std.proofs.lemmas.List.{length-map, length-take, map-append, take_all}
use Rattle.std.proofs.lemmas.Option.{none-some}
use Rattle.spec_faults.specs.declared.numbers.TheConstants.{ENDED}
use Rattle.spec_files.specs.HeaderLines.{mass_ratio_among, names}
use Rattle.spec_files.specs.HeaderRules.{mass_ratio}
use Rattle.spec_files.proofs.WordSections.{after_no_words, after_words_of_line, no_words}
use Rattle.spec_numbers.proofs.Lists.{get_take}
use Rattle.spec_files.specs.Sections.{FileLine, FileWord, Stop, ended, ◌>>=◌, at_line, after_words, first_words, word_of}

abbrev map_some : {X Y : Type 0} → (X → Y) → Option X → Option Y
map_some f None = None
map_some f (Some x) = Some (f x)

some_map : {X Y : Type 0} (f : X → Y) (x y : X) → Some x ≡ Some y → Some (f x) ≡ Some (f y)
some_map f x y is = ap (map_some f) is

pub after_none : (n : ℕ) (lines : List FileLine) → n ≡ 0 → after_words ENDED n lines ≡ Ok lines
after_none n lines is = after_no_words ENDED n lines is

-- a line takes its words from those that are left
pub after_line : (n here : ℕ) (line : FileLine) (rest : List FileLine) → 0 < n → here ≡ min n (length line.words)
    → after_words ENDED n (line ∷ rest) ≡ after_words ENDED (n - here) rest
after_line n here line rest some here_is = after_words_of_line ENDED n here line rest some here_is

-- the texts of words
abbrev pub text_of : FileWord → List ℕ
text_of word = word.text

texts_of_line : (line : FileLine) (words : List (List ℕ)) → map text_of (map (word_of line) words) ≡ words
texts_of_line line [] = refl
texts_of_line line (w ∷ ws) = ap (λ (l : List (List ℕ)). w ∷ l) (texts_of_line line ws)

take_min : {X : Type 0} (n : ℕ) (xs : List X) → take n xs ≡ take (min n (length xs)) xs
take_min n xs = elim (cases_lt (length xs) n) [
  | inl less ↦ let same : min n (length xs) ≡ length xs = omega (arith, less) in
      take_all n xs (omega (arith, less)) ∙ sym (take_all (min n (length xs)) xs (omega (arith, same)))
  | inr more ↦ let same : n ≡ min n (length xs) = omega (arith, more) in ap (λ (k : ℕ). take k xs) same
]

texts_line : (n here : ℕ) (line : FileLine) (rest : List FileLine) → here ≡ min n (length line.words)
    → map text_of (first_words n (line ∷ rest)) ≡ take here line.words ++ map text_of (first_words (n - here) rest)
texts_line n here line rest here_is =
    let left : n - length line.words ≡ n - here = omega (arith, here_is) in
    map-append text_of (map (word_of line) (take n line.words)) (first_words (n - length line.words) rest)
    ∙ ap (λ (l : List (List ℕ)). l ++ map text_of (first_words (n - length line.words) rest))
    (texts_of_line line (take n line.words) ∙ take_min n line.words ∙ ap (λ (k : ℕ). take k line.words) (sym here_is))
    ∙ ap (λ (k : ℕ). take here line.words ++ map text_of (first_words k rest)) left

pub names_none : (n : ℕ) (lines : List FileLine) → n ≡ 0 → names n lines ≡ Ok ([], lines)
names_none n lines is = rw (after_none n lines is, no_words n lines is) refl

abbrev with_names : List (List ℕ) → List FileLine → Result (List (List ℕ) × List FileLine) Stop
with_names texts rest = Ok (texts, rest)

-- names after others
abbrev pub after_names : List (List ℕ) → List (List ℕ) × List FileLine → Result (List (List ℕ) × List FileLine) Stop
after_names texts x = Ok (texts ++ x.0, x.1)

texted : (r : Result (List FileLine) Stop) (xs ys : List (List ℕ)) → (r >>= with_names (xs ++ ys)) ≡ ((r >>= with_names ys) >>= after_names xs)
texted (Ok rest) xs ys = refl
texted (Err e) xs ys = refl

pub names_line : (n here : ℕ) (line : FileLine) (rest : List FileLine) → 0 < n → here ≡ min n (length line.words)
    → names n (line ∷ rest) ≡ (names (n - here) rest >>= after_names (take here line.words))
names_line n here line rest some here_is =
    ap (λ (r : Result (List FileLine) Stop). r >>= with_names (map text_of (first_words n (line ∷ rest)))) (after_line n here line rest some here_is)
    ∙ ap (λ (t : List (List ℕ)). after_words ENDED (n - here) rest >>= with_names t) (texts_line n here line rest here_is)
    ∙ texted (after_words ENDED (n - here) rest) (take here line.words) (map text_of (first_words (n - here) rest))

-- the word at a place
get_front : {X : Type 0} (xs ys : List X) (k : ℕ) (x : X) → slice_get xs k ≡ Some x → slice_get (xs ++ ys) k ≡ Some x
get_front [] ys k x is = absurd (none-some x is)
get_front (y ∷ xs) ys zero x is = is
get_front (y ∷ xs) ys (suc k) x is = get_front xs ys k x is

get_after : {X : Type 0} (xs ys : List X) (k n : ℕ) → length xs ≡ n → n ≤ k → slice_get (xs ++ ys) k ≡ slice_get ys (k - n)
get_after [] ys k n none le = let same : k ≡ k - n = omega (arith, none) in ap (slice_get ys) same
get_after (x ∷ xs) ys zero n some le = absurd (omega (arith, some, le))
get_after (x ∷ xs) ys (suc k) n some le =
    let same : k - length xs ≡ suc k - n = omega (arith, some) in
    get_after xs ys k (length xs) refl (omega (arith, some, le)) ∙ ap (slice_get ys) same

get_map : {X Y : Type 0} (f : X → Y) (xs : List X) (k : ℕ) (x : X) → slice_get xs k ≡ Some x → slice_get (map f xs) k ≡ Some (f x)
get_map f [] k x is = absurd (none-some x is)
get_map f (y ∷ xs) zero x is = some_map f y x is
get_map f (y ∷ xs) (suc k) x is = get_map f xs k x is

-- a place among the words of this line
pub word_here : (n here k : ℕ) (line : FileLine) (rest : List FileLine) (word : List ℕ) → here ≡ min n (length line.words) → k < here
    → slice_get line.words k ≡ Some word → slice_get (first_words n (line ∷ rest)) k ≡ Some (word_of line word)
word_here n here k line rest word here_is below is =
    get_front (map (word_of line) (take n line.words)) _ k (word_of line word)
    (get_map (word_of line) (take n line.words) k word (get_take line.words n k (omega (arith, here_is, below)) ∙ is))

-- a place after the words of this line
word_later : (n here k : ℕ) (line : FileLine) (rest : List FileLine) → here ≡ min n (length line.words) → here ≤ k
    → slice_get (first_words n (line ∷ rest)) k ≡ slice_get (first_words (n - here) rest) (k - here)
word_later n here k line rest here_is le =
    let left : n - length line.words ≡ n - here = omega (arith, here_is) in
    get_after (map (word_of line) (take n line.words)) (first_words (n - length line.words) rest) k here
    (length-map (take n line.words) (word_of line) ∙ length-take n line.words ∙ sym here_is) le
    ∙ ap (λ (j : ℕ). slice_get (first_words j rest) (k - here)) left

-- a section that has no words has none at a place
nothing_at : (k : ℕ) (lines : List FileLine) (n : ℕ) → n ≡ 0 → mass_ratio_among n k lines ≡ Err (ended ENDED)
nothing_at k lines n is = rw (no_words n lines is) refl

pub ratio_later : (n here k : ℕ) (line : FileLine) (rest : List FileLine) → here ≡ min n (length line.words) → here ≤ k
    → mass_ratio_among n k (line ∷ rest) ≡ mass_ratio_among (n - here) (k - here) rest
ratio_later n here k line rest here_is le = elim (cases_eq n 0) [
  | inl none ↦ nothing_at k (line ∷ rest) n none ∙ sym (nothing_at (k - here) rest (n - here) (omega (arith, none)))
  | inr some ↦ rw (word_later n here k line rest here_is le, after_line n here line rest (omega (arith, some)) here_is) refl
]

pub ratio_here : (n here k : ℕ) (line : FileLine) (rest : List FileLine) (word : List ℕ) → here ≡ min n (length line.words) → k < here
    → slice_get line.words k ≡ Some word
    → mass_ratio_among n k (line ∷ rest)
    ≡ (at_line line.file line.number (mass_ratio word) >>= λ emrat. after_words ENDED (n - here) rest >>= λ lines. Ok (emrat, lines))
ratio_here n here k line rest word here_is below is =
    rw (word_here n here k line rest word here_is below is, after_line n here line rest (omega (arith, here_is, below)) here_is) refl
