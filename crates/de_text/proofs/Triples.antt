-- A line of three numbers at the front of a text.
use Rattle.std.proofs.Common.{◌≡◌, ℕ, ◌+◌, ◌-◌, ◌<◌, ◌≤◌, true, false, List, [], ◌∷◌, Ok, length, length-drop, length-take, get_or, take, drop, refl, sym, ap, ◌∙◌, inl, inr, arith}
use Rattle.std.specs.Str.Lines.{strip_carriage_return}
use Rattle.std.proofs.lemmas.Bool.{cases_lt, lt-ltb, le-ltb}
use Rattle.std.proofs.lemmas.List.{get_or-drop, get_or-take}
use Rattle.spec_text.specs.Lines.{counted_lines, is_line_feed, is_separator, lines, numbered_from, tokens}
use Rattle.spec_text.specs.Reading.{reading}
use Rattle.spec_text.specs.declared.limits.TheConstants.{MAX_LINE_BYTES}
use Rattle.spec_text.proofs.LineLemmas.{line_at}
use Rattle.de_text.specs.Cursor.{counted_after}
use Rattle.de_text.specs.Steps.{lines_after, step_of}
use Rattle.de_text.specs.Triples.{AreTriple}
use Rattle.de_text.specs.declared.cursor.LineStep.TheVariants.{Line}
use Rattle.de_text.specs.declared.triple.Triple.{Triple}

-- ---- three fields
pub are_triple : (line more last rest : List ℕ) (triple : Triple) (a b c : List ℕ) → tokens line ≡ a ∷ tokens more → tokens more ≡ b ∷ tokens last
    → tokens last ≡ c ∷ tokens rest → tokens rest ≡ [] → Ok triple.first ≡ reading a → Ok triple.second ≡ reading b → Ok triple.third ≡ reading c
    → AreTriple (tokens line) triple
are_triple line more last rest triple a b c one two three none reads_one reads_two reads_three = record {
  first = a;
  second = b;
  third = c;
  are = one ∙ ap (λ (ws : List (List ℕ)). a ∷ ws) (two ∙ ap (λ (ws : List (List ℕ)). b ∷ ws) (three ∙ ap (λ (ws : List (List ℕ)). c ∷ ws) none));
  first_reads = reads_one;
  second_reads = reads_two;
  third_reads = reads_three;
}

-- its words are some
pub some_triple : (words : List (List ℕ)) (triple : Triple) → AreTriple words triple → 0 < length words
some_triple words triple are = omega (arith, ap length are.are)

-- a byte behind the first ones
behind : (n : ℕ) (xs ys : List ℕ) (k : ℕ) → ys ≡ drop n xs → n ≤ k → get_or xs k 0 ≡ get_or ys (k - n) 0
behind n xs ys k is past =
    let place : n + (k - n) ≡ k = omega (arith, past) in
    sym (ap (λ (l : List ℕ). get_or l (k - n) 0) is ∙ get_or-drop n xs (k - n) 0 ∙ ap (λ (j : ℕ). get_or xs j 0) place)

-- the word of a field ends with it, where a separator or nothing follows
pub ends_with : (field rest : List ℕ) → rest ≡ drop 26 field → (0 < length rest → is_separator (get_or rest 0 0) ≡ true)
    → 26 < length field → is_separator (get_or field 26 0) ≡ true
ends_with field rest is first long =
    ap is_separator (behind 26 field rest 26 is (omega arith)) ∙ first (omega (arith, long, ap length is, length-drop 26 field))

-- no line feed among so many bytes at the front
abbrev IsFeedless : ℕ → List ℕ → Type 0
IsFeedless n bytes = (k : ℕ) → k < n → is_line_feed (get_or bytes k 0) ≡ false

pub three_feedless : (line more last : List ℕ) → more ≡ drop 26 line → last ≡ drop 26 more → IsFeedless 26 line → IsFeedless 26 more → IsFeedless 26 last
    → IsFeedless 78 line
three_feedless line more last after then one two three k below = elim (cases_lt k 26) [
  | inl first ↦ one k first
  | inr past ↦ elim (cases_lt k 52) [
    | inl second ↦ ap is_line_feed (behind 26 line more k after past) ∙ two (k - 26) (omega (arith, past, second))
    | inr far ↦
        let here : get_or line k 0 ≡ get_or last (k - 26 - 26) 0 =
        behind 26 line more k after past ∙ behind 26 more last (k - 26) then (omega (arith, far)) in
        ap is_line_feed here ∙ three (k - 26 - 26) (omega (arith, far, below))
  ]
]

pub three_long : (line more last : List ℕ) → more ≡ drop 26 line → last ≡ drop 26 more → 26 ≤ length line → 26 ≤ length more → 26 ≤ length last
    → 78 ≤ length line
three_long line more last after then one two three =
    omega (arith, ap length after, ap length then, length-drop 26 line, length-drop 26 more, one, two, three)

-- ---- the end of the line
pub wide_between : (text : List ℕ) (k : ℕ) → get_or text 78 0 ≡ 32 → get_or text 79 0 ≡ 32 → get_or text 80 0 ≡ 13 → 78 ≤ k → k < 81
    → is_line_feed (get_or text k 0) ≡ false
wide_between text k first second third past below = elim (cases_lt k 79) [
  | inl one ↦
      let is : k ≡ 78 = omega (arith, past, one) in
      ap (λ (j : ℕ). is_line_feed (get_or text j 0)) is ∙ ap is_line_feed first
  | inr more ↦ elim (cases_lt k 80) [
    | inl two ↦
        let is : k ≡ 79 = omega (arith, more, two) in
        ap (λ (j : ℕ). is_line_feed (get_or text j 0)) is ∙ ap is_line_feed second
    | inr last ↦
        let is : k ≡ 80 = omega (arith, last, below) in
        ap (λ (j : ℕ). is_line_feed (get_or text j 0)) is ∙ ap is_line_feed third
  ]
]

pub bare_between : (text : List ℕ) (k : ℕ) → get_or text 78 0 ≡ 32 → get_or text 79 0 ≡ 32 → 78 ≤ k → k < 80
    → is_line_feed (get_or text k 0) ≡ false
bare_between text k first second past below = elim (cases_lt k 79) [
  | inl one ↦
      let is : k ≡ 78 = omega (arith, past, one) in
      ap (λ (j : ℕ). is_line_feed (get_or text j 0)) is ∙ ap is_line_feed first
  | inr more ↦
      let is : k ≡ 79 = omega (arith, more, below) in
      ap (λ (j : ℕ). is_line_feed (get_or text j 0)) is ∙ ap is_line_feed second
]

pub near_between : (text : List ℕ) (k : ℕ) → get_or text 78 0 ≡ 13 → 78 ≤ k → k < 79 → is_line_feed (get_or text k 0) ≡ false
near_between text k first past below =
    let is : k ≡ 78 = omega (arith, past, below) in
    ap (λ (j : ℕ). is_line_feed (get_or text j 0)) is ∙ ap is_line_feed first

-- ---- the line
module _ (text line : List ℕ) (end : ℕ) (prefix : line ≡ take (length line) (take end text)) where
  pub cut_short : end ≤ 81 → length line ≤ 81
  cut_short near = omega (arith, ap length prefix, length-take (length line) (take end text), length-take end text, near)

  pub cut_lines : line ≡ strip_carriage_return (take end text) → end < length text → is_line_feed (get_or text end 0) ≡ true
      → ((k : ℕ) → 78 ≤ k → k < end → is_line_feed (get_or text k 0) ≡ false) → IsFeedless 78 line → 78 ≤ length line
      → lines text ≡ line ∷ lines (drop (end + 1) text)
  cut_lines is below at between inner long =
      let before : (k : ℕ) → k < end → is_line_feed (get_or text k 0) ≡ false = λ k h. elim (cases_lt k 78) [
        | inl low ↦
            let same : get_or line k 0 ≡ get_or text k 0 =
            ap (λ (l : List ℕ). get_or l k 0) prefix ∙ get_or-take (length line) (take end text) k 0 (omega (arith, low, long)) ∙ get_or-take end text k 0 h in
            ap is_line_feed (sym same) ∙ inner k low
        | inr high ↦ between k high h
      ] in
      line_at text end below before at ∙ ap (λ (l : List ℕ). l ∷ lines (drop (end + 1) text)) (sym is)

-- ---- the cursor at that line
module _ (before : ℕ) (text line rest : List ℕ) (is : lines text ≡ line ∷ lines rest) (short : length line ≤ 81) (some : 0 < length (tokens line)) where
  is_short : length line ≤ MAX_LINE_BYTES
  is_short = omega (arith, short)

  pub first_counted : counted_after before text ≡ record { number = before + 1; bytes = line } ∷ counted_after (before + 1) rest
  first_counted =
      ap (λ (ls : List (List ℕ)). counted_lines (numbered_from (before + 1) ls)) is
      ∙ rw (le-ltb MAX_LINE_BYTES (length line) is_short, lt-ltb 0 (length (tokens line)) some) refl

  pub first_step : step_of (counted_after before text) ≡ Line (record { number = before + 1; tokens = tokens line })
  first_step = ap step_of first_counted ∙ rw (le-ltb MAX_LINE_BYTES (length line) is_short) refl

  pub first_left : counted_after (before + 1) rest ≡ lines_after (counted_after before text)
  first_left = sym (ap lines_after first_counted ∙ rw (le-ltb MAX_LINE_BYTES (length line) is_short) refl)
