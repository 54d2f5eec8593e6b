-- The lines of a text that ends with a line feed, whatever follows.
use Rattle.std.proofs.Common.{◌≡◌, ◌≢◌, ℕ, zero, suc, ◌+◌, ◌-◌, ◌≤◌, ◌<◌, true, List, [], ◌∷◌, ◌++◌, length, get_or, map, take, drop, ne_eqb, refl, sym, ap, ◌∙◌, subst, inl, inr, append-nil, append_assoc, arith}
use Rattle.std.specs.List.{slice_split, onto_first}
use Rattle.std.specs.Str.Lines.{strip_carriage_return}
use Rattle.std.proofs.lemmas.Bool.{cases_Bool}
use borrow.Author.Tests.{eqb-true}
use Rattle.std.proofs.lemmas.List.{get_or-drop, length-drop}
use Rattle.std.proofs.lemmas.List.Splits.{slice_split-cons_yes, slice_split-cons_no}
use Rattle.spec_text.specs.Bytes.{line_feed}
use Rattle.spec_text.specs.Lines.{is_line_feed, lines, without_empty_end}
use Rattle.de_text.specs.Pieces.{AreWholeLines}

abbrev Parts : Type 0
Parts = List (List ℕ)

abbrev parts : List ℕ → Parts
parts text = slice_split is_line_feed text

-- a text has a first part
record Parted (text : List ℕ) : Type 0 where
  first : List ℕ
  rest : Parts
  is : parts text ≡ first ∷ rest

onto_is : (b : ℕ) (ps : Parts) → (first : List ℕ) × (rest : Parts) × (onto_first b ps ≡ first ∷ rest)
onto_is b [] = (b ∷ [], [], refl)
onto_is b (part ∷ ps) = (b ∷ part, ps, refl)

parted : (text : List ℕ) → Parted text
parted [] = record { first = []; rest = []; is = refl }
parted (b ∷ bs) = elim (cases_Bool (is_line_feed b)) [
  | inl feed ↦ record { first = []; rest = parts bs; is = slice_split-cons_yes is_line_feed b bs feed }
  | inr other ↦
      let onto = onto_is b (parts bs) in
      record { first = onto.0; rest = onto.1; is = slice_split-cons_no is_line_feed b bs other ∙ onto.2 }
]

onto_more : (b : ℕ) (text : List ℕ) (more : Parts) → onto_first b (parts text ++ more) ≡ onto_first b (parts text) ++ more
onto_more b text more =
    let front = parted text in
    ap (λ (ps : Parts). onto_first b (ps ++ more)) front.is ∙ ap (λ (ps : Parts). onto_first b ps ++ more) (sym front.is)

-- the parts of two texts with a line feed between them
parts_join : (text rest : List ℕ) → parts (text ++ line_feed ∷ rest) ≡ parts text ++ parts rest
parts_join [] rest = slice_split-cons_yes is_line_feed line_feed rest refl
parts_join (b ∷ bs) rest = elim (cases_Bool (is_line_feed b)) [
  | inl feed ↦
      slice_split-cons_yes is_line_feed b (bs ++ line_feed ∷ rest) feed
      ∙ ap (λ (ps : Parts). [] ∷ ps) (parts_join bs rest)
      ∙ ap (λ (ps : Parts). ps ++ parts rest) (sym (slice_split-cons_yes is_line_feed b bs feed))
  | inr other ↦
      slice_split-cons_no is_line_feed b (bs ++ line_feed ∷ rest) other
      ∙ ap (onto_first b) (parts_join bs rest)
      ∙ onto_more b bs (parts rest)
      ∙ ap (λ (ps : Parts). ps ++ parts rest) (sym (slice_split-cons_no is_line_feed b bs other))
]

-- only the end of the last parts is dropped
end_of_last : (ps : Parts) (first : List ℕ) (more : Parts) → without_empty_end (ps ++ first ∷ more) ≡ ps ++ without_empty_end (first ∷ more)
end_of_last [] first more = refl
end_of_last (p ∷ []) first more = refl
end_of_last (p ∷ next ∷ ps) first more = ap (λ (l : Parts). p ∷ l) (end_of_last (next ∷ ps) first more)

map_join : (xs ys : Parts) → map strip_carriage_return (xs ++ ys) ≡ map strip_carriage_return xs ++ map strip_carriage_return ys
map_join [] ys = refl
map_join (x ∷ xs) ys = ap (λ (l : Parts). strip_carriage_return x ∷ l) (map_join xs ys)

lines_join : (text rest : List ℕ) → lines (text ++ line_feed ∷ rest) ≡ map strip_carriage_return (parts text) ++ lines rest
lines_join text rest =
    let after = parted rest in
    ap (λ (ps : Parts). map strip_carriage_return (without_empty_end ps)) (parts_join text rest)
    ∙ ap (λ (ps : Parts). map strip_carriage_return (without_empty_end (parts text ++ ps))) after.is
    ∙ ap (map strip_carriage_return) (end_of_last (parts text) after.first after.rest)
    ∙ map_join (parts text) (without_empty_end (after.first ∷ after.rest))
    ∙ ap (λ (ps : Parts). map strip_carriage_return (parts text) ++ map strip_carriage_return (without_empty_end ps)) (sym after.is)

pub whole_at_end : (text : List ℕ) → AreWholeLines (text ++ line_feed ∷ [])
whole_at_end text = λ more.
    ap lines (append_assoc text (line_feed ∷ []) more)
    ∙ lines_join text more
    ∙ ap (λ (l : Parts). l ++ lines more) (sym (lines_join text [] ∙ append-nil (map strip_carriage_return (parts text))))

take_one_more : (text : List ℕ) (i : ℕ) → i < length text → take (suc i) text ≡ take i text ++ get_or text i 0 ∷ []
take_one_more [] i below = absurd (omega (arith, below))
take_one_more (b ∷ bs) zero below = refl
take_one_more (b ∷ bs) (suc i) below = ap (λ (l : List ℕ). b ∷ l) (take_one_more bs i (omega (arith, below)))

-- up to a line feed with it
pub whole_upto : (text : List ℕ) (i : ℕ) → i < length text → get_or text i 0 ≡ line_feed → AreWholeLines (take (i + 1) text)
whole_upto text i below is =
    let next : suc i ≡ i + 1 = omega arith in
    let front : take (i + 1) text ≡ take i text ++ line_feed ∷ [] =
    ap (λ (n : ℕ). take n text) (sym next) ∙ take_one_more text i below ∙ ap (λ (b : ℕ). take i text ++ b ∷ []) is in
    subst AreWholeLines (sym front) (whole_at_end (take i text))

-- the same, by the place of the line feed in a later part of the text
pub whole_after : (text part : List ℕ) (from at : ℕ) → part ≡ drop from text → from ≤ length text → at < length part → is_line_feed (get_or part at 0) ≡ true
    → AreWholeLines (take (from + at + 1) text)
whole_after text part from at is within below feed =
    let size : length part ≡ length text - from = ap length is ∙ length-drop from text in
    let byte : get_or text (from + at) 0 ≡ line_feed = sym (get_or-drop from text at 0) ∙ ap (λ (l : List ℕ). get_or l at 0) (sym is) ∙ eqb-true (get_or part at 0) line_feed feed in
    whole_upto text (from + at) (omega (arith, size, within, below)) byte

pub whole_nothing : AreWholeLines []
whole_nothing = λ more. refl

few_by : (parts : Parts) (n : ℕ) → length (without_empty_end parts) ≤ n → (b : ℕ) → length (without_empty_end (onto_first b parts)) ≤ n + 1
few_by [] n few b = omega arith
few_by (p ∷ []) n few b =
    let some : length (b ∷ p) ≢ 0 = λ e. absurd (omega (arith, e)) in
    let one : without_empty_end ((b ∷ p) ∷ []) ≡ (b ∷ p) ∷ [] = rw (ne_eqb (length (b ∷ p)) 0 some) refl in
    omega (arith, ap length one)
few_by (p ∷ next ∷ ps) n few b = omega (arith, few)

few_behind : (text : List ℕ) (n : ℕ) → length (without_empty_end (parts text)) ≤ n → length (without_empty_end ([] ∷ parts text)) ≤ n + 1
few_behind text n few =
    let front = parted text in
    let same : length (without_empty_end ([] ∷ parts text)) ≡ length (without_empty_end (parts text)) + 1 =
    ap (λ (ps : Parts). length (without_empty_end ([] ∷ ps))) front.is ∙ (omega arith) ∙ ap (λ (ps : Parts). length (without_empty_end ps) + 1) (sym front.is) in
    omega (arith, few, same)

few_parts : (text : List ℕ) → length (without_empty_end (parts text)) ≤ length text
few_parts [] = omega arith
few_parts (b ∷ bs) = elim (cases_Bool (is_line_feed b)) [
  | inl feed ↦
      rw (slice_split-cons_yes is_line_feed b bs feed)
      (let few = few_behind bs (length bs) (few_parts bs) in omega (arith, few))
  | inr other ↦
      rw (slice_split-cons_no is_line_feed b bs other)
      (let few = few_by (parts bs) (length bs) (few_parts bs) b in omega (arith, few))
]

length_map : (ps : Parts) → length (map strip_carriage_return ps) ≡ length ps
length_map [] = refl
length_map (p ∷ ps) = ap (λ (n : ℕ). suc n) (length_map ps)

-- a line has a byte, or its line feed
pub few_lines : (text : List ℕ) → length (lines text) ≤ length text
few_lines text = let same = length_map (without_empty_end (parts text)) in let few = few_parts text in omega (arith, same, few)
