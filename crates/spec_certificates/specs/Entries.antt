-- What the lines of a certificate say: the first, the second, and those after them.
use Rattle.std.specs.Prelude.{ℕ, ◌&&◌, ◌==◌, nat_lt, nat_le, Bool, true, false, List, [], ◌∷◌, length, codes, Option, None, Some, option_map, if◌then◌else◌, ℤ, pos, neg_ℤ}
use Rattle.std.specs.Char.{is_ascii_digit}
use Rattle.std.specs.List.{list_all}
use Rattle.std.specs.Str.{bytes_eq}
use Rattle.spec_text.specs.Bytes.{minus_sign}
use Rattle.spec_text.specs.Decimals.{value}
use Rattle.spec_trees.specs.declared.tree.Mark.{Mark}
use Rattle.spec_trees.specs.declared.tree.Mark.TheVariants.{Clear, One, Undecided}
use Rattle.spec_trees.specs.declared.tree.Turn.TheVariants.{Rise, Fall}
use Rattle.spec_certificates.specs.declared.entry.Entry.{Entry}
use Rattle.spec_certificates.specs.declared.entry.Entry.TheVariants as entry
use Rattle.spec_certificates.specs.declared.limits.TheConstants.{MAX_TIME_DIGITS, MAX_DEPTH_DIGITS, MAX_COUNT_DIGITS}

-- ---- words

-- the same words, in the same order
abbrev pub are_same : List (List ℕ) → List (List ℕ) → Bool
are_same [] [] = true
are_same [] (w ∷ ws) = false
are_same (v ∷ vs) [] = false
are_same (v ∷ vs) (w ∷ ws) = bytes_eq v w && are_same vs ws

-- the number that a word of 1 to `most` digits is
abbrev pub count_of : ℕ → List ℕ → Option ℕ
count_of most word =
    if list_all is_ascii_digit word && (nat_lt 0 (length word) && nat_le (length word) most) then Some (value word)
    else None

-- a time: perhaps a minus sign, and digits
abbrev pub time_of : List ℕ → Option ℤ
time_of [] = None
time_of (b ∷ word) =
    if b == minus_sign then option_map (λ n. neg_ℤ (pos n)) (count_of MAX_TIME_DIGITS word)
    else option_map (λ n. pos n) (count_of MAX_TIME_DIGITS (b ∷ word))

-- the letters of marks
abbrev pub mark_of_word : List ℕ → Option Mark
mark_of_word word =
    if bytes_eq word (codes "N") then Some Clear
    else if bytes_eq word (codes "R") then Some (One Rise)
    else if bytes_eq word (codes "F") then Some (One Fall)
    else if bytes_eq word (codes "U") then Some Undecided
    else None

-- ---- lines

-- the first line
abbrev pub form_words : List (List ℕ)
form_words = codes "CERT" ∷ codes "1" ∷ []

-- a leaf of these times at this depth with this mark, where all are there
abbrev pub leaf_from : Option ℤ → Option ℤ → Option ℕ → Option Mark → Option Entry
leaf_from (Some a) (Some b) (Some depth) (Some mark) =
    Some (entry.Leaf (record { node = record { a = a; b = b; depth = depth }; mark = mark }))
leaf_from a b depth mark = None

-- `L` and the leaf's first time, last time, depth and mark
abbrev pub leaf_in : List ℕ → List ℕ → List ℕ → List ℕ → List ℕ → Option Entry
leaf_in word a b depth mark =
    if bytes_eq word (codes "L") then
    leaf_from (time_of a) (time_of b) (count_of MAX_DEPTH_DIGITS depth) (mark_of_word mark)
    else None

-- `END leaves` and their number
abbrev pub end_in : List ℕ → List ℕ → List ℕ → Option Entry
end_in word name count =
    if bytes_eq word (codes "END") && bytes_eq name (codes "leaves") then
    option_map (λ n. entry.End n) (count_of MAX_COUNT_DIGITS count)
    else None

-- what a line says after the second
abbrev pub entry_of : List (List ℕ) → Option Entry
entry_of (word ∷ name ∷ count ∷ []) = end_in word name count
entry_of (word ∷ a ∷ b ∷ depth ∷ mark ∷ []) = leaf_in word a b depth mark
entry_of words = None
