-- Lines of words, far below the limit of a line, and the one file that their text is.
use Rattle.std.proofs.Common.{◌≡◌, ◌+◌, ◌*◌, ◌<◌, ◌≤◌, ℕ, false, List, [], ◌∷◌, ◌++◌, length, None, refl, ap, ◌∙◌, arith, append-nil, nat_lt}
use Rattle.std.proofs.lemmas.Bool.{le-ltb}
use Rattle.std.proofs.lemmas.List.{length-append}
use Rattle.spec_text.specs.Lines.{numbered_from, text_lines, tokens}
use Rattle.spec_text.specs.Printed.{AreFrom, AreLines, joined_lines}
use Rattle.spec_text.proofs.Printed.{printed, text_lines_are}
use Rattle.spec_files.specs.FileLines.{first_long, readable}
use Rattle.spec_files.specs.Sections.{FileLine}
use Rattle.spec_files.specs.Texts.{first_cut, joined}

-- a line of printed bytes, with words
pub record IsShortLine (line : List ℕ) : Type 0 where
  pub bytes : AreFrom 32 line
  pub short : length line ≤ 200
  pub some : 0 < length (tokens line)

abbrev pub AreShortLines : List (List ℕ) → Type 0
AreShortLines [] = Unit {0}
AreShortLines (line ∷ rest) = IsShortLine line × AreShortLines rest

pub short_append : (xs ys : List (List ℕ)) → AreShortLines xs → AreShortLines ys → AreShortLines (xs ++ ys)
short_append [] ys xs_are ys_are = ys_are
short_append (x ∷ xs) ys xs_are ys_are = (xs_are.0, short_append xs ys xs_are.1 ys_are)

are_lines : (ls : List (List ℕ)) → AreShortLines ls → AreLines ls
are_lines [] are = tt
are_lines (line ∷ rest) are = (printed line are.0.bytes (omega (arith, are.0.short)) are.0.some, are_lines rest are.1)

-- lines of the first file, from this number on
unfoldable pub lines_at : ℕ → List (List ℕ) → List FileLine
lines_at n [] = []
lines_at n (line ∷ rest) = record { file = 0; number = n; words = tokens line } ∷ lines_at (n + 1) rest

not_long : (line : List ℕ) → IsShortLine line → nat_lt 4096 (length line) ≡ false
not_long line short = le-ltb 4096 (length line) (omega (arith, short.short))

all_readable : (n : ℕ) (ls : List (List ℕ)) → AreShortLines ls → readable 0 (numbered_from n ls) ≡ lines_at n ls
unfolding lines_at
all_readable n [] are = refl
all_readable n (line ∷ rest) are =
    rw (not_long line are.0) (ap (λ (l : List FileLine). record { file = 0; number = n; words = tokens line } ∷ l) (all_readable (n + 1) rest are.1))

none_long : (n : ℕ) (ls : List (List ℕ)) → AreShortLines ls → first_long (numbered_from n ls) ≡ None
none_long n [] are = refl
none_long n (line ∷ rest) are = rw (not_long line are.0) (none_long (n + 1) rest are.1)

text_small : (ls : List (List ℕ)) → AreShortLines ls → length (joined_lines ls) ≤ 201 * length ls
unfolding joined_lines
text_small [] are = omega arith
text_small (line ∷ rest) are =
    omega (arith, length-append line (10 ∷ joined_lines rest), are.0.short, text_small rest are.1)

-- what such lines are as the one file
pub record IsFile (ls : List (List ℕ)) : Type 0 where
  pub lines : joined (joined_lines ls ∷ []) ≡ lines_at 1 ls
  pub whole : first_cut (joined_lines ls ∷ []) ≡ None

pub is_file : (ls : List (List ℕ)) → AreShortLines ls → length ls ≤ 1000000 → IsFile ls
is_file ls are few =
    let numbers : text_lines (joined_lines ls) ≡ numbered_from 1 ls = text_lines_are ls (are_lines ls are) in
    let small : nat_lt 268435456 (length (joined_lines ls)) ≡ false =
    le-ltb 268435456 (length (joined_lines ls)) (omega (arith, text_small ls are, few)) in
    let long : first_long (text_lines (joined_lines ls)) ≡ None = ap first_long numbers ∙ none_long 1 ls are in
    record {
      lines = rw (small, long) (append-nil (readable 0 (text_lines (joined_lines ls))) ∙ ap (readable 0) numbers ∙ all_readable 1 ls are);
      whole = rw (small, long) refl;
    }
