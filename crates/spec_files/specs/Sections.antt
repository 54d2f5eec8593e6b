-- Sections: the parts into which the list of the lines of all files is cut, from its front on.
use Rattle.std.specs.Prelude.{ℕ, ◌-◌, ◌==◌, Bool, false, List, [], ◌∷◌, ◌++◌, length, take, map, slice_get, Option, None, Some, Result, Ok, Err, if◌then◌else◌}
use Rattle.std.specs.Str.{bytes_eq}
use Rattle.spec_text.specs.declared.decimals.Fault.{Fault}
pub use Rattle.spec_text.specs.Results.{◌>>=◌}
use Rattle.spec_files.specs.declared.rules.BrokenRule.{BrokenRule}

-- a line of one of the files, which are counted from 0; it is not blank
pub record FileLine : Type 0 where
  pub file : ℕ
  pub number : ℕ
  pub words : List (List ℕ)

-- a word, and where its line stands
pub record FileWord : Type 0 where
  pub file : ℕ
  pub line : ℕ
  pub text : List ℕ

-- why a list of lines is refused: it ends too early, under this number, or a line of this file breaks a rule
pub data Stop : Type 0 where
  ended : ℕ → Stop
  breaks : ℕ → Fault → Stop

abbrev pub broken : ℕ → ℕ → BrokenRule
broken number detail = record { number = number; detail = detail }

-- the fault of a line that breaks this rule
abbrev pub line_fault : ℕ → BrokenRule → Fault
line_fault line rule = record { line = line; number = rule.number; detail = rule.detail }

-- the answer of a rule for the line of this number, with its fault where it is broken
abbrev pub ruled_at : {A : Type 0} → ℕ → Result A BrokenRule → Result A Fault
ruled_at number (Ok x) = Ok x
ruled_at number (Err rule) = Err (line_fault number rule)

-- the same for this line of this file
abbrev pub at_line : {A : Type 0} → ℕ → ℕ → Result A BrokenRule → Result A Stop
at_line file number (Ok x) = Ok x
at_line file number (Err rule) = Err (breaks file (line_fault number rule))

-- a section of one line, and the lines after it
abbrev pub one_line : {A : Type 0} → ℕ → (List (List ℕ) → Result A BrokenRule) → List FileLine → Result (A × List FileLine) Stop
one_line late rule [] = Err (ended late)
one_line late rule (line ∷ rest) = at_line line.file line.number (rule line.words) >>= λ x. Ok (x, rest)

-- whether the word at a place of a line is this one
abbrev pub is_word : Option (List ℕ) → List ℕ → Bool
is_word None text = false
is_word (Some word) text = bytes_eq word text

-- the lines from the first that begins with this word on
abbrev pub from_word : List ℕ → List FileLine → List FileLine
from_word text [] = []
from_word text (line ∷ rest) = if is_word (slice_get line.words 0) text then line ∷ rest else from_word text rest

abbrev pub word_of : FileLine → List ℕ → FileWord
word_of line text = record { file = line.file; line = line.number; text = text }

-- the first n words of the lines, or all where there are fewer
abbrev pub first_words : ℕ → List FileLine → List FileWord
first_words n [] = []
first_words n (line ∷ rest) = map (word_of line) (take n line.words) ++ first_words (n - length line.words) rest

-- the lines after those that hold the first n words
abbrev pub lines_after : ℕ → List FileLine → List FileLine
lines_after n [] = []
lines_after n (line ∷ rest) = if n == 0 then line ∷ rest else lines_after (n - length line.words) rest

-- the lines after a section of n words; the other words on the line of its last one are skipped
abbrev pub after_words : ℕ → ℕ → List FileLine → Result (List FileLine) Stop
after_words late n lines = if length (first_words n lines) == n then Ok (lines_after n lines) else Err (ended late)
