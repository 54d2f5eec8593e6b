-- Words and lines that are read as they are written, and the text that lines make.
use Rattle.std.specs.Prelude.{◌≡◌, ℕ, ◌<◌, ◌≤◌, false, List, [], ◌∷◌, ◌++◌, length}
use Rattle.std.specs.List.{All}
use Rattle.std.specs.Str.Lines.{strip_carriage_return}
use Rattle.spec_text.specs.Bytes.{line_feed}
use Rattle.spec_text.specs.Lines.{is_line_feed, tokens}
use Rattle.spec_text.specs.declared.limits.TheConstants.{MAX_LINE_BYTES, MAX_WORD_BYTES}

-- the bytes are this one or later ones
abbrev pub AreFrom : ℕ → List ℕ → Type 0
AreFrom least [] = Unit {0}
AreFrom least (b ∷ bs) = (least ≤ b) × AreFrom least bs

-- bytes after the blank, no more than a decimal may have
pub record IsPlain (word : List ℕ) : Type 0 where
  pub bytes : AreFrom 33 word
  pub short : length word ≤ MAX_WORD_BYTES

-- no line feed, no carriage return at the end, not too long, and some words
pub record IsLine (line : List ℕ) : Type 0 where
  pub no_feeds : All (λ b. is_line_feed b ≡ false) line
  pub no_return : strip_carriage_return line ≡ line
  pub short : length line ≤ MAX_LINE_BYTES
  pub some : 0 < length (tokens line)

abbrev pub AreLines : List (List ℕ) → Type 0
AreLines [] = Unit {0}
AreLines (line ∷ rest) = IsLine line × AreLines rest

-- each line ends with a line feed
unfoldable pub joined_lines : List (List ℕ) → List ℕ
joined_lines [] = []
joined_lines (line ∷ rest) = line ++ line_feed ∷ joined_lines rest
