-- What a call replies: its status, and the text that it writes.
use Rattle.std.specs.Prelude.{◌≡◌, ◌≢◌, ◌+◌, ◌++◌, ℕ, List, [], length, take, drop, Some}
use Rattle.gf_edges.specs.Edges.{Files}
use Rattle.spec_outcomes.specs.declared.refusal.Refusal.{Refusal}
use Rattle.spec_outcomes.specs.declared.statuses.TheConstants.{REPORTED}
use Rattle.spec_outcomes.specs.Refusals.{line_of, status_of}
use Rattle.gf_find.specs.Outcomes.{HaveCause, Words, texts_of}
use Rattle.gf_find.specs.Texts.{IsAnswered}
use Rattle.finder_c.specs.declared.reply.TheConstants.{MALFORMED}
use Rattle.finder_c.specs.Layout.{AreFiles, AreWords}

-- ---- what is asked
-- bytes are words, others are files, and P holds for both
pub record Call (words files : List ℕ) (P : Words → Files → Type 0) : Type 0 where
  pub given : Words
  pub shelf : Files
  pub are_words : AreWords words (texts_of given)
  pub are_files : AreFiles files shelf
  pub is : P given shelf

-- bytes are no words, or others are no files
abbrev pub IsMalformed : List ℕ → List ℕ → Type 0
IsMalformed words files = (given : List (List ℕ)) (shelf : Files) → AreWords words given → AreFiles files shelf → ⊥

-- ---- what is replied
-- the words ask for this text over the files
abbrev pub IsText : List ℕ → Words → Files → Type 0
IsText text words files = IsAnswered words (Some files) text

-- the words and the files are refused for a cause, of which these are the status and the line; no file that is there fails
pub record IsLine (status : ℕ) (line : List ℕ) (words : Words) (files : Files) : Type 0 where
  pub refusal : Refusal
  pub cause : HaveCause words (Some files) 0 0 refusal
  pub status_is : status ≡ status_of refusal
  pub line_is : line ≡ line_of refusal

-- a status and a text are the reply to a call
pub record IsReply (words files : List ℕ) (status : ℕ) (text : List ℕ) : Type 0 where
  pub malformed : status ≡ MALFORMED → IsMalformed words files
  pub no_text : status ≡ MALFORMED → text ≡ []
  pub reported : status ≡ REPORTED → Call words files (IsText text)
  pub refused : status ≢ MALFORMED → status ≢ REPORTED → Call words files (IsLine status text)

-- ---- what is written
-- the start of memory has a text, as far as it fits, the rest is as it was, and the length is that of the whole text
pub record IsWritten (text old new : List ℕ) (count : ℕ) : Type 0 where
  pub counted : count ≡ length text
  pub bytes : new ≡ take (length old) text ++ drop (length text) old

-- a text was written of which P holds
pub record Writes (P : List ℕ → Type 0) (old new : List ℕ) (count : ℕ) : Type 0 where
  pub text : List ℕ
  pub written : IsWritten text old new count
  pub is : P text
