-- How far files were read.
use Rattle.std.specs.Prelude.{◌≡◌, ◌+◌, ◌≤◌, ℕ, List, ◌++◌, length, slice_get, Option, None, IfSome, IsSomeAnd, Result}
use Rattle.std.specs.Io.KnownBytes.{Consumes}
use Rattle.spec_text.specs.Lines.{lines, text_lines}
use Rattle.spec_text.specs.declared.decimals.Fault.{Fault}
use Rattle.spec_text.specs.declared.limits.TheConstants.{MAX_TEXT_BYTES}
use Rattle.spec_files.specs.declared.errors.ReadError.{ReadError}
use Rattle.spec_files.specs.Sections.{FileLine}
use Rattle.spec_files.specs.Lines.{ephemeris}
use Rattle.spec_files.specs.Files.{AreFiles, IsFile}
use Rattle.spec_files.specs.Outcome.{first_fault}
use Rattle.spec_files.specs.Texts.{end_line, first_cut, joined}
use Rattle.gf_edges.specs.Edges.{Files, Lacks}
use Rattle.de_text.specs.Pieces.{AreWholeLines}
use Rattle.gf_files.specs.declared.reader.Fed.{Fed}
use Rattle.gf_files.specs.declared.reader.Reader.{Reader}
use Rattle.gf_files.specs.Reader.{FeedsLines, FeedsPiece, IsFed, IsFirstFault, IsReady, ephemeris_after}

-- the file of this name was taken to its end
pub record TakesFile (files : Option Files) (name : List ℕ) (reader : Reader) (fed : Fed) : Type 0 where
  pub text : List ℕ
  pub there : IsFile files name text
  pub took : IsFed reader text fed

-- the file of this name has the first fault, whatever files follow
pub record StopsAtFile (files : Option Files) (name : List ℕ) (reader : Reader) (fault : Fault) : Type 0 where
  pub text : List ℕ
  pub there : IsFile files name text
  pub first : IsFirstFault reader text fault

-- the files of these names were taken to their ends
pub record HaveRead (files : Option Files) (names : List (List ℕ)) (reader : Reader) (end : ℕ) : Type 0 where
  pub texts : List (List ℕ)
  pub there : AreFiles files names texts
  pub same : (rest : List FileLine) → ephemeris_after 0 reader rest ≡ ephemeris (joined texts ++ rest)
  pub ready : IsReady reader
  pub whole : first_cut texts ≡ None
  pub sound : first_fault texts ≡ None
  pub ends : end ≡ end_line texts

-- files are told, and the first of these names is not there
abbrev pub LacksFirst : Option Files → List (List ℕ) → Type 0
LacksFirst files names = IsSomeAnd (slice_get names 0) (λ name. Lacks files name)

-- of what is left of a file at most one byte more is taken than a file may have
pub record TakesFew (before after : Option (List ℕ)) : Type 0 where
  pub read : List ℕ
  pub taken : Consumes before after read
  pub few : length read ≤ MAX_TEXT_BYTES + 1

-- so many bytes are taken, and stand after those of the text
pub record Grows (before after : Option (List ℕ)) (text new : List ℕ) (count : ℕ) : Type 0 where
  pub read : List ℕ
  pub taken : Consumes before after read
  pub is : new ≡ text ++ read
  pub size : length read ≡ count

-- what was left of a file was taken to its end
pub record TakesRest (left : Option (List ℕ)) (reader : Reader) (fed : Fed) : Type 0 where
  pub text : List ℕ
  pub is : IfSome left (λ bytes. bytes ≡ text)
  pub took : IsFed reader text fed

-- what was left of a file has the first fault, whatever files follow
pub record StopsInRest (left : Option (List ℕ)) (reader : Reader) (fault : Fault) : Type 0 where
  pub text : List ℕ
  pub is : IfSome left (λ bytes. bytes ≡ text)
  pub first : IsFirstFault reader text fault

-- so many bytes of a file were taken: whole lines that were given to a reader, and these bytes after them, which were not
pub record IsGiven (reader : Reader) (before after : Option (List ℕ)) (window : List ℕ) (taken : ℕ) (fed : Result Fed ReadError) : Type 0 where
  pub given : List ℕ
  pub read : Consumes before after (given ++ window)
  pub size : length given + length window ≡ taken
  pub whole : AreWholeLines given
  pub feeds : FeedsLines reader (text_lines given) (length (lines given) + 1) fed

-- the whole lines at the front of these bytes were given to a reader
pub record GivesLines (window left : List ℕ) (old new : Result Fed ReadError) : Type 0 where
  pub piece : List ℕ
  pub is : window ≡ piece ++ left
  pub whole : AreWholeLines piece
  pub feeds : FeedsPiece old piece new
