-- What a reader has to do with the ephemeris of the lines of all files, and what it comes to over the text of one file.
use Rattle.std.specs.Prelude.{◌≡◌, ◌⊎◌, ℕ, ◌+◌, ◌-◌, ◌≤◌, List, [], ◌∷◌, ◌++◌, length, None, Some, Result, Ok, Err}
use Rattle.spec_text.specs.Lines.{Numbered, TokenLine, lines}
use Rattle.spec_text.specs.declared.limits.TheConstants.{MAX_TEXT_BYTES}
use Rattle.spec_text.specs.declared.decimals.Fault.{Fault}
use Rattle.spec_ephemeris.specs.Ephemeris.{Ephemeris}
use Rattle.spec_files.specs.HeaderLines.{header}
use Rattle.spec_files.specs.Sections.{FileLine, Stop, ended, breaks, ◌>>=◌}
use Rattle.spec_files.specs.Blocks.{blocks}
use Rattle.spec_files.specs.FileLines.{first_long, readable}
use Rattle.spec_files.specs.Texts.{cut_off, fault_at, file_lines}
use Rattle.de_header.specs.declared.state.State.{State}
use Rattle.de_header.specs.Reader as headers
use Rattle.de_blocks.specs.Reader as block_lines
use Rattle.de_text.specs.Cursor.{counted_after}
use Rattle.spec_files.specs.declared.errors.ReadError.{ReadError}
use Rattle.spec_files.specs.declared.errors.ReadError.TheVariants as errors
use Rattle.gf_files.specs.declared.reader.Reader.{Reader}
use Rattle.gf_files.specs.declared.reader.Reader.TheVariants as readers
use Rattle.gf_files.specs.declared.reader.Fed.{Fed}

-- the ephemeris of the lines that the reader took and of these, which are those of this file and of later ones
unfoldable pub ephemeris_after : ℕ → Reader → List FileLine → Result Ephemeris Stop
ephemeris_after file (readers.Header state) lines = headers.says file state lines >>= λ found. blocks found.0 found.1
ephemeris_after file (readers.Blocks state) lines = block_lines.says file state lines

-- the reader of a header took these lines
pub record IsOfHeader (state : State) : Type 0 where
  pub before : List FileLine
  pub same : (rest : List FileLine) → headers.says 0 state rest ≡ header (before ++ rest)

-- a header that is not whole wants more lines
pub record WantsMore (state : State) : Type 0 where
  pub not_whole : headers.IsNotWhole state
  pub of_header : IsOfHeader state
  pub late : ℕ
  pub early : headers.says 0 state [] ≡ Err (ended late)

abbrev pub Accepts : Reader → Type 0
Accepts (readers.Header state) = WantsMore state
Accepts (readers.Blocks state) = block_lines.IsNotRefused state

-- no line breaks a rule
abbrev pub HasNoFault : Result Ephemeris Stop → Type 0
HasNoFault (Ok e) = Unit {0}
HasNoFault (Err (ended number)) = Unit {0}
HasNoFault (Err (breaks file fault)) = ⊥

-- the reader takes lines, of any file
pub record IsReady (reader : Reader) : Type 0 where
  pub accepts : Accepts reader
  pub same : (f g : ℕ) (rest : List FileLine) → ephemeris_after f reader rest ≡ ephemeris_after g reader rest
  pub sound : (f : ℕ) → HasNoFault (ephemeris_after f reader [])

-- the new reader took the lines of the old one, and this line
abbrev pub TookLine : Reader → TokenLine → Reader → Type 0
TookLine old line new = (file : ℕ) (rest : List FileLine) → ephemeris_after file new rest ≡ ephemeris_after file old (headers.line_of file line ∷ rest)

-- what comes of a line: a reader that took it, or its fault
abbrev pub Moves : Reader → TokenLine → Result Reader ReadError → Type 0
Moves reader line (Ok new) = TookLine reader line new × IsReady new
Moves reader line (Err (errors.Fault fault)) =
    (file : ℕ) (rest : List FileLine) → ephemeris_after file reader (headers.line_of file line ∷ rest) ≡ Err (breaks file fault)
Moves reader line (Err errors.Memory) = Unit {0}

-- what came of a line that left this reader
abbrev pub moved : Result (Unit {0}) ReadError → Reader → Result Reader ReadError
moved (Ok done) new = Ok new
moved (Err stop) new = Err stop

-- a file with this text was taken to its end
pub record IsFed (reader : Reader) (text : List ℕ) (fed : Fed) : Type 0 where
  pub same : (file : ℕ) (rest : List FileLine) → ephemeris_after file fed.reader rest ≡ ephemeris_after file reader (file_lines file text ++ rest)
  pub ready : IsReady fed.reader
  pub whole : cut_off text ≡ None
  pub end_line : fed.end_line ≡ length (lines text) + 1

-- a line of the file breaks a rule whatever lines follow; or none does, and the text is cut off
abbrev pub IsFirstFaultIn : ℕ → Reader → List ℕ → Fault → Type 0
IsFirstFaultIn file reader text fault =
    ((rest : List FileLine) → ephemeris_after file reader (file_lines file text ++ rest) ≡ Err (breaks file fault))
    ⊎ ((cut_off text ≡ Some fault) × HasNoFault (ephemeris_after file reader (file_lines file text)))

-- a file with this text has the first fault, whatever files follow
abbrev pub IsFirstFault : Reader → List ℕ → Fault → Type 0
IsFirstFault reader text fault = (file : ℕ) → IsFirstFaultIn file reader text fault

-- these lines of a file were taken, the last of which has this number less 1
pub record TookLines (reader : Reader) (lines : List Numbered) (end : ℕ) (fed : Fed) : Type 0 where
  pub same : (file : ℕ) (rest : List FileLine) → ephemeris_after file fed.reader rest ≡ ephemeris_after file reader (readable file lines ++ rest)
  pub ready : IsReady fed.reader
  pub whole : first_long lines ≡ None
  pub end_line : fed.end_line ≡ end

-- one of these lines breaks a rule whatever lines follow; or none does, and one is too long
abbrev pub IsFirstFaultOf : ℕ → Reader → List Numbered → Fault → Type 0
IsFirstFaultOf file reader lines fault =
    ((rest : List FileLine) → ephemeris_after file reader (readable file lines ++ rest) ≡ Err (breaks file fault))
    ⊎ ((first_long lines ≡ Some fault) × HasNoFault (ephemeris_after file reader (readable file lines)))

-- what comes of lines of a file, which end at this number: a reader that took them, or their first fault
abbrev pub FeedsLines : Reader → List Numbered → ℕ → Result Fed ReadError → Type 0
FeedsLines reader lines end (Ok fed) = TookLines reader lines end fed
FeedsLines reader lines end (Err (errors.Fault fault)) = (file : ℕ) → IsFirstFaultOf file reader lines fault
FeedsLines reader lines end (Err errors.Memory) = Unit {0}

-- a piece of so many bytes can follow
abbrev pub CanGoOn : Result Fed ReadError → ℕ → Type 0
CanGoOn (Ok fed) size = IsReady fed.reader × (1 ≤ fed.end_line) × ((fed.end_line - 1) + size ≤ MAX_TEXT_BYTES)
CanGoOn (Err error) size = Unit {0}

-- what comes of the lines of one more piece of a text; an error stays
abbrev pub FeedsPiece : Result Fed ReadError → List ℕ → Result Fed ReadError → Type 0
FeedsPiece (Ok fed) piece result = FeedsLines fed.reader (counted_after (fed.end_line - 1) piece) ((fed.end_line - 1) + length (lines piece) + 1) result
FeedsPiece (Err error) piece result = result ≡ Err error

-- what comes of the end of all lines, where those of the last file end at this number: the ephemeris, or the first fault
abbrev pub Finishes : ℕ → Result Ephemeris Stop → Result Ephemeris ReadError → Type 0
Finishes end (Ok e) (Ok found) = found ≡ e
Finishes end (Err (ended number)) (Err (errors.Fault fault)) = fault ≡ fault_at end number
Finishes end (Err (breaks file fault)) (Err (errors.Fault other)) = other ≡ fault
Finishes end after (Err errors.Memory) = Unit {0}
Finishes end after result = ⊥
