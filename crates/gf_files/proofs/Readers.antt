-- A reader from line to line.
use Rattle.std.proofs.Common.{◌≡◌, ℕ, List, [], ◌∷◌, Result, Ok, Err, refl, sym, ap, ◌∙◌, subst}
use Rattle.spec_text.specs.Lines.{TokenLine}
use Rattle.spec_text.specs.declared.decimals.Fault.{Fault}
use Rattle.spec_ephemeris.specs.Ephemeris.{Ephemeris}
use Rattle.spec_ephemeris.specs.declared.header.Header.{Header}
use Rattle.spec_files.specs.Sections.{FileLine, Stop, ◌>>=◌}
use Rattle.spec_files.specs.Blocks.{blocks}
use Rattle.de_header.specs.declared.answers.Step.TheVariants.{More}
use Rattle.de_header.specs.declared.state.State.{State}
use Rattle.de_header.specs.Reader.{Ends, IsNotWhole, IsOpen, IsRefused, IsWhole, KeepsFault, answer, says}
use Rattle.spec_files.specs.HeaderLines.{HeaderOrStop as Says}
use Rattle.spec_files.specs.FileLines.{line_of}
use Rattle.de_header.specs.SameFile.{same_file}
use Rattle.de_blocks.specs.Reader as block_lines
use Rattle.spec_files.specs.declared.errors.ReadError.{ReadError}
use Rattle.spec_files.specs.declared.errors.ReadError.TheVariants as errors
use Rattle.gf_files.specs.declared.reader.Reader.{Reader}
use Rattle.gf_files.specs.declared.reader.Reader.TheVariants.{Header as HeaderReader, Blocks}
use Rattle.gf_files.specs.Reader.{Finishes, HasNoFault, IsOfHeader, IsReady, Moves, TookLine, WantsMore, ephemeris_after}
use Rattle.gf_files.proofs.HeaderSays.{more_is_wanted, of_header_next, refused_says, whole_header, whole_no_fault}
use Rattle.gf_files.proofs.BlockSays.{blocks_ready, finish_memory}

abbrev pub after_header : Says → Result Ephemeris Stop
after_header said = said >>= λ found. blocks found.0 found.1

pub header_ready : (state : State) → IsOpen state → WantsMore state → IsReady (HeaderReader state)
unfolding ephemeris_after
header_ready state wanting wants = record {
  accepts = wants;
  same = λ f g rest. ap after_header (same_file state rest f g wanting);
  sound = λ f. subst (λ (said : Says). HasNoFault (after_header said)) (sym wants.early ∙ same_file state [] 0 f wanting) tt;
}

pub header_moves : (old new : State) (line : TokenLine) → IsNotWhole new → IsOpen new → IsOfHeader old
    → ((file : ℕ) (rest : List FileLine) → says file new rest ≡ says file old (line_of file line ∷ rest)) → answer (says 0 new []) ≡ Ok More
    → Moves (HeaderReader old) line (Ok (HeaderReader new))
unfolding ephemeris_after
header_moves old new line not_whole wanting of moves more =
    let wants = more_is_wanted (says 0 new []) more in (
      λ file rest. ap after_header (moves file rest),
      header_ready new wanting (record { not_whole = not_whole; of_header = of_header_next old new line of moves; late = wants.0; early = wants.1 }),
    )

pub header_refused : (old new : State) (line : TokenLine) (fault : Fault) → IsRefused new fault
    → ((file : ℕ) (rest : List FileLine) → says file new rest ≡ says file old (line_of file line ∷ rest))
    → Moves (HeaderReader old) line (Err (errors.Fault fault))
unfolding ephemeris_after
header_refused old new line fault refused moves = λ file rest. ap after_header (sym (moves file rest) ∙ refused_says new fault refused file rest)

pub blocks_begin : (old : Reader) (line : TokenLine) (state : State) (h : Header) (reader : block_lines.Progress) (end : ℕ) → IsWhole state → Ends end (says 0 state []) (Ok h)
    → TookLine old line (HeaderReader state)
    → ((file : ℕ) (rest : List FileLine) → block_lines.says file reader rest ≡ blocks h rest) → block_lines.IsNotRefused reader
    → Moves old line (Ok (Blocks reader))
unfolding ephemeris_after blocks
blocks_begin old line state h reader end whole ends moves begun wants =
    let same : (file : ℕ) (rest : List FileLine) → ephemeris_after file (Blocks reader) rest ≡ ephemeris_after file (HeaderReader state) rest =
    λ file rest. begun file rest ∙ ap after_header (sym (whole_header state end h whole ends file rest)) in (
      λ file rest. same file rest ∙ moves file rest,
      blocks_ready reader wants (subst HasNoFault (sym (begun 0 [])) tt),
    )

pub header_took : (old new : State) (line : TokenLine) → ((file : ℕ) (rest : List FileLine) → says file new rest ≡ says file old (line_of file line ∷ rest))
    → TookLine (HeaderReader old) line (HeaderReader new)
unfolding ephemeris_after
header_took old new line moves file rest = ap after_header (moves file rest)

-- where the lines end, a header that wants more lines is not whole
pub early_no_header : (state : State) (end : ℕ) (h : Header) → WantsMore state → Ends end (says 0 state []) (Ok h) → ⊥
early_no_header state end h wants ends = subst (λ (said : Says). Ends end said (Ok h)) wants.early ends

pub early_fault : (state : State) (end : ℕ) (fault : Fault) → WantsMore state → Ends end (says 0 state []) (Err (errors.Fault fault))
    → Finishes end (ephemeris_after 0 (HeaderReader state) []) (Err (errors.Fault fault))
unfolding ephemeris_after
early_fault state end fault wants ends =
    subst (λ (said : Says). Finishes end (after_header said) (Err (errors.Fault fault))) (sym wants.early)
    (subst (λ (said : Says). Ends end said (Err (errors.Fault fault))) wants.early ends)

-- a line at which the reader stops
pub header_stops : (old new : State) (line : TokenLine) (why : ReadError)
    → ((file : ℕ) (rest : List FileLine) → says file new rest ≡ says file old (line_of file line ∷ rest)) → KeepsFault new (Err why)
    → Moves (HeaderReader old) line (Err why)
header_stops old new line (errors.Fault fault) moves kept = header_refused old new line fault (kept fault refl) moves
header_stops old new line errors.Memory moves kept = tt

-- a header that is whole is given, where memory lasts
pub whole_stops : (old : Reader) (line : TokenLine) (state : State) (end : ℕ) (why : ReadError) → IsWhole state → Ends end (says 0 state []) (Err why) → Moves old line (Err why)
whole_stops old line state end (errors.Fault fault) whole ends = absurd (whole_no_fault state end fault whole ends)
whole_stops old line state end errors.Memory whole ends = tt

pub early_stops : (state : State) (end : ℕ) (why : ReadError) → WantsMore state → Ends end (says 0 state []) (Err why)
    → Finishes end (ephemeris_after 0 (HeaderReader state) []) (Err why)
early_stops state end (errors.Fault fault) wants ends = early_fault state end fault wants ends
early_stops state end errors.Memory wants ends = finish_memory end _
