-- What a reader of blocks comes to, by what it answered.
use Rattle.std.proofs.Common.{◌≡◌, ℕ, List, [], Result, Ok, Err, refl, sym, ap, ◌∙◌, subst}
use Rattle.spec_text.specs.declared.decimals.Fault.{Fault}
use Rattle.spec_ephemeris.specs.Ephemeris.{Ephemeris}
use Rattle.spec_text.specs.Lines.{TokenLine}
use Rattle.spec_files.specs.declared.errors.ReadError.{ReadError}
use Rattle.spec_files.specs.Sections.{FileLine, ended, breaks}
use Rattle.de_blocks.specs.declared.state.Place.{Place}
use Rattle.de_blocks.specs.Reader.{HasRead, IsNotMemory, KeepsFault, Progress, IsRefused, IsNotRefused, Says, answer, at_end, says, says_at}
use Rattle.de_blocks.specs.SameFile.{same_file}
use Rattle.spec_files.specs.declared.errors.ReadError.TheVariants as errors
use Rattle.gf_files.specs.declared.reader.Reader.TheVariants.{Blocks}
use Rattle.gf_files.specs.Reader.{Finishes, HasNoFault, IsReady, Moves, ephemeris_after}

pub refused_says : (reader : Progress) (fault : Fault) → IsRefused reader fault → (file : ℕ) (rest : List FileLine) → says file reader rest ≡ Err (breaks file fault)
unfolding says
refused_says reader fault is file rest = ap (λ (place : Place). says_at file place reader.accepted reader.numbers rest) is

pub sound_answer : (said : Says) → answer said ≡ Ok tt → HasNoFault said
sound_answer (Ok e) is = tt
sound_answer (Err (ended number)) is = tt
sound_answer (Err (breaks file fault)) is = absurd (cc)

pub blocks_ready : (reader : Progress) → IsNotRefused reader → HasNoFault (says 0 reader []) → IsReady (Blocks reader)
unfolding ephemeris_after
blocks_ready reader wants sound = record {
  accepts = wants;
  same = λ f g rest. same_file reader rest f g wants;
  sound = λ f. subst HasNoFault (same_file reader [] 0 f wants) sound;
}

pub finish_ok : (end : ℕ) (said : Says) (e : Ephemeris) → Ok e ≡ at_end end said → Finishes end said (Ok e)
finish_ok end (Ok x) e is = cc
finish_ok end (Err stop) e is = absurd (cc)

pub finish_fault : (end : ℕ) (said : Says) (fault : Fault) → Err (errors.Fault fault) ≡ at_end end said → Finishes end said (Err (errors.Fault fault))
finish_fault end (Ok x) fault is = absurd (cc)
finish_fault end (Err (ended number)) fault is = cc
finish_fault end (Err (breaks file other)) fault is = cc

pub finish_memory : (end : ℕ) (said : Says) → Finishes end said (Err errors.Memory)
finish_memory end (Ok x) = tt
finish_memory end (Err (ended number)) = tt
finish_memory end (Err (breaks file other)) = tt

pub finishes : (end : ℕ) (said : Says) (result : Result Ephemeris ReadError) → result ≡ at_end end said → Finishes end said result
finishes end said (Ok e) is = finish_ok end said e is
finishes end said (Err (errors.Fault fault)) is = finish_fault end said fault is
finishes end said (Err errors.Memory) is = finish_memory end said

-- a line at which the reader stops
pub block_stops : (old new : Progress) (line : TokenLine) (why : ReadError) → (IsNotMemory (Err why) → HasRead old line new) → KeepsFault new (Err why)
    → Moves (Blocks old) line (Err why)
unfolding ephemeris_after
block_stops old new line (errors.Fault fault) read kept = λ file rest. sym (read tt file rest) ∙ refused_says new fault (kept fault refl) file rest
block_stops old new line errors.Memory read kept = tt
