-- From file to file.
use Rattle.std.proofs.Common.{◌≡◌, ℕ, suc, ◌+◌, ◌-◌, List, [], ◌∷◌, ◌++◌, length, Option, None, Some, Result, Ok, Err, refl, sym, ap, ◌∙◌, subst, append-nil, append_assoc, arith, inl, inr}
use Rattle.spec_text.specs.declared.decimals.Fault.{Fault}
use Rattle.spec_ephemeris.specs.Ephemeris.{Ephemeris}
use Rattle.spec_files.specs.HeaderLines.{header}
use Rattle.spec_files.specs.Sections.{FileLine, Stop, ended, breaks}
use Rattle.spec_files.specs.Lines.{ephemeris}
use Rattle.spec_files.specs.Files.{AreFiles, IsFile}
use Rattle.spec_files.specs.Outcome.{fault_or_cut, first_fault, outcome, outcome_by}
use Rattle.spec_files.specs.Reading.{StaysFirst}
use Rattle.spec_files.specs.Texts.{cut_off, end_line, fault_at, file_lines, first_cut, first_cut_from, joined, joined_from, or_later, where_whole}
use Rattle.spec_files.proofs.Joining.{cut_more, joined_more}
use Rattle.gf_edges.specs.Edges.{Files}
use Rattle.spec_files.specs.declared.errors.ReadError.TheVariants as errors
use Rattle.gf_files.specs.declared.reader.Fed.{Fed}
use Rattle.gf_files.specs.declared.reader.Reader.{Reader}
use Rattle.gf_files.specs.Read.{HaveRead, TakesFile}
use Rattle.gf_files.specs.Reader.{Finishes, HasNoFault, IsFirstFault, IsReady, ephemeris_after}

abbrev Texts : Type 0
Texts = List (List ℕ)

pub files_more : (files : Option Files) (names texts : Texts) (name text : List ℕ) → AreFiles files names texts → IsFile files name text
    → AreFiles files (names ++ name ∷ []) (texts ++ text ∷ [])
files_more files [] [] name text there one = (one, tt)
files_more files [] (t ∷ texts) name text there one = absurd there
files_more files (n ∷ names) [] name text there one = absurd there
files_more files (n ∷ names) (t ∷ texts) name text there one = (there.0, files_more files names texts name text there.1 one)

pub as_many : (files : Option Files) (names texts : Texts) → AreFiles files names texts → length texts ≡ length names
as_many files [] [] there = refl
as_many files [] (t ∷ texts) there = absurd there
as_many files (n ∷ names) [] there = absurd there
as_many files (n ∷ names) (t ∷ texts) there = ap suc (as_many files names texts there.1)

no_fault : (after : Result Ephemeris Stop) → HasNoFault after → fault_or_cut None after ≡ None
no_fault (Ok e) is = refl
no_fault (Err (ended number)) is = refl
no_fault (Err (breaks file fault)) is = absurd is

fault_is_cut : (cut : ℕ × Fault) (after : Result Ephemeris Stop) → HasNoFault after → fault_or_cut (Some cut) after ≡ Some cut
fault_is_cut cut (Ok e) is = refl
fault_is_cut cut (Err (ended number)) is = refl
fault_is_cut cut (Err (breaks file fault)) is = absurd is

-- no file was read yet
pub none_read : (files : Option Files) (reader : Reader) → IsReady reader → ((file : ℕ) (lines : List FileLine) → ephemeris_after file reader lines ≡ ephemeris lines)
    → HaveRead files [] reader 1
unfolding first_fault header
none_read files reader ready first = record {
  texts = [];
  there = tt;
  same = λ rest. first 0 rest;
  ready = ready;
  whole = refl;
  sound = refl;
  ends = refl;
}

end_of_more : (texts : Texts) (text : List ℕ) (end : ℕ) → end ≡ end_line (text ∷ []) → end ≡ end_line (texts ++ text ∷ [])
end_of_more [] text end is = is
end_of_more (t ∷ []) text end is = is
end_of_more (t ∷ next ∷ texts) text end is = end_of_more (next ∷ texts) text end is

joined_after : (texts later : Texts) → first_cut texts ≡ None → joined (texts ++ later) ≡ joined texts ++ joined_from (length texts) later
joined_after texts later whole =
    let place : 0 + length texts ≡ length texts = omega arith in
    joined_more 0 texts later whole ∙ ap (λ (n : ℕ). joined texts ++ joined_from n later) place

-- the ephemeris of the lines of later texts besides
with_later : (files : Option Files) (names : Texts) (reader : Reader) (end : ℕ) (later : Texts) → (read : HaveRead files names reader end)
    → ephemeris (joined (read.texts ++ later)) ≡ ephemeris_after (length read.texts) reader (joined_from (length read.texts) later)
with_later files names reader end later read =
    let texts = read.texts in
    ap ephemeris (joined_after texts later read.whole) ∙ sym (read.same (joined_from (length texts) later)) ∙ read.ready.same 0 (length texts) (joined_from (length texts) later)

cut_later : (texts later : Texts) → first_cut texts ≡ None → first_cut (texts ++ later) ≡ first_cut_from (length texts) later
cut_later texts later whole =
    let place : 0 + length texts ≡ length texts = omega arith in
    cut_more 0 texts later whole ∙ ap (λ (n : ℕ). first_cut_from n later) place

joined_whole : (file : ℕ) (text : List ℕ) → cut_off text ≡ None → joined_from file (text ∷ []) ≡ file_lines file text
joined_whole file text whole = ap (λ (cut : Option Fault). file_lines file text ++ where_whole cut []) whole ∙ append-nil (file_lines file text)

pub one_more_read : (files : Option Files) (names : Texts) (reader : Reader) (end : ℕ) (name : List ℕ) (fed : Fed) → HaveRead files names reader end
    → TakesFile files name reader fed → HaveRead files (names ++ name ∷ []) fed.reader fed.end_line
unfolding first_fault
one_more_read files names reader end name fed read takes =
    let texts = read.texts in
    let text = takes.text in
    let took = takes.took in
    let k = length texts in
    let same : (rest : List FileLine) → ephemeris_after 0 fed.reader rest ≡ ephemeris (joined (texts ++ text ∷ []) ++ rest) =
    λ rest. took.ready.same 0 k rest ∙ took.same k rest ∙ read.ready.same k 0 (file_lines k text ++ rest) ∙ read.same (file_lines k text ++ rest)
    ∙ ap ephemeris (sym (append_assoc (joined texts) (file_lines k text) rest))
    ∙ ap (λ (l : List FileLine). ephemeris ((joined texts ++ l) ++ rest)) (sym (joined_whole k text took.whole))
    ∙ ap (λ (l : List FileLine). ephemeris (l ++ rest)) (sym (joined_after texts (text ∷ []) read.whole)) in
    let whole : first_cut (texts ++ text ∷ []) ≡ None =
    cut_later texts (text ∷ []) read.whole ∙ ap (λ (cut : Option Fault). or_later k cut None) took.whole in
    let all : ephemeris_after 0 fed.reader [] ≡ ephemeris (joined (texts ++ text ∷ [])) = same [] ∙ ap ephemeris (append-nil (joined (texts ++ text ∷ []))) in
    record {
      texts = texts ++ text ∷ [];
      there = files_more files names texts name text read.there takes.there;
      same = same;
      ready = took.ready;
      whole = whole;
      sound = ap (λ (cut : Option (ℕ × Fault)). fault_or_cut cut (ephemeris (joined (texts ++ text ∷ [])))) whole
          ∙ no_fault (ephemeris (joined (texts ++ text ∷ []))) (subst HasNoFault all (took.ready.sound 0));
      ends = end_of_more texts text fed.end_line took.end_line;
    }

-- the fault of the next text is the first, whatever texts follow
pub next_faults : (files : Option Files) (names : Texts) (reader : Reader) (end : ℕ) (text : List ℕ) (fault : Fault) → (read : HaveRead files names reader end)
    → IsFirstFault reader text fault → StaysFirst (read.texts ++ text ∷ []) (length read.texts) fault
unfolding first_fault
next_faults files names reader end text fault read stops = λ later.
    let texts = read.texts in
    let k = length texts in
    let all : (texts ++ text ∷ []) ++ later ≡ texts ++ (text ∷ later) = append_assoc texts (text ∷ []) later in
    let after = with_later files names reader end (text ∷ later) read in
    ap (λ (t : Texts). fault_or_cut (first_cut t) (ephemeris (joined t))) all
    ∙ elim (stops k) [
      | inl lines ↦
          ap (λ (s : Result Ephemeris Stop). fault_or_cut (first_cut (texts ++ (text ∷ later))) s)
          (after ∙ lines (where_whole (cut_off text) (joined_from (k + 1) later)))
      | inr cut ↦
          let here : first_cut (texts ++ (text ∷ later)) ≡ Some (k, fault) =
          cut_later texts (text ∷ later) read.whole ∙ ap (λ (c : Option Fault). or_later k c (first_cut_from (k + 1) later)) cut.0 in
          let lines : joined_from k (text ∷ later) ≡ file_lines k text =
          ap (λ (c : Option Fault). file_lines k text ++ where_whole c (joined_from (k + 1) later)) cut.0 ∙ append-nil (file_lines k text) in
          let sound : HasNoFault (ephemeris (joined (texts ++ (text ∷ later)))) =
          subst HasNoFault (sym (after ∙ ap (λ (l : List FileLine). ephemeris_after k reader l) lines)) cut.1 in
          ap (λ (c : Option (ℕ × Fault)). fault_or_cut c (ephemeris (joined (texts ++ (text ∷ later))))) here
          ∙ fault_is_cut (k, fault) (ephemeris (joined (texts ++ (text ∷ later)))) sound
    ]

-- what all texts come to is what the reader comes to at their end
outcome_read : (files : Option Files) (names : Texts) (reader : Reader) (end : ℕ) → (read : HaveRead files names reader end)
    → outcome read.texts ≡ outcome_by None read.texts (ephemeris_after 0 reader [])
unfolding outcome
outcome_read files names reader end read =
    let texts = read.texts in
    let after : ephemeris (joined texts) ≡ ephemeris_after 0 reader [] = ap ephemeris (sym (append-nil (joined texts))) ∙ sym (read.same []) in
    λ i. outcome_by (read.sound i) texts (after i)

finished_ok : (end : ℕ) (texts : Texts) (after : Result Ephemeris Stop) (e : Ephemeris) → Finishes end after (Ok e) → outcome_by None texts after ≡ Ok e
finished_ok end texts (Ok x) e is = ap (λ (found : Ephemeris). Ok found) (sym is)
finished_ok end texts (Err (ended number)) e is = absurd is
finished_ok end texts (Err (breaks file fault)) e is = absurd is

finished_fault : (end : ℕ) (texts : Texts) (after : Result Ephemeris Stop) (fault : Fault) → HasNoFault after → end ≡ end_line texts → Finishes end after (Err (errors.Fault fault))
    → outcome_by None texts after ≡ Err (length texts - 1, fault)
finished_fault end texts (Ok x) fault sound ends is = absurd is
finished_fault end texts (Err (ended number)) fault sound ends is =
    let same : fault_at (end_line texts) number ≡ fault = ap (λ (n : ℕ). fault_at n number) (sym ends) ∙ sym is in
    ap (λ (f : Fault). Err (length texts - 1, f)) same
finished_fault end texts (Err (breaks file other)) fault sound ends is = absurd sound

pub accepted_outcome : (files : Option Files) (names : Texts) (reader : Reader) (end : ℕ) (e : Ephemeris) → (read : HaveRead files names reader end)
    → Finishes end (ephemeris_after 0 reader []) (Ok e) → outcome read.texts ≡ Ok e
accepted_outcome files names reader end e read finishes =
    outcome_read files names reader end read ∙ finished_ok end read.texts (ephemeris_after 0 reader []) e finishes

pub refused_outcome : (files : Option Files) (names : Texts) (reader : Reader) (end : ℕ) (fault : Fault) → (read : HaveRead files names reader end)
    → Finishes end (ephemeris_after 0 reader []) (Err (errors.Fault fault)) → outcome read.texts ≡ Err (length names - 1, fault)
refused_outcome files names reader end fault read finishes =
    outcome_read files names reader end read ∙ finished_fault end read.texts (ephemeris_after 0 reader []) fault (read.ready.sound 0) read.ends finishes
    ∙ ap (λ (n : ℕ). Err (n - 1, fault)) (as_many files names read.texts read.there)
