-- The names of files, one by one.
use Rattle.std.proofs.Common.{◌≡◌, ◌<◌, ◌≤◌, ◌+◌, ◌-◌, ℕ, zero, suc, List, [], ◌∷◌, ◌++◌, length, map, take, get_or, sym, ap, ◌∙◌, arith, subst, inl, inr, ◌⊎◌, Option, Some, Ok, Err}
use Rattle.std.specs.Prelude.{IsSomeAnd, String, slice_get, string_bytes}
use Rattle.std.specs.declared.alloc.Global.{Global}
use Rattle.std.proofs.lemmas.Option.{slice_get_within}
use Rattle.std.proofs.lemmas.List.{length-take, take_all}
use Rattle.gf_edges.specs.Edges.{Files, Lacks, Rose}
use Rattle.spec_text.specs.declared.decimals.Fault.{Fault}
use Rattle.spec_ephemeris.specs.Ephemeris.{Ephemeris}
use Rattle.spec_files.specs.Files.{AreFiles}
use Rattle.spec_files.specs.Reading.{AreAccepted, HasFirstFault, IsNotRead}
use Rattle.spec_files.specs.declared.limits.TheConstants.{MAX_FILES}
use Rattle.spec_files.specs.declared.errors.ReadError.TheVariants as errors
use Rattle.gf_files.specs.declared.reader.Fed.{Fed}
use Rattle.gf_files.specs.declared.reader.Reader.{Reader}
use Rattle.gf_files.specs.Read.{HaveRead, LacksFirst, StopsAtFile, TakesFile}
use Rattle.gf_files.specs.Reader.{Finishes, ephemeris_after}
use Rattle.gf_files.proofs.Runs.{accepted_outcome, as_many, files_more, next_faults, one_more_read, refused_outcome}

abbrev Texts : Type 0
Texts = List (List ℕ)

abbrev pub Strings : Type 0
Strings = List (String Global)

abbrev pub texts_of : Strings → Texts
texts_of names = map string_bytes names

-- the name at a place
pub name_at : (names : Strings) (i : ℕ) (word : String Global) (name : List ℕ) → i < length names → word ≡ get_or names i word → name ≡ string_bytes word
    → slice_get (texts_of names) i ≡ Some name
name_at [] i word name inside there named = absurd (omega (arith, inside))
name_at (n ∷ names) zero word name inside there named = ap (λ (text : List ℕ). Some text) (ap string_bytes (sym there) ∙ sym named)
name_at (n ∷ names) (suc i) word name inside there named = name_at names i word name (omega (arith, inside)) there named

one_name_more : (names : Texts) (i : ℕ) (name : List ℕ) → slice_get names i ≡ Some name → take (suc i) names ≡ take i names ++ name ∷ []
one_name_more [] zero name there = absurd (cc)
one_name_more [] (suc i) name there = absurd (cc)
one_name_more (n ∷ names) zero name there = let same : n ≡ name = cc in λ k. same k ∷ []
one_name_more (n ∷ names) (suc i) name there = ap (λ (l : Texts). n ∷ l) (one_name_more names i name there)

-- the number of the names before a place
before_place : (names : Texts) (i : ℕ) (name : List ℕ) → slice_get names i ≡ Some name → length (take i names) ≡ i
before_place names i name there =
    let front = length-take i names in
    let inside = slice_get_within names i name there in
    omega (arith, front, inside)

module _ (files : Option Files) (names : Texts) (i : ℕ) (name : List ℕ) (there : slice_get names i ≡ Some name) where
  pub takes_one : (reader : Reader) (end : ℕ) (fed : Fed) → HaveRead files (take i names) reader end → TakesFile files name reader fed
      → HaveRead files (take (i + 1) names) fed.reader fed.end_line
  takes_one reader end fed read takes =
      let next : suc i ≡ i + 1 = omega arith in
      subst (λ (ns : Texts). HaveRead files ns fed.reader fed.end_line) (sym (one_name_more names i name there) ∙ ap (λ (n : ℕ). take n names) next)
      (one_more_read files (take i names) reader end name fed read takes)

  pub faults_at : (reader : Reader) (end : ℕ) (fault : Fault) → length names ≤ MAX_FILES → HaveRead files (take i names) reader end → StopsAtFile files name reader fault
      → HasFirstFault files names i fault
  faults_at reader end fault few read stops =
      let next : suc i ≡ i + 1 = omega arith in
      let place : length read.texts ≡ i = as_many files (take i names) read.texts read.there ∙ before_place names i name there in
      record {
        few = few;
        inside = slice_get_within names i name there;
        texts = read.texts ++ stops.text ∷ [];
        there = subst (λ (ns : Texts). AreFiles files ns (read.texts ++ stops.text ∷ [])) (sym (one_name_more names i name there) ∙ ap (λ (n : ℕ). take n names) next)
            (files_more files (take i names) read.texts name stops.text read.there stops.there);
        first = inl (λ later. next_faults files (take i names) reader end stops.text fault read stops.first later ∙ (λ k. Some (place k, fault)));
      }

  pub not_read_at : (reader : Reader) (end a b c : ℕ) → length names ≤ MAX_FILES → HaveRead files (take i names) reader end → a ≤ b → Rose b c ⊎ Lacks files name
      → IsNotRead files names a c i
  not_read_at reader end a b c few read later cause = record {
    few = few;
    name = name;
    here = there;
    texts = read.texts;
    before = read.there;
    sound = read.sound;
    cause = elim cause [ inl rose ↦ inl (omega (arith, later, rose)) | inr lacks ↦ inr lacks ];
  }

  pub lacks_this : (told : Option Files) → told ≡ files → i ≡ 0 → LacksFirst files names → Lacks told name
  lacks_this told same first lacks =
      let here : slice_get names 0 ≡ Some name = subst (λ (k : ℕ). slice_get names k ≡ Some name) first there in
      let known : Lacks files name = subst (λ (found : Option (List ℕ)). IsSomeAnd found (Lacks files)) here lacks in
      subst (λ (f : Option Files). Lacks f name) (sym same) known

-- there is a first name
pub some_first : (files : Option Files) (names : Texts) → LacksFirst files names → 0 < length names
some_first files [] lacks = absurd lacks
some_first files (n ∷ names) lacks = omega arith

pub accepted_at_end : (files : Option Files) (names : Texts) (reader : Reader) (end : ℕ) (e : Ephemeris) → length names ≤ MAX_FILES → HaveRead files names reader end
    → Finishes end (ephemeris_after 0 reader []) (Ok e) → AreAccepted files names e end
accepted_at_end files names reader end e few read finishes = record {
  few = few;
  texts = read.texts;
  there = read.there;
  accepted = accepted_outcome files names reader end e read finishes;
  ends = read.ends;
}

pub refused_at_end : (files : Option Files) (names : Texts) (reader : Reader) (end : ℕ) (file : ℕ) (fault : Fault) → length names ≤ MAX_FILES → HaveRead files names reader end
    → file + 1 ≡ length names → Finishes end (ephemeris_after 0 reader []) (Err (errors.Fault fault)) → HasFirstFault files names file fault
refused_at_end files names reader end file fault few read last finishes =
    let all : length names ≤ file + 1 = omega (arith, last) in
    let place : length names - 1 ≡ file = omega (arith, last) in
    record {
      few = few;
      inside = omega (arith, last);
      texts = read.texts;
      there = subst (λ (ns : Texts). AreFiles files ns read.texts) (sym (take_all (file + 1) names all)) read.there;
      first = inr (last, refused_outcome files names reader end fault read finishes ∙ (λ i. Err (place i, fault)));
    }
