-- Of files that are known, one thing alone is true: they are accepted, refused, or not read.
use Rattle.std.proofs.Common.{◌≡◌, ◌<◌, ◌≤◌, ◌+◌, ℕ, zero, suc, List, [], ◌∷◌, ◌++◌, length, take, drop, Option, None, Some, Ok, Err, refl, sym, ap, ◌∙◌, subst, arith, inl, inr, take-append-drop}
use Rattle.std.specs.Prelude.{slice_get}
use Rattle.std.proofs.lemmas.List.{take_all, take-take}
use Rattle.std.proofs.lemmas.Bool.{cases_lt}
use Rattle.std.proofs.lemmas.Option.{slice_get_within}
use Rattle.spec_text.specs.declared.decimals.Fault.{Fault}
use Rattle.spec_ephemeris.specs.Ephemeris.{Ephemeris}
use Rattle.gf_edges.specs.Edges.{Files, Lacks, Rose, file_of}
use Rattle.spec_files.specs.Files.{AreFiles, IsFile}
use Rattle.spec_files.specs.Outcome.{first_fault, outcome}
use Rattle.spec_files.specs.Reading.{AreAccepted, AreRefused, HasFirstFault, IsNotRead}
use Rattle.spec_files.specs.Texts.{end_line}
use Rattle.spec_files.proofs.Joining.{first_fault_refused}

abbrev pub Texts : Type 0
Texts = List (List ℕ)

one_text : (found : Option (List ℕ)) (a b : List ℕ) → found ≡ Some a → found ≡ Some b → a ≡ b
one_text found a b one two = cc

-- files that are known have one list of texts
pub known_front : (known : Files) (front rest texts some : Texts) → AreFiles (Some known) (front ++ rest) texts → AreFiles (Some known) front some
    → (more : Texts) × (texts ≡ some ++ more)
known_front known [] rest texts [] all fewer = (texts, refl)
known_front known [] rest texts (s ∷ some) all fewer = absurd fewer
known_front known (n ∷ front) rest texts [] all fewer = absurd fewer
known_front known (n ∷ front) rest [] (s ∷ some) all fewer = absurd all
known_front known (n ∷ front) rest (t ∷ texts) (s ∷ some) all fewer =
    let same = one_text (file_of n known) t s all.0 fewer.0 in
    let later = known_front known front rest texts some all.1 fewer.1 in
    (later.0, λ i. same i ∷ later.1 i)

pub known_same : (known : Files) (names texts other : Texts) → AreFiles (Some known) names texts → AreFiles (Some known) names other → texts ≡ other
known_same known [] [] [] one two = refl
known_same known [] [] (o ∷ other) one two = absurd two
known_same known [] (t ∷ texts) other one two = absurd one
known_same known (n ∷ names) [] other one two = absurd one
known_same known (n ∷ names) (t ∷ texts) [] one two = absurd two
known_same known (n ∷ names) (t ∷ texts) (o ∷ other) one two =
    let same = one_text (file_of n known) t o one.0 two.0 in
    let later = known_same known names texts other one.1 two.1 in
    λ i. same i ∷ later i

-- a name among those of files that are there is none that is lacking
known_lacks : (known : Files) (name text : List ℕ) → IsFile (Some known) name text → Lacks (Some known) name → ⊥
known_lacks known name text is lacks = let none : file_of name known ≡ None = lacks in absurd (cc)

pub known_not_lacking : (known : Files) (names texts : Texts) (place count : ℕ) (name : List ℕ) → AreFiles (Some known) (take count names) texts → place < count
    → slice_get names place ≡ Some name → Lacks (Some known) name → ⊥
known_not_lacking known [] texts zero count name all inside here lacks = absurd (cc)
known_not_lacking known [] texts (suc place) count name all inside here lacks = absurd (cc)
known_not_lacking known (n ∷ names) texts place zero name all inside here lacks = absurd (omega (arith, inside))
known_not_lacking known (n ∷ names) [] place (suc count) name all inside here lacks = absurd all
known_not_lacking known (n ∷ names) (t ∷ texts) zero (suc count) name all inside here lacks =
    let same : n ≡ name = cc in
    known_lacks known n t all.0 (subst (λ (m : List ℕ). Lacks (Some known) m) (sym same) lacks)
known_not_lacking known (n ∷ names) (t ∷ texts) (suc place) (suc count) name all inside here lacks =
    known_not_lacking known names texts place count name all.1 (omega (arith, inside)) here lacks

-- the texts of the first files are a front of the texts of more
front_of : (known : Files) (names texts some : Texts) (count : ℕ) → AreFiles (Some known) names texts → AreFiles (Some known) (take count names) some
    → (more : Texts) × (texts ≡ some ++ more)
front_of known names texts some count all fewer =
    known_front known (take count names) (drop count names) texts some
    (subst (λ (ns : Texts). AreFiles (Some known) ns texts) (sym (take-append-drop count names)) all) fewer

pub all_taken : (known : Files) (names texts : Texts) (count : ℕ) → count ≡ length names → AreFiles (Some known) (take count names) texts → AreFiles (Some known) names texts
all_taken known names texts count all some = subst (λ (ns : Texts). AreFiles (Some known) ns texts) (take_all count names (omega (arith, all))) some

both : (texts : Texts) (e : Ephemeris) (fault : ℕ × Fault) → outcome texts ≡ Ok e → outcome texts ≡ Err fault → ⊥
both texts e fault one two = absurd (cc)

no_fault : (texts : Texts) (fault : ℕ × Fault) → first_fault texts ≡ None → first_fault texts ≡ Some fault → ⊥
no_fault texts fault one two = absurd (cc)

pub accepted_once : (known : Files) (names : Texts) (e f : Ephemeris) (end stop : ℕ) → AreAccepted (Some known) names e end → AreAccepted (Some known) names f stop
    → (e ≡ f) × (end ≡ stop)
accepted_once known names e f end stop one two =
    let same = known_same known names one.texts two.texts one.there two.there in
    let found : Ok e ≡ Ok f = sym one.accepted ∙ ap outcome same ∙ two.accepted in
    (cc, one.ends ∙ ap end_line same ∙ sym two.ends)

fault_not_accepted : (known : Files) (names : Texts) (e : Ephemeris) (end file : ℕ) (fault : Fault) → AreAccepted (Some known) names e end
    → HasFirstFault (Some known) names file fault → ⊥
fault_not_accepted known names e end file fault is has = elim has.first [
  | inl first ↦
      let front = front_of known names is.texts has.texts (file + 1) is.there has.there in
      both is.texts e (file, fault) is.accepted (first_fault_refused is.texts file fault (ap first_fault front.1 ∙ first front.0))
  | inr last ↦
      let same = known_same known names is.texts has.texts is.there (all_taken known names has.texts (file + 1) last.0 has.there) in
      both is.texts e (file, fault) is.accepted (ap outcome same ∙ last.1)
]

pub accepted_not_refused : (known : Files) (names : Texts) (e : Ephemeris) (end file : ℕ) (fault : Fault) → AreAccepted (Some known) names e end
    → AreRefused (Some known) names file fault → ⊥
accepted_not_refused known names e end file fault is (inl many) = let few = is.few in let more = many.many in absurd (omega (arith, few, more))
accepted_not_refused known names e end file fault is (inr has) = fault_not_accepted known names e end file fault is has

pub accepted_not_lacking : (known : Files) (names : Texts) (e : Ephemeris) (end count now file : ℕ) → AreAccepted (Some known) names e end
    → IsNotRead (Some known) names count now file → Rose count now
accepted_not_lacking known names e end count now file is not = elim not.cause [
  | inl rose ↦ rose
  | inr lacks ↦
      let all : AreFiles (Some known) (take (length names) names) is.texts =
      subst (λ (ns : Texts). AreFiles (Some known) ns is.texts) (sym (take_all (length names) names (omega arith))) is.there in
      absurd (known_not_lacking known names is.texts file (length names) not.name all (slice_get_within names file not.name not.here) not.here lacks)
]

-- the first files, and further ones
pub first_and_further : (names : Texts) (fewer more : ℕ) → fewer ≤ more → take more names ≡ take fewer names ++ drop fewer (take more names)
first_and_further names fewer more within =
    sym (take-append-drop fewer (take more names)) ∙ ap (λ (front : Texts). front ++ drop fewer (take more names)) (take-take fewer more names within)

fault_not_lacking : (known : Files) (names : Texts) (place : ℕ) (fault : Fault) (count now file : ℕ) → HasFirstFault (Some known) names place fault
    → (not : IsNotRead (Some known) names count now file) → Lacks (Some known) not.name → ⊥
fault_not_lacking known names place fault count now file has not lacks = elim (cases_lt file (place + 1)) [
  | inl below ↦ known_not_lacking known names has.texts file (place + 1) not.name has.there below not.here lacks
  | inr past ↦ elim has.first [
    | inl first ↦
        let split = first_and_further names (place + 1) file past in
        let front = known_front known (take (place + 1) names) (drop (place + 1) (take file names)) not.texts has.texts
        (subst (λ (ns : Texts). AreFiles (Some known) ns not.texts) split not.before) has.there in
        no_fault not.texts (place, fault) not.sound (ap first_fault front.1 ∙ first front.0)
    | inr last ↦ let inside = slice_get_within names file not.name not.here in let end = last.0 in absurd (omega (arith, inside, past, end))
  ]
]

pub refused_not_lacking : (known : Files) (names : Texts) (place : ℕ) (fault : Fault) (count now file : ℕ) → AreRefused (Some known) names place fault
    → IsNotRead (Some known) names count now file → Rose count now
refused_not_lacking known names place fault count now file (inl many) not = let few = not.few in let more = many.many in absurd (omega (arith, few, more))
refused_not_lacking known names place fault count now file (inr has) not = elim not.cause [
  | inl rose ↦ rose
  | inr lacks ↦ absurd (fault_not_lacking known names place fault count now file has not lacks)
]
