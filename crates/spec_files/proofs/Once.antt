-- Files that are known are refused in one way, and one file alone is the first that is not there.
use Rattle.std.proofs.Common.{◌≡◌, ◌⊎◌, ◌<◌, ◌≤◌, ◌+◌, ℕ, [], ◌++◌, append-nil, take, drop, Some, Err, sym, ap, ◌∙◌, subst, arith, inl, inr}
use Rattle.std.proofs.lemmas.Bool.{cases_lt}
use Rattle.spec_text.specs.declared.decimals.Fault.{Fault}
use Rattle.gf_edges.specs.Edges.{Files, Lacks, Rose}
use Rattle.spec_files.specs.Files.{AreFiles}
use Rattle.spec_files.specs.Outcome.{first_fault, outcome}
use Rattle.spec_files.specs.Reading.{AreRefused, HasFirstFault, IsNotRead}
use Rattle.spec_files.proofs.Joining.{first_fault_refused}
use Rattle.spec_files.proofs.Exclusions.{Texts, all_taken, first_and_further, known_front, known_not_lacking, known_same}

-- the texts of the first files are a prefix of the texts of more
prefix_of : (known : Files) (names texts some : Texts) (fewer more : ℕ) → fewer ≤ more → AreFiles (Some known) (take more names) texts
    → AreFiles (Some known) (take fewer names) some → (later : Texts) × (texts ≡ some ++ later)
prefix_of known names texts some fewer more within all first =
    known_front known (take fewer names) (drop fewer (take more names)) texts some
    (subst (λ (ns : Texts). AreFiles (Some known) ns texts) (first_and_further names fewer more within) all) first

module _ (known : Files) (names : Texts) (file : ℕ) (fault : Fault) (has : HasFirstFault (Some known) names file fault) where
  -- the fault is the outcome of the texts up to its file
  outcome_is : outcome has.texts ≡ Err (file, fault)
  outcome_is = elim has.first [
    | inl first ↦ first_fault_refused has.texts file fault (sym (ap first_fault (append-nil has.texts)) ∙ first [])
    | inr last ↦ last.1
  ]

  -- and the outcome of the texts up to a later file that has a first fault
  outcome_later : (place : ℕ) (other : Fault) (two : HasFirstFault (Some known) names place other) → file ≤ place → outcome two.texts ≡ Err (file, fault)
  outcome_later place other two past = elim has.first [
    | inl first ↦
        let split = prefix_of known names two.texts has.texts (file + 1) (place + 1) (omega (arith, past)) two.there has.there in
        first_fault_refused two.texts file fault (ap first_fault split.1 ∙ first split.0)
    | inr last ↦
        let inside = two.inside in
        let end = last.0 in
        let all = all_taken known names two.texts (place + 1) (omega (arith, inside, past, end)) two.there in
        ap outcome (known_same known names two.texts has.texts all (all_taken known names has.texts (file + 1) end has.there)) ∙ last.1
  ]

abbrev IsOne : ℕ → Fault → ℕ → Fault → Type 0
IsOne file fault place other = (file ≡ place) × (fault ≡ other)

one_fault : (texts : Texts) (found other : ℕ × Fault) → outcome texts ≡ Err found → outcome texts ≡ Err other → found ≡ other
one_fault texts found other one two = cc

one_outcome : (texts : Texts) (file place : ℕ) (fault other : Fault) → outcome texts ≡ Err (file, fault) → outcome texts ≡ Err (place, other) → IsOne file fault place other
one_outcome texts file place fault other one two =
    let same = one_fault texts (file, fault) (place, other) one two in
    (ap (λ (found : ℕ × Fault). found.0) same, ap (λ (found : ℕ × Fault). found.1) same)

faults_once : (known : Files) (names : Texts) (file place : ℕ) (fault other : Fault) → HasFirstFault (Some known) names file fault
    → HasFirstFault (Some known) names place other → IsOne file fault place other
faults_once known names file place fault other one two = elim (cases_lt file (place + 1)) [
  | inl below ↦
      one_outcome two.texts file place fault other (outcome_later known names file fault one place other two (omega (arith, below))) (outcome_is known names place other two)
  | inr past ↦
      one_outcome one.texts file place fault other (outcome_is known names file fault one) (outcome_later known names place other two file fault one (omega (arith, past)))
]

pub refused_once : (known : Files) (names : Texts) (file place : ℕ) (fault other : Fault) → AreRefused (Some known) names file fault
    → AreRefused (Some known) names place other → IsOne file fault place other
refused_once known names file place fault other (inl one) (inl two) = (one.first ∙ sym two.first, one.same ∙ sym two.same)
refused_once known names file place fault other (inl one) (inr two) = let few = two.few in let more = one.many in absurd (omega (arith, few, more))
refused_once known names file place fault other (inr one) (inl two) = let few = one.few in let more = two.many in absurd (omega (arith, few, more))
refused_once known names file place fault other (inr one) (inr two) = faults_once known names file place fault other one two

-- a file before one that is not read is there
lacks_later : (known : Files) (names : Texts) (count now file place : ℕ) (one : IsNotRead (Some known) names count now file)
    → IsNotRead (Some known) names count now place → Lacks (Some known) one.name → file < place → ⊥
lacks_later known names count now file place one two lacks below = known_not_lacking known names two.texts file place one.name two.before below one.here lacks

pub lacking_once : (known : Files) (names : Texts) (count now file place : ℕ) → IsNotRead (Some known) names count now file
    → IsNotRead (Some known) names count now place → Rose count now ⊎ (file ≡ place)
lacking_once known names count now file place one two = elim one.cause [
  | inl rose ↦ inl rose
  | inr lacks ↦ elim two.cause [
    | inl rose ↦ inl rose
    | inr lacked ↦ inr (elim (cases_lt file place) [
      | inl below ↦ absurd (lacks_later known names count now file place one two lacks below)
      | inr past ↦ elim (cases_lt place file) [
        | inl above ↦ absurd (lacks_later known names count now place file two one lacked above)
        | inr upto ↦ omega (arith, past, upto)
      ]
    ])
  ]
]
