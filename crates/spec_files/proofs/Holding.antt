-- What holds of the value of a chain of steps, where it has one.
use Rattle.std.proofs.Common.{◌≡◌, List, [], ◌∷◌, ℕ, Result, Ok, Err, refl, subst, inl, inr, length, eq-eqb, ne_eqb}
use Rattle.std.specs.Prelude.{IfOk}
use Rattle.std.proofs.lemmas.Bool.{cases_eq}
use Rattle.spec_files.specs.declared.rules.BrokenRule.{BrokenRule}
use Rattle.spec_files.specs.Sections.{FileLine, Stop, ◌>>=◌, after_words, at_line, first_words, one_line}

abbrev pub Holds : {B E : Type 0} → (B → Type 0) → Result B E → Type 0
Holds Q r = IfOk r Q

pub holds_ok : {B E : Type 0} (Q : B → Type 0) (r : Result B E) (y : B) → r ≡ Ok y → Holds Q r → Q y
holds_ok Q r y is holds = subst (Holds Q) is holds

pub holds_also : {B E : Type 0} (P Q : B → Type 0) (r : Result B E) → ((x : B) → P x → Q x) → Holds P r → Holds Q r
holds_also P Q (Ok x) also holds = also x holds
holds_also P Q (Err e) also holds = tt

pub at_holds : {A : Type 0} (Q : A → Type 0) (file number : ℕ) (r : Result A BrokenRule) → Holds Q r → Holds Q (at_line file number r)
at_holds Q file number (Ok x) holds = holds
at_holds Q file number (Err b) holds = tt

-- a section of words has all of them
pub all_words : (late n : ℕ) (lines : List FileLine) → Holds (λ (rest : List FileLine). length (first_words n lines) ≡ n) (after_words late n lines)
all_words late n lines = elim (cases_eq (length (first_words n lines)) n) [
  | inl same ↦ rw (eq-eqb _ _ same) same
  | inr other ↦ rw (ne_eqb _ _ other) tt
]

module _ {B : Type 0} (Q : B → Type 0) where
  pub then_any : {A E : Type 0} (r : Result A E) (k : A → Result B E) → ((x : A) → r ≡ Ok x → Holds Q (k x)) → Holds Q (r >>= k)
  then_any (Ok x) k all = all x refl
  then_any (Err e) k all = tt

  then_rule : {A : Type 0} (file number : ℕ) (rest : List FileLine) (r : Result A BrokenRule) (k : A × List FileLine → Result B Stop)
      → ((x : A) → r ≡ Ok x → Holds Q (k (x, rest))) → Holds Q ((at_line file number r >>= λ x. Ok (x, rest)) >>= k)
  then_rule file number rest (Ok x) k all = all x refl
  then_rule file number rest (Err b) k all = tt

  pub then_line : {A : Type 0} (late : ℕ) (rule : List (List ℕ) → Result A BrokenRule) (lines : List FileLine) (k : A × List FileLine → Result B Stop)
      → ((words : List (List ℕ)) (x : A × List FileLine) → rule words ≡ Ok x.0 → Holds Q (k x)) → Holds Q (one_line late rule lines >>= k)
  then_line late rule [] k all = tt
  then_line late rule (line ∷ rest) k all = then_rule line.file line.number rest (rule line.words) k (λ x is. all line.words (x, rest) is)
