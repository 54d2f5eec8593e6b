-- Where no file is opened, or the files are known, a run has one outcome.
use Rattle.std.proofs.Common.{◌≡◌, ◌⊎◌, ◌<◌, ℕ, List, [], ◌∷◌, length, Option, None, Some, Result, Ok, Err, refl, sym, ap, ◌∙◌, subst, arith, inl, inr}
use Rattle.std.proofs.lemmas.Option.{slice_get_within}
use Rattle.std.specs.Prelude.{IsSome, slice_get}
use Rattle.spec_text.specs.declared.decimals.Fault.{Fault}
use Rattle.spec_ephemeris.specs.Ephemeris.{Ephemeris}
use Rattle.spec_ephemeris.specs.Ticks.{in_ticks}
use Rattle.spec_files.specs.Reading.{AreRefused, IsNotRead}
use Rattle.spec_files.proofs.Exclusions.{accepted_not_lacking, accepted_not_refused, accepted_once, refused_not_lacking}
use Rattle.spec_files.proofs.Once.{lacking_once, refused_once}
use Rattle.spec_requests.specs.declared.request.Request.{Request}
use Rattle.spec_requests.specs.declared.request.Request.TheVariants.{Find, Cert, Verify, Check, Gen, Set, Scalar}
use Rattle.spec_requests.specs.declared.request.WordFault.{WordFault}
use Rattle.gf_edges.specs.Edges.{Files, Rose}
use Rattle.spec_outcomes.specs.declared.refusal.Refusal.{Refusal}
use Rattle.spec_outcomes.specs.declared.refusal.Refusal.TheVariants as R
use Rattle.spec_outcomes.specs.Outcomes.{Outcome, report_of, summary_of}
use Rattle.spec_outcomes.specs.Certificates.{certificate_of}
use Rattle.spec_outcomes.specs.Sets.{set_of}
use Rattle.gf_find.specs.CertificateFiles.{VerifyHasOutcome}
use Rattle.gf_find.specs.Outcomes.{RequestHasOutcome, FilesHave, FilesStop, HaveEphemeris, HoldEphemeris, LackFile, RefuseFile}
use Rattle.gf_find.specs.Reported.{AreNotOpened, OpensNone}
use Rattle.gf_find.proofs.Accepted.{none_held}
use Rattle.gf_find.proofs.Certified.{verify_once}

abbrev Texts : Type 0
Texts = List (List ℕ)

-- a file that is refused is one of those that are named
pub refused_inside : (files : Option Files) (names : Texts) (file : ℕ) (fault : Fault) → AreRefused files names file fault → file < length names
refused_inside files names file fault (inl many) = let first = many.first in let more = many.many in omega (arith, first, more)
refused_inside files names file fault (inr first) = first.inside

module _ (files : Option Files) (names : Texts) (count now file : ℕ) (r : Refusal) where
  pub refused_stops : (fault : Fault) → AreRefused files names file fault → (r ≡ R.Memory) ⊎ ((name : List ℕ) × (slice_get names file ≡ Some name) × (r ≡ R.File name fault))
      → (r ≡ R.Memory) ⊎ FilesStop files names count now r
  refused_stops fault cause (inl none) = inl none
  refused_stops fault cause (inr is) = inr (inr (inl (record { file = file; name = is.0; here = is.1; fault = fault; cause = cause; same = is.2 })))

  pub lacking_stops : IsNotRead files names count now file → (r ≡ R.Memory) ⊎ ((name : List ℕ) × (slice_get names file ≡ Some name) × (r ≡ R.NotRead name))
      → (r ≡ R.Memory) ⊎ FilesStop files names count now r
  lacking_stops cause (inl none) = inl none
  lacking_stops cause (inr is) = inr (inr (inr (record { file = file; name = is.0; here = is.1; cause = cause; same = is.2 })))

length-zero : (names : Texts) → length names ≡ 0 → names ≡ []
length-zero [] none = refl
length-zero (first ∷ names) none = absurd (omega (arith, none))

-- a name that there is, is one of some
named_none : (names : Texts) (file : ℕ) (name : List ℕ) → slice_get names file ≡ Some name → names ≡ [] → ⊥
named_none [] file name here none = absurd (cc)
named_none (first ∷ names) file name here none = absurd (cc)

module _ (known : Files) (names : Texts) (count now : ℕ) where
  -- accepted files hold one ephemeris
  one_ephemeris : (P Q : Ephemeris → Type 0) → HoldEphemeris (Some known) names P → HoldEphemeris (Some known) names Q → (e : Ephemeris) × P e × Q e
  one_ephemeris P Q p q =
      (p.ephemeris, p.is, subst Q (sym (accepted_once known names p.ephemeris q.ephemeris p.held.end q.held.end p.held.accepted q.held.accepted).0) q.is)

  -- nothing stops the reading of accepted files but a failing shelf
  pub held_stops : (P : Ephemeris → Type 0) (r : Refusal) → HoldEphemeris (Some known) names P → FilesStop (Some known) names count now r → Rose count now
  held_stops P r p (inl none) = absurd (none_held (Some known) p.ephemeris (subst (λ (ns : Texts). HaveEphemeris (Some known) ns p.ephemeris) none.none p.held))
  held_stops P r p (inr (inl refused)) = absurd (accepted_not_refused known names p.ephemeris p.held.end refused.file refused.fault p.held.accepted refused.cause)
  held_stops P r p (inr (inr lack)) = accepted_not_lacking known names p.ephemeris p.held.end count now lack.file p.held.accepted lack.cause

  -- the name at a place is one
  one_name : (file place : ℕ) (name other : List ℕ) → file ≡ place → slice_get names file ≡ Some name → slice_get names place ≡ Some other → name ≡ other
  one_name file place name other same here there =
      let found : Some name ≡ Some other = sym here ∙ ap (λ (k : ℕ). slice_get names k) same ∙ there in cc

  one_refused : (r s : Refusal) → RefuseFile (Some known) names r → RefuseFile (Some known) names s → r ≡ s
  one_refused r s a b =
      let same = refused_once known names a.file b.file a.fault b.fault a.cause b.cause in
      let name = one_name a.file b.file a.name b.name same.0 a.here b.here in
      a.same ∙ (λ i. R.File (name i) (same.1 i)) ∙ sym b.same

  one_lack : (r s : Refusal) → LackFile (Some known) names count now r → LackFile (Some known) names count now s → Rose count now ⊎ (r ≡ s)
  one_lack r s a b = by (lacking_once known names count now a.file b.file a.cause b.cause)
    where
      by : Rose count now ⊎ (a.file ≡ b.file) → Rose count now ⊎ (r ≡ s)
      by (inl rose) = inl rose
      by (inr same) = inr (a.same ∙ ap R.NotRead (one_name a.file b.file a.name b.name same a.here b.here) ∙ sym b.same)

  -- there is one cause to stop, unless the shelf failed
  one_stop : (r s : Refusal) → FilesStop (Some known) names count now r → FilesStop (Some known) names count now s → Rose count now ⊎ (r ≡ s)
  one_stop r s (inl a) (inl b) = inr (a.same ∙ sym b.same)
  one_stop r s (inl a) (inr (inl b)) = absurd (named_none names b.file b.name b.here a.none)
  one_stop r s (inl a) (inr (inr b)) = absurd (named_none names b.file b.name b.here a.none)
  one_stop r s (inr (inl a)) (inl b) = absurd (named_none names a.file a.name a.here b.none)
  one_stop r s (inr (inl a)) (inr (inl b)) = inr (one_refused r s a b)
  one_stop r s (inr (inl a)) (inr (inr b)) = inl (refused_not_lacking known names a.file a.fault count now b.file a.cause b.cause)
  one_stop r s (inr (inr a)) (inl b) = absurd (named_none names a.file a.name a.here b.none)
  one_stop r s (inr (inr a)) (inr (inl b)) = inl (refused_not_lacking known names b.file b.fault count now a.file b.cause a.cause)
  one_stop r s (inr (inr a)) (inr (inr b)) = one_lack r s a b

  -- where an ephemeris has one outcome, so have files
  pub files_once : (P : Ephemeris → Outcome → Type 0) (a b : Outcome) → ((e : Ephemeris) → P e a → P e b → Rose count now ⊎ (a ≡ b))
      → FilesHave (Some known) names count now P a → FilesHave (Some known) names count now P b → Rose count now ⊎ (a ≡ b)
  files_once P a b once (inl p) (inl q) = let one = one_ephemeris (λ e. P e a) (λ e. P e b) p q in once one.0 one.1 one.2
  files_once P a b once (inl p) (inr q) = inl (held_stops (λ e. P e a) q.0 p q.1)
  files_once P a b once (inr p) (inl q) = inl (held_stops (λ e. P e b) p.0 q p.1)
  files_once P a b once (inr p) (inr q) = same (one_stop p.0 q.0 p.1 q.1)
    where
      same : Rose count now ⊎ (p.0 ≡ q.0) → Rose count now ⊎ (a ≡ b)
      same (inl rose) = inl rose
      same (inr is) = inr (p.2 ∙ ap (λ (r : Refusal). Err r) is ∙ sym q.2)

-- files that are not opened have one outcome, whatever is known of them
module _ (files : Option Files) (names : Texts) (count now : ℕ) where
  pub unopened_held : (P : Ephemeris → Type 0) → AreNotOpened names → HoldEphemeris files names P → ⊥
  unopened_held P (inl none) p =
      none_held files p.ephemeris (subst (λ (ns : Texts). HaveEphemeris files ns p.ephemeris) (length-zero names none) p.held)
  unopened_held P (inr many) p = let few = p.held.accepted.few in absurd (omega (arith, many, few))

  -- they stop as if there were none
  unopened_stop : (r : Refusal) → AreNotOpened names → FilesStop files names count now r → FilesStop (Some []) names count now r
  unopened_stop r not (inl none) = inl none
  unopened_stop r (inl none) (inr (inl a)) = absurd (named_none names a.file a.name a.here (length-zero names none))
  unopened_stop r (inl none) (inr (inr a)) = absurd (named_none names a.file a.name a.here (length-zero names none))
  unopened_stop r (inr many) (inr (inl a)) = elim a.cause [
    | inl too ↦ inr (inl (record { file = a.file; name = a.name; here = a.here; fault = a.fault; cause = inl too; same = a.same }))
    | inr has ↦ let few = has.few in absurd (omega (arith, many, few))
  ]
  unopened_stop r (inr many) (inr (inr a)) = let few = a.cause.few in absurd (omega (arith, many, few))

  -- so no ephemeris has a part in their outcome
  unopened_outcome : (P : Ephemeris → Outcome → Type 0) (a : Outcome) → AreNotOpened names → FilesHave files names count now P a → FilesHave (Some []) names count now (λ e o. ⊥) a
  unopened_outcome P a not (inl p) = absurd (unopened_held (λ e. P e a) not p)
  unopened_outcome P a not (inr p) = inr (p.0, unopened_stop p.0 not p.1, p.2)

  unopened_once : (P : Ephemeris → Outcome → Type 0) (a b : Outcome) → AreNotOpened names → FilesHave files names count now P a → FilesHave files names count now P b
      → Rose count now ⊎ (a ≡ b)
  unopened_once P a b not p q =
      files_once [] names count now (λ e o. ⊥) a b (λ e one two. absurd one) (unopened_outcome P a not p) (unopened_outcome P b not q)

-- nothing is held of them
pub not_opened : (files : Option Files) (names : Texts) (e : Ephemeris) → HaveEphemeris files names e → AreNotOpened names → ⊥
not_opened files names e held none = unopened_held files names 0 0 (λ f. Unit {0}) none (record { ephemeris = e; held = held; is = tt })

-- a function of the ephemeris has one value
value_once : (count now : ℕ) (f : Ephemeris → Outcome) (a b : Outcome) (e : Ephemeris) → f e ≡ a → f e ≡ b → Rose count now ⊎ (a ≡ b)
value_once count now f a b e one two = inr (sym one ∙ two)

-- a run has one outcome
known_once : (known : Files) (count now : ℕ) (asked : Result Request WordFault) (a b : Outcome)
    → RequestHasOutcome asked (Some known) count now a → RequestHasOutcome asked (Some known) count now b → Rose count now ⊎ (a ≡ b)
known_once known count now (Err fault) a b p q = inr (p ∙ sym q)
known_once known count now (Ok (Find find)) a b p q = files_once known find.files count now (λ e o. report_of find e ≡ o) a b (value_once count now (report_of find) a b) p q
known_once known count now (Ok (Cert find)) a b p q = files_once known find.files count now (λ e o. certificate_of find e ≡ o) a b (value_once count now (certificate_of find) a b) p q
known_once known count now (Ok (Verify find cert)) a b p q =
    files_once known find.files count now (λ e o. VerifyHasOutcome (Some known) find cert count now (in_ticks find.tick e) o) a b
    (λ e one two. verify_once known cert count now find (in_ticks find.tick e) a b one two) p q
known_once known count now (Ok (Check names)) a b p q = files_once known names count now (λ e o. summary_of e ≡ o) a b (value_once count now summary_of a b) p q
known_once known count now (Ok (Gen blocks seed workers)) a b p q = inr (p ∙ sym q)
known_once known count now (Ok (Set find ref2 relation)) a b p q =
    files_once known find.files count now (λ e o. set_of find ref2 relation e ≡ o) a b (value_once count now (set_of find ref2 relation) a b) p q
known_once known count now (Ok (Scalar ask)) a b p q = inr (p ∙ sym q)

none_opened_once : (files : Option Files) (count now : ℕ) (asked : Result Request WordFault) (a b : Outcome) → OpensNone asked
    → RequestHasOutcome asked files count now a → RequestHasOutcome asked files count now b → Rose count now ⊎ (a ≡ b)
none_opened_once files count now (Err fault) a b none p q = inr (p ∙ sym q)
none_opened_once files count now (Ok (Find find)) a b none p q = unopened_once files find.files count now (λ e o. report_of find e ≡ o) a b none p q
none_opened_once files count now (Ok (Cert find)) a b none p q = unopened_once files find.files count now (λ e o. certificate_of find e ≡ o) a b none p q
none_opened_once files count now (Ok (Verify find cert)) a b none p q =
    unopened_once files find.files count now (λ e o. VerifyHasOutcome files find cert count now (in_ticks find.tick e) o) a b none p q
none_opened_once files count now (Ok (Check names)) a b none p q = unopened_once files names count now (λ e o. summary_of e ≡ o) a b none p q
none_opened_once files count now (Ok (Gen blocks seed workers)) a b none p q = inr (p ∙ sym q)
none_opened_once files count now (Ok (Set find ref2 relation)) a b none p q =
    unopened_once files find.files count now (λ e o. set_of find ref2 relation e ≡ o) a b none p q
none_opened_once files count now (Ok (Scalar ask)) a b none p q = inr (p ∙ sym q)

pub one_outcome_by : (files : Option Files) (count now : ℕ) (asked : Result Request WordFault) (a b : Outcome) → OpensNone asked ⊎ IsSome files
    → RequestHasOutcome asked files count now a → RequestHasOutcome asked files count now b → Rose count now ⊎ (a ≡ b)
one_outcome_by files count now asked a b (inl none) p q = none_opened_once files count now asked a b none p q
one_outcome_by None count now asked a b (inr known) p q = absurd (cc)
one_outcome_by (Some known) count now asked a b (inr is) p q = known_once known count now asked a b p q

-- a file that could not be read is one of those that are named
pub missing_inside : (files : Option Files) (names : Texts) (count now file : ℕ) → IsNotRead files names count now file → file < length names
missing_inside files names count now file lack = slice_get_within names file lack.name lack.here
