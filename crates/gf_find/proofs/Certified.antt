-- Where the file of a certificate is known, a run that reads it has one outcome.
use Rattle.std.proofs.Common.{◌≡◌, ◌⊎◌, ◌<◌, ◌≤◌, ◌∙◌, ℕ, List, length, Option, None, Some, Err, sym, ap, subst, arith, inl, inr}
use Rattle.std.specs.Prelude.{IsSomeAnd}
use Rattle.spec_text.specs.declared.limits.TheConstants.{MAX_TEXT_BYTES}
use Rattle.spec_ephemeris.specs.Ephemeris.{Ephemeris}
use Rattle.spec_files.specs.Files.{IsFile, IsLongFile}
use Rattle.spec_requests.specs.declared.request.FindAsk.{FindAsk}
use Rattle.gf_edges.specs.Edges.{Files, Lacks, Rose}
use Rattle.spec_outcomes.specs.declared.refusal.Refusal.{Refusal}
use Rattle.spec_outcomes.specs.Outcomes.{Outcome, cause_of}
use Rattle.spec_outcomes.specs.Certificates.{verification_of}
use Rattle.spec_outcomes.specs.Queries.{query_of, search, span_of}
use Rattle.gf_find.specs.CertificateFiles.{CauseOr, CertificateHasOutcome, CertificateStops, HoldsText, IsAbsent, IsTooLong, VerifyHasOutcome}

module _ (known : Files) (name : List ℕ) where
  -- a file that is there is not longer than it is, and is not lacking
  not_long : (text : List ℕ) → IsFile (Some known) name text → length text ≤ MAX_TEXT_BYTES → IsLongFile (Some known) name → ⊥
  not_long text there small long =
      let more : MAX_TEXT_BYTES < length text = subst (λ (found : Option (List ℕ)). IsSomeAnd found (λ bytes. MAX_TEXT_BYTES < length bytes)) there long in
      omega (arith, small, more)

  not_lacking : (text : List ℕ) → IsFile (Some known) name text → Lacks (Some known) name → ⊥
  not_lacking text there lacks = let same : Some text ≡ None = sym there ∙ lacks in absurd (cc)

  long_not_lacking : IsLongFile (Some known) name → Lacks (Some known) name → ⊥
  long_not_lacking long lacks = subst (λ (found : Option (List ℕ)). IsSomeAnd found (λ bytes. MAX_TEXT_BYTES < length bytes)) lacks long

  one_text : (text other : List ℕ) → IsFile (Some known) name text → IsFile (Some known) name other → text ≡ other
  one_text text other there also = let same : Some text ≡ Some other = sym there ∙ also in cc

  module _ (count now : ℕ) where
    held_stops : (P : List ℕ → Type 0) (r : Refusal) → HoldsText (Some known) name P → CertificateStops (Some known) name count now r → Rose count now
    held_stops P r p (inl long) = absurd (not_long p.text p.there p.small long.long)
    held_stops P r p (inr absent) = by absent.cause
      where
        by : Rose count now ⊎ Lacks (Some known) name → Rose count now
        by (inl rose) = rose
        by (inr lacks) = absurd (not_lacking p.text p.there lacks)

    long_absent : (r s : Refusal) → IsTooLong (Some known) name r → IsAbsent (Some known) name count now s → Rose count now
    long_absent r s long absent = by absent.cause
      where
        by : Rose count now ⊎ Lacks (Some known) name → Rose count now
        by (inl rose) = rose
        by (inr lacks) = absurd (long_not_lacking long.long lacks)

    one_stop : (r s : Refusal) → CertificateStops (Some known) name count now r → CertificateStops (Some known) name count now s → Rose count now ⊎ (r ≡ s)
    one_stop r s (inl a) (inl b) = inr (a.same ∙ sym b.same)
    one_stop r s (inl a) (inr b) = inl (long_absent r s a b)
    one_stop r s (inr a) (inl b) = inl (long_absent s r b a)
    one_stop r s (inr a) (inr b) = inr (a.same ∙ sym b.same)

    certificate_once : (f : List ℕ → Outcome) (a b : Outcome) → CertificateHasOutcome (Some known) name count now f a → CertificateHasOutcome (Some known) name count now f b
        → Rose count now ⊎ (a ≡ b)
    certificate_once f a b (inl p) (inl q) = inr (sym p.is ∙ ap f (one_text p.text q.text p.there q.there) ∙ q.is)
    certificate_once f a b (inl p) (inr q) = inl (held_stops (λ text. f text ≡ a) q.0 p q.1)
    certificate_once f a b (inr p) (inl q) = inl (held_stops (λ text. f text ≡ b) p.0 q p.1)
    certificate_once f a b (inr p) (inr q) = same (one_stop p.0 q.0 p.1 q.1)
      where
        same : Rose count now ⊎ (p.0 ≡ q.0) → Rose count now ⊎ (a ≡ b)
        same (inl rose) = inl rose
        same (inr is) = inr (p.2 ∙ ap (λ (r : Refusal). Err r) is ∙ sym q.2)

    module _ (find : FindAsk) (e : Ephemeris) where
      abbrev Has : Outcome → Type 0
      Has o = CertificateHasOutcome (Some known) name count now (verification_of find (search (query_of find) e) (span_of find e)) o

      by_cause : (a b : Outcome) (c : Option Refusal) → CauseOr c a (Has a) → CauseOr c b (Has b) → Rose count now ⊎ (a ≡ b)
      by_cause a b (Some r) p q = inr (p ∙ sym q)
      by_cause a b None p q = certificate_once (verification_of find (search (query_of find) e) (span_of find e)) a b p q

      pub verify_once : (a b : Outcome) → VerifyHasOutcome (Some known) find name count now e a → VerifyHasOutcome (Some known) find name count now e b → Rose count now ⊎ (a ≡ b)
      verify_once a b one two = by_cause a b (cause_of (query_of find) e (span_of find e)) one two
