-- The certificate that a search writes is one: its check gives the leaves of the search.
use Rattle.std.proofs.Common.{◌≡◌, ◌<◌, ◌≤◌, ◌∙◌, ℕ, Bool, true, false, List, length, Option, None, Some, Result, Ok, Err, if◌then◌else◌, nat_lt, refl, sym, ap, subst}
use Rattle.std.proofs.lemmas.Bool.{ltb-false}
use Rattle.spec_text.specs.declared.limits.TheConstants.{MAX_TEXT_BYTES}
use Rattle.spec_ephemeris.specs.Ephemeris.{Ephemeris, IsEphemeris}
use Rattle.spec_trees.specs.declared.tree.Leaf.{Leaf}
use Rattle.spec_trees.specs.declared.tree.Node.{Node}
use Rattle.spec_trees.specs.Tree.{IsValid}
use Rattle.spec_searches.specs.Search.{IsSearch, Search}
use Rattle.spec_searches.specs.Found.{root, rules}
use Rattle.spec_kinds.specs.Faults.{fault_of}
use Rattle.spec_certificates.specs.declared.limits.TheConstants.{MAX_CERT_LEAVES}
use Rattle.spec_certificates.specs.Checks.{checked}
use Rattle.spec_requests.specs.declared.request.FindAsk.{FindAsk}
use Rattle.spec_requests.specs.Limits.{IsWithinLimits}
use Rattle.spec_outcomes.specs.declared.query.Query.{Query}
use Rattle.spec_outcomes.specs.declared.query.Span.{Span}
use Rattle.spec_outcomes.specs.declared.refusal.Refusal.{Refusal}
use Rattle.spec_outcomes.specs.declared.refusal.Refusal.TheVariants.{TooManyLeaves}
use Rattle.spec_outcomes.specs.Certificates.{IsAccepted, certificate_by, counted_certificate, cutting, line_over, verified_by}
use Rattle.spec_outcomes.specs.Outcomes.{cause_of, found, searched, text_by, unless}
use Rattle.spec_outcomes.specs.Queries.{IsQuery, is_within, leaves_in, query_of, search, span_of, whole_span}
use Rattle.spec_outcomes.proofs.Searching.{none_by, root_valid, searchable}

-- ---- what was found
text_from : (f : List Leaf → List ℕ) (r : Result (List Leaf) Refusal) (text : List ℕ) → text_by f r ≡ Ok text → (ls : List Leaf) × (r ≡ Ok ls) × (f ls ≡ text)
text_from f (Ok ls) text is = let same : f ls ≡ text = cc in (ls, refl, same)
text_from f (Err refusal) text is = absurd (cc)

unless_ok : (cause : Option Refusal) (r : Result (List Leaf) Refusal) (ls : List Leaf) → unless cause r ≡ Ok ls → (cause ≡ None) × (r ≡ Ok ls)
unless_ok (Some refusal) r ls is = absurd (cc)
unless_ok None r ls is = (refl, is)

few_by : (most : ℕ) (mine ls : List Leaf) (many : Bool) → nat_lt most (length mine) ≡ many
    → (if many then Err (TooManyLeaves most) else Ok mine) ≡ Ok ls → (ls ≡ mine) × (length mine ≤ most)
few_by most mine ls true is e = absurd (cc)
few_by most mine ls false is e = let same : mine ≡ ls = cc in (sym same, ltb-false most (length mine) is)

few_found : (most : ℕ) (s : Search) (span : Span) (ls : List Leaf) → searched most s span ≡ Ok ls → (ls ≡ leaves_in s span) × (length (leaves_in s span) ≤ most)
unfolding searched
few_found most s span ls is = few_by most (leaves_in s span) ls (nat_lt most (length (leaves_in s span))) refl is

-- ---- the check
module _ (find : FindAsk) (e : Ephemeris) (checked_e : IsEphemeris e) (block : 0 < e.blocks) (limits : IsWithinLimits find) where
  abbrev q : Query
  q = query_of find

  abbrev s : Search
  s = search q e

  abbrev span : Span
  span = span_of find e

  abbrev top : Node
  top = root span.from span.upto

  abbrev mine : List ℕ
  mine = certificate_by find span (leaves_in s span)

  is_query : IsQuery q
  is_query = record { ask = limits.ask; some_width = limits.some_width; width = limits.width; depth = limits.depth }

  -- where the certificate of the leaves is accepted, so is what `cert` comes to
  pub accepted_is : (text : List ℕ) → counted_certificate find e ≡ Ok text
      → (IsSearch s → IsValid (rules s) top → length (leaves_in s span) ≤ MAX_CERT_LEAVES → checked (cutting s) top (line_over find span) mine ≡ Ok (leaves_in s span))
      → (IsSearch s → IsValid (rules s) top → length (leaves_in s span) ≤ MAX_CERT_LEAVES → length mine ≤ MAX_TEXT_BYTES)
      → IsAccepted find e text
  accepted_is text is accepts short =
      let made = text_from (certificate_by find span) (found MAX_CERT_LEAVES q e span) text is in
      let got = unless_ok (cause_of q e span) (searched MAX_CERT_LEAVES s span) made.0 made.1 in
      let none = none_by (is_within span e) (fault_of e q.ask) span (whole_span e) got.0 in
      let ours = few_found MAX_CERT_LEAVES s span made.0 got.1 in
      let searches = searchable q e checked_e block is_query none.1 in
      let valid = root_valid q e span none.0 in
      subst (λ (t : List ℕ). IsAccepted find e t) (ap (certificate_by find span) (sym ours.0) ∙ made.2) (record {
        small = short searches valid ours.1;
        accepted = ap (verified_by find span) (accepts searches valid ours.1);
      })
