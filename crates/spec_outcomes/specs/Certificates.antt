-- What `cert` comes to over an ephemeris, and `verify` with the text of a certificate.
use Rattle.std.specs.Prelude.{◌≡◌, ◌≤◌, ℕ, List, length, Result, Ok, Err}
use Rattle.spec_text.specs.declared.limits.TheConstants.{MAX_TEXT_BYTES}
use Rattle.spec_ephemeris.specs.Ephemeris.{Ephemeris}
use Rattle.spec_ephemeris.specs.Ticks.{in_ticks}
use Rattle.spec_trees.specs.declared.tree.Leaf.{Leaf}
use Rattle.spec_trees.specs.Windows.{windows}
use Rattle.spec_searches.specs.Search.{Search, may_be_cut}
use Rattle.spec_searches.specs.Found.{root, rules}
use Rattle.spec_certificates.specs.declared.entry.CertFault.{CertFault}
use Rattle.spec_certificates.specs.declared.limits.TheConstants.{MAX_CERT_LEAVES}
use Rattle.spec_certificates.specs.Places.{Cutting}
use Rattle.spec_certificates.specs.Checks.{checked}
use Rattle.spec_certificates.specs.Texts.{certificate}
use Rattle.spec_requests.specs.declared.request.FindAsk.{FindAsk}
use Rattle.spec_output.specs.Report.{request_line, verification}
use Rattle.spec_outcomes.specs.declared.query.Span.{Span}
use Rattle.spec_outcomes.specs.declared.refusal.Refusal.TheVariants.{Certificate}
use Rattle.spec_outcomes.specs.Outcomes.{Outcome, found, text_by}
use Rattle.spec_outcomes.specs.Queries.{AreFound, leaves_in, query_of, search, span_of}

-- the line of a request over a span, which stands in its certificate
abbrev pub line_over : FindAsk → Span → List ℕ
line_over find span = request_line find span.from span.upto

-- ---- `cert`
abbrev pub certificate_by : FindAsk → Span → List Leaf → List ℕ
certificate_by find span ls = certificate (line_over find span) ls

-- its outcome over an ephemeris that counts the ticks of the search
abbrev pub counted_certificate : FindAsk → Ephemeris → Outcome
counted_certificate find e = let span = span_of find e in text_by (certificate_by find span) (found MAX_CERT_LEAVES (query_of find) e span)

-- the same over the ephemeris of its files, which counts seconds
abbrev pub certificate_of : FindAsk → Ephemeris → Outcome
certificate_of find e = counted_certificate find (in_ticks find.tick e)

-- ---- `verify`
-- the rules of a search's tree, and which nodes may be cut
abbrev pub cutting : Search → Cutting
cutting s = record { rules = rules s; may = may_be_cut s }

-- the leaves of a text that is a certificate of a search over a span, or the first line that breaks a rule
abbrev pub leaves_checked : FindAsk → Search → Span → List ℕ → Result (List Leaf) CertFault
leaves_checked find s span text = checked (cutting s) (root span.from span.upto) (line_over find span) text

-- the bytes that are printed of a certificate's leaves, or the refusal
abbrev pub verified_by : FindAsk → Span → Result (List Leaf) CertFault → Outcome
verified_by find span (Ok ls) = Ok (verification find span.from span.upto (windows ls) (length ls))
verified_by find span (Err fault) = Err (Certificate fault.line fault.number)

-- the outcome of this text, for a search over a span
abbrev pub verification_of : FindAsk → Search → Span → List ℕ → Outcome
verification_of find s span text = verified_by find span (leaves_checked find s span text)

-- the text is a certificate of these leaves, of which these bytes are printed: their windows are those of the search's events
pub record IsVerification (find : FindAsk) (s : Search) (span : Span) (text bytes : List ℕ) : Type 0 where
  pub leaves : List Leaf
  pub checked : leaves_checked find s span text ≡ Ok leaves
  pub printed : bytes ≡ verification find span.from span.upto (windows leaves) (length leaves)
  pub windows : AreFound s span leaves

-- a text may be read, and is a certificate of the leaves of the search that is asked for, over an ephemeris that counts its ticks
pub record IsAccepted (find : FindAsk) (e : Ephemeris) (text : List ℕ) : Type 0 where
  pub small : length text ≤ MAX_TEXT_BYTES
  pub accepted : verification_of find (search (query_of find) e) (span_of find e) text
      ≡ Ok (verification find (span_of find e).from (span_of find e).upto (windows (leaves_in (search (query_of find) e) (span_of find e))) (length (leaves_in (search (query_of find) e) (span_of find e))))
