-- What `cert` reports: the certificate of the leaves of the search that is asked for. Times are ticks. Known bytes were the first
-- list, and are the second.
use Rattle.std.specs.Prelude.{◌≡◌, ℕ, List, Option, Ok}
use Rattle.std.specs.Io.KnownBytes.{Appends}
use Rattle.spec_ephemeris.specs.Ephemeris.{Ephemeris}
use Rattle.spec_ephemeris.specs.Ticks.{in_ticks}
use Rattle.spec_requests.specs.declared.request.FindAsk.{FindAsk}
use Rattle.spec_outcomes.specs.Certificates.{certificate_by, counted_certificate}
use Rattle.spec_outcomes.specs.Queries.{leaves_in, query_of, search, span_of}

-- the certificate of a search over an ephemeris that counts its ticks
pub record IsCountedCertificate (find : FindAsk) (text : List ℕ) (e : Ephemeris) : Type 0 where
  pub outcome : counted_certificate find e ≡ Ok text
  pub printed : text ≡ certificate_by find (span_of find e) (leaves_in (search (query_of find) e) (span_of find e))

-- the same over the ephemeris of its files, which counts seconds
abbrev pub IsCertificate : FindAsk → List ℕ → Ephemeris → Type 0
IsCertificate find text e = IsCountedCertificate find text (in_ticks find.tick e)

-- it was written
abbrev pub ReportsCertificate : FindAsk → Option (List ℕ) → Option (List ℕ) → Ephemeris → Type 0
ReportsCertificate find old new e =
    let counted = in_ticks find.tick e in
    let span = span_of find counted in
    Appends old new (certificate_by find span (leaves_in (search (query_of find) counted) span))
