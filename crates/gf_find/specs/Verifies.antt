-- What `verify` reports: the windows of the leaves of a certificate, which are those of the events that are asked for, and how
-- many leaves it has. Times are ticks. Known bytes were the first list, and are the second.
use Rattle.std.specs.Prelude.{◌≡◌, ℕ, List, length, Option, None, Ok}
use Rattle.spec_ephemeris.specs.Ephemeris.{Ephemeris}
use Rattle.spec_ephemeris.specs.Ticks.{in_ticks}
use Rattle.spec_trees.specs.declared.tree.Leaf.{Leaf}
use Rattle.spec_trees.specs.Windows.{windows}
use Rattle.spec_searches.specs.Search.{Search, events}
use Rattle.spec_searches.specs.Found.{IsLeftUndecided}
use Rattle.spec_requests.specs.declared.request.FindAsk.{FindAsk}
use Rattle.spec_output.specs.Report.{verification}
use Rattle.spec_output.specs.Runs.{Reports}
use Rattle.gf_edges.specs.Edges.{Files}
use Rattle.spec_outcomes.specs.declared.query.Span.{Span}
use Rattle.spec_outcomes.specs.Outcomes.{cause_of}
use Rattle.spec_outcomes.specs.Certificates.{IsVerification, leaves_checked}
use Rattle.spec_outcomes.specs.Queries.{query_of, search, span_of}
use Rattle.gf_find.specs.CertificateFiles.{HoldsText}

-- these bytes are printed of the certificate in a file, over an ephemeris that counts the ticks of the search
pub record IsVerified (files : Option Files) (find : FindAsk) (cert : List ℕ) (e : Ephemeris) (bytes : List ℕ) : Type 0 where
  pub sound : cause_of (query_of find) e (span_of find e) ≡ None
  pub holds : HoldsText files cert (λ text. IsVerification find (search (query_of find) e) (span_of find e) text bytes)

-- the windows of a certificate's leaves were reported, and how many leaves it has, whoever made it: its leaves are those that its
-- lines name; their windows lie in the span, are disjoint and in order, and hold every event, each certain one exactly one; and
-- each time of an undecided one lies in one of these leaves that is left undecided, all of which lies in the window
pub record ReportsCertified (find : FindAsk) (s : Search) (span : Span) (text : List ℕ) (old new : Option (List ℕ)) : Type 0 where
  pub leaves : List Leaf
  pub checked : leaves_checked find s span text ≡ Ok leaves
  pub reports : Reports (events s) (IsLeftUndecided s leaves) span.from span.upto (windows leaves)
      (λ ws. verification find span.from span.upto ws (length leaves)) old new

-- the same over the ephemeris of its files, which counts seconds, for the certificate in a file
abbrev pub ReportsVerified : Option Files → FindAsk → List ℕ → Option (List ℕ) → Option (List ℕ) → Ephemeris → Type 0
ReportsVerified files find cert old new e =
    let counted = in_ticks find.tick e in
    HoldsText files cert (λ text. ReportsCertified find (search (query_of find) counted) (span_of find counted) text old new)
