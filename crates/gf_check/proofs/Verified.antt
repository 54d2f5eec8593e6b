-- What is printed of a text that is a certificate, and why another is refused.
use Rattle.std.proofs.Common.{◌≡◌, ◌⊎◌, ◌∙◌, ℕ, List, length, Ok, Err, Result, All, refl, sym, ap, subst, inl, inr}
use Rattle.spec_trees.specs.declared.tree.Leaf.{Leaf}
use Rattle.spec_trees.specs.declared.tree.Node.{Node}
use Rattle.spec_trees.specs.Tree.{Covers}
use Rattle.spec_trees.specs.Windows.{windows}
use Rattle.spec_events.specs.Events.{AreWindows}
use Rattle.spec_searches.specs.Search.{Search, events}
use Rattle.spec_searches.specs.Found.{IsLeftUndecided, root}
use Rattle.spec_certificates.specs.declared.entry.CertFault.{CertFault}
use Rattle.spec_certificates.specs.Checks.{checked}
use Rattle.gf_cert.specs.declared.errors.CertError.{CertError}
use Rattle.gf_cert.specs.declared.errors.CertError.TheVariants as C
use Rattle.gf_cert.specs.Answers.{Fails}
use Rattle.gf_check.specs.Errors.{of_cert}
use Rattle.spec_requests.specs.declared.request.FindAsk.{FindAsk}
use Rattle.spec_times.specs.Ticks.{IsTimeIn}
use Rattle.spec_output.specs.Report.{HasTimes, verification}
use Rattle.spec_outcomes.specs.declared.query.Span.{Span}
use Rattle.spec_outcomes.specs.declared.refusal.Refusal.TheVariants.{Certificate, Memory}
use Rattle.spec_outcomes.specs.Certificates.{IsVerification, cutting, line_over, verification_of, verified_by}
use Rattle.spec_outcomes.proofs.SpanTimes.{windows_are}

module _ (find : FindAsk) (s : Search) (span : Span) (top : Node) (line text : List ℕ) (whole : top ≡ root span.from span.upto) (is_line : line ≡ line_over find span) where
  -- what the check of these says is what it says of the request's own
  theirs : (r : Result (List Leaf) CertFault) → checked (cutting s) top line text ≡ r → checked (cutting s) (root span.from span.upto) (line_over find span) text ≡ r
  theirs r is = (λ i. checked (cutting s) (sym whole i) (sym is_line i) text) ∙ is

  module _ (ls : List Leaf) (are : AreWindows (events s) (IsLeftUndecided s ls) top.a top.b (windows ls)) where
    found : AreWindows (events s) (IsLeftUndecided s ls) span.from span.upto (windows ls)
    found = subst (λ (n : Node). AreWindows (events s) (IsLeftUndecided s ls) n.a n.b (windows ls)) whole are

    pub accepted : (shown : List Leaf) (bytes : List ℕ) → checked (cutting s) top line text ≡ Ok ls → shown ≡ ls
        → bytes ≡ verification find span.from span.upto (windows shown) (length shown) → IsVerification find s span text bytes
    accepted shown bytes is same printed = record {
      leaves = ls;
      checked = theirs (Ok ls) is;
      printed = printed ∙ (λ i. verification find span.from span.upto (windows (same i)) (length (same i)));
      windows = found;
    }

    pub have_times : (shown : List Leaf) → shown ≡ ls → IsTimeIn find.tick span.from → IsTimeIn find.tick span.upto → All (HasTimes find.tick) (windows shown)
    have_times shown same from upto =
        subst (λ (vs : List Leaf). All (HasTimes find.tick) (windows vs)) (sym same) (windows_are find.tick span from upto s ls found)

  pub follow : (ls shown : List Leaf) → shown ≡ ls → Covers top.a ls top.b → Covers span.from shown span.upto
  follow ls shown same cover = subst (λ (vs : List Leaf). Covers span.from vs span.upto) (sym same) (subst (λ (n : Node). Covers n.a ls n.b) whole cover)

  refused : (fault : CertFault) → checked (cutting s) top line text ≡ Err fault → verification_of find s span text ≡ Err (Certificate fault.line fault.number)
  refused fault is = ap (verified_by find span) (theirs (Err fault) is)

  pub error_is : (e : CertError) → Fails (checked (cutting s) top line text) e → (of_cert e ≡ Memory) ⊎ (verification_of find s span text ≡ Err (of_cert e))
  error_is (C.Refused number rule) is = inr (refused (record { line = number; number = rule }) is)
  error_is C.Memory is = inl refl
