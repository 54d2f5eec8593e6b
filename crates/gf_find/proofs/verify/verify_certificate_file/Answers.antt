use Rattle.std.proofs.Common.{◌≤◌, ℕ, List, length, subst, sym}
use Rattle.spec_text.specs.declared.limits.TheConstants.{MAX_TEXT_BYTES}
use Rattle.spec_outcomes.specs.Certificates.{IsVerification, verification_of}
use Rattle.gf_find.proofs.Verifying.{file_refused, text_printed, text_refused}
use Rattle.gf_find.proofs.verify.verify_certificate_file.Goals as goal

pub verify_certificate-requires-clause-small : goal.verify_certificate-requires-clause-small
verify_certificate-requires-clause-small g c = subst (λ (t : List ℕ). length t ≤ MAX_TEXT_BYTES) (sym c.deref.ensures.value) c.in-Ok.ensures.small

pub returns-in-Ok-clause-verified : goal.returns-in-Ok-clause-verified
returns-in-Ok-clause-verified g c =
    text_printed (g.S.Shelf.files c.args.shelf.now) c.args.cert.now c.in-Ok.text.items c.deref.result.now c.in-Ok.ensures.there c.in-Ok.ensures.small c.deref.ensures.value
    (λ text bytes. IsVerification c.args.find.now c.args.judge.now.search c.args.span text bytes) c.verify_certificate.result c.verify_certificate.ensures.verified

pub returns-in-Ok-clause-stopped : goal.returns-in-Ok-clause-stopped
returns-in-Ok-clause-stopped g c =
    text_refused (g.S.Shelf.files c.args.shelf.now) c.args.cert.now c.in-Ok.text.items c.deref.result.now c.in-Ok.ensures.there c.in-Ok.ensures.small c.deref.ensures.value
    (g.S.Shelf.faults c.args.shelf.now) (g.S.Shelf.faults c.read_certificate.new.shelf) (verification_of c.args.find.now c.args.judge.now.search c.args.span) c.verify_certificate.result c.verify_certificate.ensures.stopped

pub returns-in-Err-clause-stopped : goal.returns-in-Err-clause-stopped
returns-in-Err-clause-stopped g c =
    file_refused (g.S.Shelf.files c.args.shelf.now) c.args.cert.now (g.S.Shelf.faults c.args.shelf.now) (g.S.Shelf.faults c.read_certificate.new.shelf)
    (verification_of c.args.find.now c.args.judge.now.search c.args.span) c.in-Err.refusal c.in-Err.ensures.stopped
