use Rattle.std.proofs.Common.{◌≡◌, ℕ, Err}
use Rattle.std.specs.Prelude.{Vec}
use Rattle.std.specs.declared.alloc.Global.{Global}
use Rattle.spec_certificates.specs.declared.limits.TheConstants.{MAX_CERT_LEAVES}
use Rattle.spec_outcomes.specs.declared.refusal.Refusal.{Refusal}
use Rattle.spec_outcomes.specs.Certificates.{certificate_by, certificate_of}
use Rattle.spec_outcomes.proofs.Results.{ok_also}
use Rattle.gf_search.specs.declared.wanted.Wanted.TheVariants.{Leaves}
use Rattle.gf_find.specs.Outcomes.{FilesHaveOutcome, HoldEphemeris}
use Rattle.gf_find.specs.Certifies.{IsCertificate}
use Rattle.gf_find.proofs.FoundLeaves.{certificate_held, from_time, memory_also, text_stops, upto_time}
use Rattle.gf_find.proofs.cert.certificate_in_files.Goals as goal

pub certificate_over_span-requires-clause-from : goal.certificate_over_span-requires-clause-from
certificate_over_span-requires-clause-from g c = from_time (g.S.Shelf.files c.args.shelf.now) c.args.find.now Leaves MAX_CERT_LEAVES c.in-Ok.found.span c.in-Ok.found.leaves.items c.in-Ok.ensures.found

pub certificate_over_span-requires-clause-upto : goal.certificate_over_span-requires-clause-upto
certificate_over_span-requires-clause-upto g c = upto_time (g.S.Shelf.files c.args.shelf.now) c.args.find.now Leaves MAX_CERT_LEAVES c.in-Ok.found.span c.in-Ok.found.leaves.items c.in-Ok.ensures.found

pub returns-in-Ok-clause-certificate : goal.returns-in-Ok-clause-certificate
returns-in-Ok-clause-certificate g c =
    let find = c.args.find.now in
    let files = g.S.Shelf.files c.args.shelf.now in
    let span = c.in-Ok.found.span in
    ok_also {X = Vec ℕ Global} {E = Refusal} (λ text. text.items ≡ certificate_by find span c.deref.result.now)
    (λ text. HoldEphemeris files find.files (IsCertificate find text.items)) c.certificate_over_span.result
    (λ text printed. certificate_held find files span c.in-Ok.found.leaves.items _ text.items c.in-Ok.ensures.found c.deref.ensures.value printed) c.certificate_over_span.ensures.text

pub returns-in-Ok-clause-stopped : goal.returns-in-Ok-clause-stopped
returns-in-Ok-clause-stopped g c =
    let find = c.args.find.now in
    memory_also (λ refusal. FilesHaveOutcome (g.S.Shelf.files c.args.shelf.now) find.files (g.S.Shelf.faults c.args.shelf.now) (g.S.Shelf.faults c.search_files.new.shelf) (certificate_of find) (Err refusal))
    c.certificate_over_span.result c.certificate_over_span.ensures.memory

pub returns-in-Err-clause-stopped : goal.returns-in-Err-clause-stopped
returns-in-Err-clause-stopped g c =
    text_stops MAX_CERT_LEAVES c.args.find.now (g.S.Shelf.files c.args.shelf.now) (g.S.Shelf.faults c.args.shelf.now) (g.S.Shelf.faults c.search_files.new.shelf) (certificate_by c.args.find.now) c.in-Err.refusal c.in-Err.ensures.stopped
