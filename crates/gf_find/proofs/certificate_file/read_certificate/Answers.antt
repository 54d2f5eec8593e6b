use Rattle.std.proofs.Common.{List, ℕ, subst, Err}
use Rattle.spec_files.specs.Files.{IsFile}
use Rattle.gf_find.proofs.Verifying.{not_read_stops, too_long_stops}
use Rattle.gf_find.proofs.certificate_file.read_certificate.Goals as goal

pub returns-in-Ok-clause-there : goal.returns-in-Ok-clause-there
returns-in-Ok-clause-there g c =
    subst (λ (n : List ℕ). IsFile (g.S.Shelf.files c.args.shelf.now) n c.in-Ok.text.items) c.as_str-word.ensures c.in-Ok.ensures.whole

pub returns-in-Err-Fault-clause-stopped : goal.returns-in-Err-Fault-clause-stopped
returns-in-Err-Fault-clause-stopped g c =
    too_long_stops (g.S.Shelf.files c.args.shelf.now) c.as_str-word.result.now _ c.as_str-word.ensures (g.S.Shelf.faults c.args.shelf.now) (g.S.Shelf.faults c.read_file.new.shelf)
    c.refusal_by_name.result c.in-Err-Fault.fault (c.in-Err-Fault.ensures.fault _ c.in-Err-Fault.fault (λ i. Err (c.in-Err-Fault.field-0-is i))).1
    (c.in-Err-Fault.ensures.large _ c.in-Err-Fault.fault (λ i. Err (c.in-Err-Fault.field-0-is i))) c.refusal_by_name.ensures

pub returns-in-Err-NotRead-clause-stopped : goal.returns-in-Err-NotRead-clause-stopped
returns-in-Err-NotRead-clause-stopped g c =
    not_read_stops (g.S.Shelf.files c.args.shelf.now) c.as_str-word.result.now _ c.as_str-word.ensures (g.S.Shelf.faults c.args.shelf.now) (g.S.Shelf.faults c.read_file.new.shelf)
    c.unread_refusal_by_name.result (c.in-Err-NotRead.ensures.failed _ (λ i. Err (c.in-Err-NotRead.field-0-is i))).1 c.unread_refusal_by_name.ensures
