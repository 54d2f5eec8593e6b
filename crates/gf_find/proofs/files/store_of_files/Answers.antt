use Rattle.std.proofs.Common.{Err, arith, string_bytes}
use Rattle.std.proofs.lemmas.List.{length-map}
use Rattle.gf_find.proofs.Causes.{lacking_stops, missing_inside, refused_inside, refused_stops}
use Rattle.gf_find.proofs.files.store_of_files.Goals as goal

pub refusal_by_place-requires : goal.refusal_by_place-requires
refusal_by_place-requires g c =
    let inside = refused_inside _ _ _ _ (c.in-Err-Fault.ensures.fault c.in-Err-Fault.file c.in-Err-Fault.fault (λ i. Err (c.in-Err-Fault.field-0-is i))) in
    let many = length-map c.args.names.now string_bytes in
    omega (arith, inside, many)

pub unread_refusal_by_place-requires : goal.unread_refusal_by_place-requires
unread_refusal_by_place-requires g c =
    let inside = missing_inside _ _ _ _ _ (c.in-Err-NotRead.ensures.not_read c.in-Err-NotRead.file (λ i. Err (c.in-Err-NotRead.field-0-is i))) in
    let many = length-map c.args.names.now string_bytes in
    omega (arith, inside, many)

pub returns-in-Err-Fault-clause-refused : goal.returns-in-Err-Fault-clause-refused
returns-in-Err-Fault-clause-refused g c =
    refused_stops _ _ _ _ c.in-Err-Fault.file c.refusal_by_place.result c.in-Err-Fault.fault
    (c.in-Err-Fault.ensures.fault c.in-Err-Fault.file c.in-Err-Fault.fault (λ i. Err (c.in-Err-Fault.field-0-is i))) c.refusal_by_place.ensures

pub returns-in-Err-NotRead-clause-refused : goal.returns-in-Err-NotRead-clause-refused
returns-in-Err-NotRead-clause-refused g c =
    lacking_stops _ _ _ _ c.in-Err-NotRead.file c.unread_refusal_by_place.result (c.in-Err-NotRead.ensures.not_read c.in-Err-NotRead.file (λ i. Err (c.in-Err-NotRead.field-0-is i))) c.unread_refusal_by_place.ensures
