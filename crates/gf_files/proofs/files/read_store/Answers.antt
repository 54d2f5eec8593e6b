use Rattle.std.proofs.Common.{◌≡◌, ◌-◌, ◌+◌, ◌≤◌, [], Err, arith, inr, length, subst}
use Rattle.std.proofs.lemmas.List.{length-map}
use Rattle.std.specs.Prelude.{string_bytes}
use Rattle.gf_files.specs.Errors.{in_file}
use Rattle.gf_files.specs.Reader.{Finishes, ephemeris_after}
use Rattle.spec_files.specs.declared.errors.ReadError.{ReadError}
use Rattle.gf_files.specs.declared.errors.FilesError.TheVariants as all
use Rattle.gf_files.proofs.InFile.{fault_of_file}
use Rattle.gf_files.proofs.NameLists.{accepted_at_end, refused_at_end, texts_of}
use Rattle.gf_files.proofs.files.read_store.Goals as goal

pub returns-in-Ok-clause-accepted : goal.returns-in-Ok-clause-accepted
returns-in-Ok-clause-accepted g c =
    let many = length-map c.args.names.now string_bytes in
    let few : length (texts_of c.args.names.now) ≤ 64 = omega (arith, many, c.if-names-gt-MAX_FILES.false) in
    accepted_at_end _ _ c.in_ok-fed.fed.reader c.in_ok-fed.fed.end_line c.in-Ok.store.accepted few c.in_ok-fed.ensures.fed c.in-Ok.ensures

pub returns-in-Err-clause-fault : goal.returns-in-Err-clause-fault
returns-in-Err-clause-fault g c = λ file fault is.
    let last = length c.args.names.now - 1 in
    let which : in_file last c.in-Err.error ≡ all.Fault file fault = cc (is, c.error_in_file.ensures) in
    let of = fault_of_file last file c.in-Err.error fault which in
    let many = length-map c.args.names.now string_bytes in
    let few : length (texts_of c.args.names.now) ≤ 64 = omega (arith, many, c.if-names-gt-MAX_FILES.false) in
    let place : file + 1 ≡ length (texts_of c.args.names.now) = omega (arith, of.0, many, c.requires) in
    let after = ephemeris_after 0 c.in_ok-fed.fed.reader [] in
    inr
    (refused_at_end _ _ c.in_ok-fed.fed.reader c.in_ok-fed.fed.end_line file fault few c.in_ok-fed.ensures.fed place
    (subst (λ (e : ReadError). Finishes c.in_ok-fed.fed.end_line after (Err e)) of.1 c.in-Err.ensures))
