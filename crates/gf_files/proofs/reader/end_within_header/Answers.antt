use Rattle.std.proofs.lemmas.Result.{err_from_is_err_and}
use Rattle.gf_files.proofs.Readers.{early_no_header, early_stops}
use Rattle.gf_files.proofs.reader.end_within_header.Goals as goal

pub returns : goal.returns
returns c = absurd (early_no_header c.args.reader c.args.line c.in_ok-header.header c.requires c.in_ok-header.ensures.end)

pub returns-in_err-header : goal.returns-in_err-header
returns-in_err-header c =
    let given = err_from_is_err_and c.from_residual.result c.from_residual.ensures.1 in
    rw (given.1, given.2) (early_stops c.args.reader c.args.line _ c.requires c.in_err-header.ensures.end)
