use Rattle.std.proofs.lemmas.Result.{err_from_is_err_and}
use Rattle.gf_files.proofs.Readers.{blocks_begin, whole_stops}
use Rattle.gf_files.proofs.reader.begin_blocks.Goals as goal

pub returns : goal.returns
returns c = λ old moves.
    blocks_begin old c.args.line.now c.args.header c.in_ok-header.header c.with_rounding.result _ c.requires.whole c.in_ok-header.ensures.end moves c.with_rounding.ensures.blocks c.with_rounding.ensures.not_refused

pub returns-in_err-header : goal.returns-in_err-header
returns-in_err-header c = λ old moves.
    let given = err_from_is_err_and c.from_residual.result c.from_residual.ensures.1 in
    rw (given.1, given.2) (whole_stops old c.args.line.now c.args.header _ _ c.requires.whole c.in_err-header.ensures.end)
