use Rattle.std.proofs.lemmas.Result.{err_from_is_err_and}
use Rattle.gf_cert.proofs.Walking.{read_badly, read_on, read_whole}
use Rattle.gf_cert.proofs.stages.read_first_lines.Goals as goal

pub loop-preserved : goal.loop-preserved
loop-preserved g c = record {
  waiting = c.in_ok-ended.ensures.waiting;
  same = read_on _ _ _ _ c.loop.invariant.same _ c.if-ended.false c.in_ok-ended.ensures.read;
}

pub returns-then-ended-clause-read : goal.returns-then-ended-clause-read
returns-then-ended-clause-read g c = read_whole _ _ _ _ c.loop.invariant.same _ c.if-ended.true c.in_ok-ended.ensures.read

pub returns-in_err-ended-clause-read : goal.returns-in_err-ended-clause-read
returns-in_err-ended-clause-read g c =
    let given = err_from_is_err_and c.from_residual.result c.from_residual.ensures.1 in
    rw (given.1, given.2) (read_badly _ _ c.loop.invariant.same _ c.in_err-ended.ensures.read)
