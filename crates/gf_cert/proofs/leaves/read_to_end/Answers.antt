use Rattle.std.proofs.lemmas.Result.{err_from_is_err_and}
use Rattle.gf_cert.proofs.Walking.{read_badly, read_on, read_whole}
use Rattle.gf_cert.proofs.leaves.read_to_end.Goals as goal

pub loop-ended-preserved : goal.loop-ended-preserved
loop-ended-preserved g c = record {
  waiting = c.in_ok-ended.ensures.waiting;
  same = read_on _ _ _ _ c.loop-ended.invariant.same _ c.if-ended.false c.in_ok-ended.ensures.read;
}

pub loop-ended-smaller : goal.loop-ended-smaller
loop-ended-smaller g c = c.in_ok-ended.ensures.fewer c.if-ended.false

pub returns-then-ended : goal.returns-then-ended
returns-then-ended g c = read_whole _ _ _ _ c.loop-ended.invariant.same _ c.if-ended.true c.in_ok-ended.ensures.read

pub returns-in_err-ended : goal.returns-in_err-ended
returns-in_err-ended g c =
    let given = err_from_is_err_and c.from_residual.result c.from_residual.ensures.1 in
    rw (given.1, given.2) (read_badly _ _ c.loop-ended.invariant.same _ c.in_err-ended.ensures.read)
