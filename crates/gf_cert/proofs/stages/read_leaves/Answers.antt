use Rattle.std.proofs.Common.{◌∙◌}
use Rattle.std.proofs.lemmas.Result.{err_from_is_err_and}
use Rattle.gf_cert.proofs.Walking.{begun, read_badly, read_on, read_whole}
use Rattle.gf_cert.proofs.stages.read_leaves.Goals as goal

pub returns-then-ended : goal.returns-then-ended
returns-then-ended g c =
    let first = begun c.args.judge.now.search _ _ _ c.args.root c.args.lines.now c.new-found.ensures.items c.new-waiting.ensures.items c.in_ok-push.ensures.items in
    read_whole _ _ _ _ first _ c.if-ended.true c.in_ok-ended.ensures.read

pub returns-in_err-ended : goal.returns-in_err-ended
returns-in_err-ended g c =
    let first = begun c.args.judge.now.search _ _ _ c.args.root c.args.lines.now c.new-found.ensures.items c.new-waiting.ensures.items c.in_ok-push.ensures.items in
    let given = err_from_is_err_and c.from_residual-in_err-ended.result c.from_residual-in_err-ended.ensures.1 in
    rw (given.1, given.2) (read_badly _ _ first _ c.in_err-ended.ensures.read)

pub returns-in-Ok : goal.returns-in-Ok
returns-in-Ok g c =
    let first = begun c.args.judge.now.search _ _ _ c.args.root c.args.lines.now c.new-found.ensures.items c.new-waiting.ensures.items c.in_ok-push.ensures.items in
    read_on _ _ _ _ first _ c.if-ended.false c.in_ok-ended.ensures.read ∙ c.in-Ok.ensures

pub returns : goal.returns
returns g c =
    let first = begun c.args.judge.now.search _ _ _ c.args.root c.args.lines.now c.new-found.ensures.items c.new-waiting.ensures.items c.in_ok-push.ensures.items in
    read_badly _ _ (read_on _ _ _ _ first _ c.if-ended.false c.in_ok-ended.ensures.read) _ c.in-Err.ensures
