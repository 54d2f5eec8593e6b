use Rattle.std.proofs.Common.{length, arith}
use Rattle.std.proofs.lemmas.Option.{slice_get_read}
use Rattle.pool_core.specs.States.{state}
use Rattle.pool_core.specs.Tiling.{Conserves}
use Rattle.pool_core.proofs.Keeping.{step_conserves}
use Rattle.pool_core.specs.Views.{Goes, own_step}
use Rattle.pool_core.proofs.Stepping.{hand_valid, keeps, own_ok, own_refuses, own_steps}
use Rattle.pool_core.proofs.pool.Pool.take_own_step.Goals as goal

pub take_own_step-requires-after_bounds : goal.take_own_step-requires-after_bounds
take_own_step-requires-after_bounds g c κs within =
    let ws = c.self.inside.workers.items in
    let at = slice_get_read ws (length ws) c.args.w c.index_mut-worker.result.now (λ i. length ws) (omega arith) c.index_mut-worker.ensures.value in
    hand_valid (g.J.Judge.rules c.self.inside.judge) c.self.inside.root ws c.self.inside.entered.items c.args.w c.index_mut-worker.result.now c.self.invariant at

pub invariant_of-self : goal.invariant_of-self
invariant_of-self g c =
    let t = g.J.Judge.rules c.self.inside.judge in
    let root = c.self.inside.root in
    let ws = c.self.inside.workers.items in
    let es = c.self.inside.entered.items in
    let at = slice_get_read ws (length ws) c.args.w c.index_mut-worker.result.now (λ i. length ws) (omega arith) c.index_mut-worker.ensures.value in
    keeps (Goes t c.args.step) ws es c.args.w c.index_mut-worker.result.now at (Conserves t root)
    (λ s' goes. step_conserves t c.rules_are_sound.ensures root (state ws es) (own_step c.args.w c.args.step) s' (own_steps t (state ws es) c.args.w c.args.step s' goes) c.self.invariant)
    c.self.invariant c.take_own_step.new.self c.take_own_step.result c.take_own_step.ensures.ok c.take_own_step.ensures.unchanged

pub returns-clause-ok : goal.returns-clause-ok
returns-clause-ok g c =
    let t = g.J.Judge.rules c.self.inside.judge in
    let ws = c.self.inside.workers.items in
    let at = slice_get_read ws (length ws) c.args.w c.index_mut-worker.result.now (λ i. length ws) (omega arith) c.index_mut-worker.ensures.value in
    rw (← c.self.view_is) (own_ok t ws c.self.inside.entered.items c.args.w c.index_mut-worker.result.now at c.args.step c.take_own_step.new.self c.take_own_step.result c.take_own_step.ensures.ok)

pub returns-clause-refused : goal.returns-clause-refused
returns-clause-refused g c =
    let t = g.J.Judge.rules c.self.inside.judge in
    let ws = c.self.inside.workers.items in
    let at = slice_get_read ws (length ws) c.args.w c.index_mut-worker.result.now (λ i. length ws) (omega arith) c.index_mut-worker.ensures.value in
    rw (← c.self.view_is) (own_refuses t ws c.self.inside.entered.items c.args.w c.index_mut-worker.result.now at c.args.step c.take_own_step.result c.take_own_step.ensures.refused)
