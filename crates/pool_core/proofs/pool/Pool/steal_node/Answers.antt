use Rattle.std.proofs.Common.{◌≡◌, List, OnOk, OnErr, sym, subst, arith}
use Rattle.std.proofs.lemmas.List.{with_items_is}
use Rattle.pool_core.specs.States.{Holding, state, Steals}
use Rattle.pool_core.specs.Tiling.{Conserves}
use Rattle.pool_core.proofs.Stepping.{steal_keeps, steal_refused}
use Rattle.pool_core.proofs.pool.Pool.steal_node.Goals as goal

pub invariant_of-self : goal.invariant_of-self
invariant_of-self g c =
    let t = g.J.Judge.rules c.self.inside.judge in
    let ws = c.self.inside.workers.items in
    let es = c.self.inside.entered.items in
    let ys = c.move_front.new.workers in
    let whole = with_items_is c.self.inside.workers ys (omega arith) in
    let is = c.deref_mut.ensures.value in
    subst (λ (l : List Holding). Conserves t c.self.inside.root (state l es)) (sym whole)
    (steal_keeps t ws es c.args.w c.args.from ys c.move_front.result c.self.inside.root c.rules_are_sound.ensures
    (subst (λ (l : List Holding). OnOk c.move_front.result (Steals c.args.w c.args.from l ys)) is c.move_front.ensures.ok)
    (subst (λ (l : List Holding). OnErr c.move_front.result (ys ≡ l)) is c.move_front.ensures.unchanged)
    c.self.invariant)

pub returns-clause-refused : goal.returns-clause-refused
returns-clause-refused g c =
    let t = g.J.Judge.rules c.self.inside.judge in
    let ws = c.self.inside.workers.items in
    let es = c.self.inside.entered.items in
    let ys = c.move_front.new.workers in
    let is = c.deref_mut.ensures.value in
    rw (← c.self.view_is) (steal_refused t ws es c.args.w c.args.from ys c.move_front.result
    (subst (λ (l : List Holding). OnErr c.move_front.result ((zs : List Holding) → ¬ Steals c.args.w c.args.from l zs)) is c.move_front.ensures.refused))
