use Rattle.std.proofs.Common.{length, slice_set, arith}
use Rattle.std.proofs.lemmas.Option.{slice_get_read}
use Rattle.pool_core.specs.declared.step.Step.TheVariants.{Enter}
use Rattle.pool_core.specs.States.{state, Refuses}
use Rattle.pool_core.proofs.Keeping.{step_conserves}
use Rattle.pool_core.proofs.Stepping.{hand_valid, enters, no_leaf}
use Rattle.pool_core.proofs.pool.Pool.enter_leaf.Goals as goal

pub leaf_in_hand-requires-after_bounds : goal.leaf_in_hand-requires-after_bounds
leaf_in_hand-requires-after_bounds g c κs within =
    let t = g.J.Judge.rules c.self.inside.judge in
    let ws = c.self.inside.workers.items in
    let es = c.self.inside.entered.items in
    let at = slice_get_read ws (length ws) c.args.w c.index.result.now (λ i. length ws) (omega arith) c.index.ensures in
    hand_valid t c.self.inside.root ws es c.args.w c.index.result.now c.self.invariant at

pub returns-in_default-clause-refused : goal.returns-in_default-clause-refused
returns-in_default-clause-refused g c =
    let t = g.J.Judge.rules c.self.inside.judge in
    let ws = c.self.inside.workers.items in
    let es = c.self.inside.entered.items in
    let at = slice_get_read ws (length ws) c.args.w c.index.result.now (λ i. length ws) (omega arith) c.index.ensures in
    let none : Refuses t (state ws es) (Enter c.args.w) = no_leaf t ws es c.args.w c.index.result.now at c.in_default.ensures.none in
    rw (← c.self.view_is) (λ is. none)

pub invariant_of-self-2 : goal.invariant_of-self-2
invariant_of-self-2 g c =
    let t = g.J.Judge.rules c.self.inside.judge in
    let ws = c.self.inside.workers.items in
    let es = c.self.inside.entered.items in
    let at = slice_get_read ws (length ws) c.args.w c.index.result.now (λ i. length ws) (omega arith) c.index.ensures in
    let again = slice_get_read ws (length ws) c.args.w c.index_mut.result.now (λ i. length ws) (omega arith) c.index_mut.ensures.value in
    step_conserves t c.rules_are_sound.ensures c.self.inside.root (state ws es) (Enter c.args.w) (state (slice_set ws c.args.w c.clear_hand.new.self) c.push.new.self.items)
    (enters t ws es c.args.w c.index.result.now at c.index_mut.result.now c.clear_hand.new.self c.in-Some.leaf c.push.new.self.items again c.in-Some.ensures.some c.clear_hand.ensures c.in-Ok.ensures.items)
    c.self.invariant

pub returns-clause-ok : goal.returns-clause-ok
returns-clause-ok g c =
    let t = g.J.Judge.rules c.self.inside.judge in
    let ws = c.self.inside.workers.items in
    let es = c.self.inside.entered.items in
    let at = slice_get_read ws (length ws) c.args.w c.index.result.now (λ i. length ws) (omega arith) c.index.ensures in
    let again = slice_get_read ws (length ws) c.args.w c.index_mut.result.now (λ i. length ws) (omega arith) c.index_mut.ensures.value in
    rw (← c.self.view_is) (enters t ws es c.args.w c.index.result.now at c.index_mut.result.now c.clear_hand.new.self c.in-Some.leaf c.push.new.self.items again c.in-Some.ensures.some c.clear_hand.ensures c.in-Ok.ensures.items)
