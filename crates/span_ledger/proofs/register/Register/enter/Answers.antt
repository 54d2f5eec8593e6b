use Rattle.std.proofs.Common.{ap, arith, length}
use Rattle.span_ledger.proofs.Indexing.{adds_from, popped, room, stays, stays_there, stands_there, new_there}
use Rattle.span_ledger.proofs.register.Register.enter.Goals as goal

pub invariant_of-self-in_default-place_of_key : goal.invariant_of-self-in_default-place_of_key
invariant_of-self-in_default-place_of_key c =
    stays _ _ _ _ _ _ (popped _ _ _ c.args.entry _ c.in-Ok.ensures.items (omega arith) c.pop.ensures.rest) c.in_default-place_of_key.ensures.err c.self.invariant

pub invariant_of-self-then-stands-place : goal.invariant_of-self-then-stands-place
invariant_of-self-then-stands-place c =
    let key = c.in-Ok-place_of_key.ensures in
    stays_there _ _ _ _ _ _ _ _ _ (popped _ _ _ c.args.entry _ c.in-Ok.ensures.items (omega arith) c.pop-then-stands-place.ensures.rest) key.value c.if-stands-place.true key.updates c.self.invariant

pub returns-then-stands-place-clause-again : goal.returns-then-stands-place-clause-again
returns-then-stands-place-clause-again c =
    rw (← c.self.view_is) (stands_there _ _ _ _ _ _ _ _ c.self.invariant c.leaf_key.ensures c.in-Ok-place_of_key.ensures.value c.if-stands-place.true)

pub overflow_add-self : goal.overflow_add-self
overflow_add-self c = let small = room _ _ _ _ c.args.entry.seat c.self.invariant c.requires.seat in let view = ap length c.self.view_is in omega (arith, small, view, c.requires.room)

pub invariant_of-self-2 : goal.invariant_of-self-2
invariant_of-self-2 c =
    let wide = c.leaf_width-wide.ensures in
    let key = c.in-Ok-place_of_key.ensures in
    let fresh = new_there _ _ _ _ _ _ _ _ c.self.invariant c.leaf_key.ensures key.value c.if-stands-place.false (omega (arith, c.len-place.ensures)) in
    adds_from _ _ _ _ _ _ _ c.args.entry _ _ c.self.invariant fresh c.in-Ok.ensures.items c.leaf_key.ensures (omega (arith, c.len-place.ensures, c.if-stands-place.false)) key.updates wide.value wide.bound c.requires.seat

pub returns-clause-fresh : goal.returns-clause-fresh
returns-clause-fresh c =
    rw (← c.self.view_is) (new_there _ _ _ _ _ _ _ _ c.self.invariant c.leaf_key.ensures c.in-Ok-place_of_key.ensures.value c.if-stands-place.false (omega (arith, c.len-place.ensures)))
