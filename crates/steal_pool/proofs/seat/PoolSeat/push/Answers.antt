use Rattle.std.proofs.Common.{sym, ap, subst}
use Rattle.spec_pool.specs.Accounts.{KeepsRight, PutsRight}
use Rattle.steal_pool.specs.Workers.{Holder, IsRight}
use Rattle.steal_pool.specs.Seats.{Seat}
use Rattle.steal_pool.proofs.Accounts.{keeps_right, puts_right, split_changes}
use Rattle.steal_pool.proofs.Within.{named_sound}
use Rattle.span_ledger.specs.Seats.{part, terms}
use Rattle.steal_pool.proofs.seat.PoolSeat.push.Goals as goal

pub push-pushed-requires-clause-sound : goal.push-pushed-requires-clause-sound
push-pushed-requires-clause-sound g c = named_sound _ _ _ c.self.invariant.0 c.self.invariant.1 c.rules_are_sound.ensures

pub returns-clause-deque : goal.returns-clause-deque
returns-clause-deque g c = rw (← c.self.view_is) (λ on. split_changes g.N.Naming.rules (g.J.Judge.rules c.self.inside.judge.now) (terms c.self.inside.ledger.now).root c.self.inside.worker c.push-pushed.new.self (part c.self.inside.entries) c.in-Some.node c.cut.result.0 c.args.right
    c.self.invariant.0 (subst (λ (s : Seat). IsRight g.N.Naming.rules s.worker c.args.right) (sym c.self.view_is) c.requires.right) (sym c.in-Some.ensures.hand) (ap (λ y. y.0) c.cut.ensures.parts)
    (PutsRight g.N.Naming.rules c.args.right) (λ split. puts_right g.N.Naming.rules c.self.inside.worker c.push-pushed.new.self (part c.self.inside.entries) c.cut.result.0 c.args.right split (c.push-pushed.ensures.deque on)))

pub returns-clause-kept : goal.returns-clause-kept
returns-clause-kept g c = rw (← c.self.view_is) (λ on. split_changes g.N.Naming.rules (g.J.Judge.rules c.self.inside.judge.now) (terms c.self.inside.ledger.now).root c.self.inside.worker c.push-pushed.new.self (part c.self.inside.entries) c.in-Some.node c.cut.result.0 c.args.right
    c.self.invariant.0 (subst (λ (s : Seat). IsRight g.N.Naming.rules s.worker c.args.right) (sym c.self.view_is) c.requires.right) (sym c.in-Some.ensures.hand) (ap (λ y. y.0) c.cut.ensures.parts)
    (KeepsRight g.N.Naming.rules) (λ split. keeps_right g.N.Naming.rules c.self.inside.worker c.push-pushed.new.self (part c.self.inside.entries) c.cut.result.0 c.args.right split (c.push-pushed.ensures.kept on)))

pub returns-clause-counted : goal.returns-clause-counted
returns-clause-counted g c = rw (← c.self.view_is) (λ on. ap (λ (w : Holder). w.pushed_in_a_row) (c.push-pushed.ensures.deque on))

pub returns-clause-uncounted : goal.returns-clause-uncounted
returns-clause-uncounted g c = rw (← c.self.view_is) (λ on. ap (λ (w : Holder). w.pushed_in_a_row) (c.push-pushed.ensures.kept on))
