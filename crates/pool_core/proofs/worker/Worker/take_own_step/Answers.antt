use Rattle.pool_core.specs.States.{Pops, TakesKept}
use Rattle.pool_core.specs.Views.{IsStuck}
use Rattle.pool_core.proofs.Stepping.{on_refused}
use Rattle.pool_core.proofs.worker.Worker.take_own_step.Goals as goal

pub returns-in-Push-clause-ok : goal.returns-in-Push-clause-ok
returns-in-Push-clause-ok g c = rw c.in-Push.is c.push_right_part.ensures.ok

pub returns-in-Push-clause-refused : goal.returns-in-Push-clause-refused
returns-in-Push-clause-refused g c = rw c.in-Push.is c.push_right_part.ensures.refused

pub returns-in-Keep-clause-ok : goal.returns-in-Keep-clause-ok
returns-in-Keep-clause-ok g c = rw c.in-Keep.is c.keep_right_part.ensures.ok

pub returns-in-Keep-clause-refused : goal.returns-in-Keep-clause-refused
returns-in-Keep-clause-refused g c = rw c.in-Keep.is c.keep_right_part.ensures.refused

pub returns-in-Pop-clause-ok : goal.returns-in-Pop-clause-ok
returns-in-Pop-clause-ok g c = rw c.in-Pop.is c.pop_deque.ensures.ok

pub returns-in-Pop-clause-refused : goal.returns-in-Pop-clause-refused
returns-in-Pop-clause-refused g c = rw c.in-Pop.is (on_refused (IsStuck Pops c.args.self.now) c.pop_deque.result c.pop_deque.ensures.refused)

pub returns-in-TakeKept-clause-ok : goal.returns-in-TakeKept-clause-ok
returns-in-TakeKept-clause-ok g c = rw c.in-TakeKept.is c.pop_local_stack.ensures.ok

pub returns-in-TakeKept-clause-refused : goal.returns-in-TakeKept-clause-refused
returns-in-TakeKept-clause-refused g c = rw c.in-TakeKept.is (on_refused (IsStuck TakesKept c.args.self.now) c.pop_local_stack.result c.pop_local_stack.ensures.refused)
