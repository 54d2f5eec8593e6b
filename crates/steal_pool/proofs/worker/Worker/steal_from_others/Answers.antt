use Rattle.std.proofs.Common.{◌≡◌, List, Some, length, sym, ap, ◌∙◌, subst, arith}
use Rattle.std.proofs.lemmas.List.{with_items_is}
use Rattle.crossbeam_deque.specs.Handles.{worker_deque, worker_view}
use Rattle.steal_pool.specs.Rule.{End, end_of}
use Rattle.steal_pool.specs.Workers.{TookOne, holder_of}
use Rattle.steal_pool.proofs.Standing.{took_length}
use Rattle.steal_pool.proofs.worker.Worker.steal_from_others.Goals as goal

pub returns-in-Some-clause-taken : goal.returns-in-Some-clause-taken
returns-in-Some-clause-taken g c =
    let took : TookOne c.in-Some.node c.self.inside.stealers.items c.sweep_deques.new.stealers = subst (λ (es : List End). TookOne c.in-Some.node es c.sweep_deques.new.stealers) c.as_mut_slice.ensures.value c.in-Some.ensures.taken.0 in
    let len : length c.sweep_deques.new.stealers ≡ c.self.inside.stealers.len = took_length c.in-Some.node c.self.inside.stealers.items c.sweep_deques.new.stealers took ∙ sym c.self.inside.stealers.ok.0 in
    rw (← c.self.view_is) (
      c.sweep_deques.new.stealers,
      took,
      ap (λ (es : List End). holder_of (end_of c.self.inside.number (worker_deque c.self.inside.deque) (worker_view c.self.inside.deque)) es c.self.inside.pushed_in_a_row (Some c.in-Some.node) c.self.inside.kept.items) (with_items_is c.self.inside.stealers c.sweep_deques.new.stealers len),
    )

pub returns-in-Some-clause-few : goal.returns-in-Some-clause-few
returns-in-Some-clause-few g c = omega (arith, c.sweep_deques.ensures.fewer, c.begin_search.ensures.left, c.begin_search.ensures.made)
