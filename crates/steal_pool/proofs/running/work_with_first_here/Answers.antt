use Rattle.std.proofs.Common.{◌≡◌, None, sym, subst}
use Rattle.steal_pool.specs.Runs.{AreFree, HasWorked}
use Rattle.steal_pool.specs.Seats.{Seat}
use Rattle.steal_pool.proofs.Listing.{all_reverse, zip_reversed}
use Rattle.steal_pool.proofs.running.work_with_first_here.Goals as goal

pub work_with_last_here-requires-clause-free : goal.work_with_last_here-requires-clause-free
work_with_last_here-requires-clause-free g c = λ κs within. subst AreFree (sym c.reverse.ensures.after) (all_reverse (λ (s : Seat). s.refusal ≡ None) c.args.seats.now c.requires.free)

pub returns : goal.returns
returns g c = record { worked = zip_reversed (HasWorked g.N.Naming.rules) c.args.seats.now c.reverse.new.self c.work_with_last_here.new.seats c.reverse-2.new.self c.reverse.ensures.after c.reverse-2.ensures.after c.work_with_last_here.ensures.worked }
