-- The acts of all seats in one order.
use Rattle.std.specs.Prelude.{◌≡◌, ◌<◌, ℕ, List, ◌++◌, length, flat_map, All, Some, slice_get, IsPermutation}
use Rattle.spec_trees.specs.Tree.{Rules}
use Rattle.spec_pool.specs.Acts.{enters}
use Rattle.pool_core.specs.States.{Holding}
use Rattle.pool_core.specs.Interleaved.{Event, IsNamed, KeepsRule, acts_of, taken_from}
use Rattle.steal_pool.specs.Seats.{Acted, Seat, entered_by}

-- The work of each seat, from ss to qs, is its acts in the list, in this order, as the clause `works` of `work` has them,
-- and each deque keeps its rule.
pub record AreInterleaved (t : Rules) (ss qs : List Seat) (events : List Event) : Type 0 where
  pub count : length qs ≡ length ss
  pub named : All (IsNamed (length qs)) events
  pub acts : (k : ℕ) (s q : Seat) → slice_get ss k ≡ Some s → slice_get qs k ≡ Some q → Acted t (acts_of k events) s q
  pub rules : (k : ℕ) → k < length qs → KeepsRule k events

-- a worker of the model has what the seat has, its deque what the seat put there less what was taken, and the seat's acts
-- entered what the ledger answered to it
pub record ShowsSeat (k : ℕ) (events : List Event) (q : Seat) (x : Holding) : Type 0 where
  pub hand : x.hand ≡ q.worker.hand
  pub kept : x.kept ≡ q.worker.kept
  pub deque : q.worker.own.view.put ≡ taken_from k events ++ x.deque
  pub entered : IsPermutation (flat_map enters (acts_of k events)) (entered_by q.part)
