-- What the end of a pool's work leaves, and what its seats say when they leave.
use Rattle.std.specs.Prelude.{◌≡◌, ◌⊎◌, ℕ, List, fold, map, Option, Some, None, slice_get}
use Rattle.std.specs.List.{AllByRecursion, AllZip}
use Rattle.spec_trees.specs.declared.tree.Node.{Node}
use Rattle.spec_trees.specs.declared.tree.Leaf.{Leaf}
use Rattle.spec_trees.specs.Tree.{Rules}
use Rattle.span_ledger.specs.declared.desk.LedgerSeat.{LedgerSeat}
use Rattle.span_ledger.specs.Seats.{part, seat_table}
use Rattle.steal_pool.specs.declared.seat.Stop.{Stop}
use Rattle.steal_pool.specs.declared.seat.Stop.TheVariants.{Full, Memory}
use Rattle.steal_pool.specs.Rule.{HasLeft, IsUsedUp}
use Rattle.steal_pool.specs.Seats.{IsFullOf, IsLeft, Seat, with_room}
use Rattle.steal_pool.specs.Pools.{AccountFor, AreCounted, AreLinked, HasRoom, KeepNone, NoneIsOutOfMemory, right_of}
use Rattle.steal_pool.specs.Stealers.{HasNoStealer}
use Rattle.steal_pool.specs.Runs.{IsLater}

abbrev pub HasUsedUp : Seat → Type 0
HasUsedUp s = IsUsedUp s.worker.own.view

abbrev pub AllUsedUp : List Seat → Type 0
AllUsedUp ss = AllByRecursion HasUsedUp ss

-- if none keeps a refusal, each worked off its own deque; else they worked so far
pub record Drains (t : Rules) (ss qs : List Seat) : Type 0 where
  pub changes : AllZip (IsLater t) ss qs
  pub left : AllByRecursion (IsLeft t) qs
  pub used : KeepNone qs → AllUsedUp qs
  pub refusals : KeepNone ss ⊎ (qs ≡ ss)

-- the work of a pool has ended
pub record Ended (t : Rules) (ss qs : List Seat) : Type 0 where
  pub rights : map right_of qs ≡ map right_of ss
  pub terms : map (λ s. s.terms) qs ≡ map (λ s. s.terms) ss
  pub linked : AreLinked qs
  pub none : AllByRecursion HasNoStealer qs
  pub left : AllByRecursion (IsLeft t) qs
  pub used : KeepNone qs → AllUsedUp qs
  pub free : KeepNone qs → KeepNone ss
  pub memory : NoneIsOutOfMemory qs → NoneIsOutOfMemory ss
  pub account : (root : Node) → AccountFor t root ss → AccountFor t root qs
  pub counted : AreCounted ss → AreCounted qs
  pub room : HasRoom ss → HasRoom qs

-- the worse of two stops: memory ran out, or else the first leaf for which the ledger was full
abbrev pub worse : Option Stop → Option Stop → Option Stop
worse None r = r
worse (Some Memory) r = Some Memory
worse (Some (Full leaf)) (Some Memory) = Some Memory
worse (Some (Full leaf)) (Some (Full other)) = Some (Full leaf)
worse (Some (Full leaf)) None = Some (Full leaf)

abbrev pub worst_from : Option Stop → List Seat → Option Stop
worst_from r ss = fold (λ (w : Option Stop) (s : Seat). worse w s.refusal) r ss

abbrev pub worst_stop : List Seat → Option Stop
worst_stop ss = worst_from None ss

abbrev pub SomeIsFull : Rules → Leaf → List Seat → Type 0
SomeIsFull t leaf ss = (k : ℕ) × (s : Seat) × (slice_get ss k ≡ Some s) × IsFullOf t leaf s

-- the same seat with some other room
abbrev pub IsRoomless : Seat → Seat → Type 0
IsRoomless s q = q ≡ with_room s q.room

-- a seat leaves, and this is its right to enter leaves
pub record Leaves (s : Seat) (e : LedgerSeat) : Type 0 where
  pub part : part e ≡ s.part
  pub table : seat_table e ≡ s.table
  pub left : HasLeft s.worker.own.view
