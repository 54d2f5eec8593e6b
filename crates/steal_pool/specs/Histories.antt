-- What the seats of a whole run did, from their making to their end.
use Rattle.std.specs.Prelude.{◌≡◌, ◌+◌, ◌*◌, ℕ, List, length, Result, Ok, Err, Vec, ⊤}
use Rattle.std.specs.List.{AllZip}
use Rattle.std.specs.Global.{Global}
use Rattle.spec_trees.specs.declared.tree.Node.{Node}
use Rattle.spec_trees.specs.declared.tree.Leaf.{Leaf}
use Rattle.spec_trees.specs.Tree.{Rules, leaf_count}
use Rattle.spec_pool.specs.History.{terms_of}
use Rattle.span_ledger.specs.declared.desk.LedgerSeat.{LedgerSeat}
use Rattle.span_ledger.specs.declared.desk.SpanLedger.{SpanLedger}
use Rattle.span_ledger.specs.Seats.{terms}
use Rattle.steal_pool.specs.declared.finishing.FinishError.{FinishError}
use Rattle.steal_pool.specs.declared.finishing.FinishError.TheVariants.{TooMany, Memory}
use Rattle.steal_pool.specs.Seats.{Seat}
use Rattle.steal_pool.specs.Pools.{AllBegin, KeepNone, NoneIsOutOfMemory, rounds_of}
use Rattle.steal_pool.specs.Closing.{Ended, SomeIsFull}
use Rattle.steal_pool.specs.Runs.{IsLater}

-- n seats of a ledger began with the root in the hand of the first, and each came by a list of acts (`Works`) to what it is
-- in this list
abbrev pub HaveComeTo : Rules → SpanLedger → Node → ℕ → List Seat → Type 0
HaveComeTo t ledger root n worked =
    (begun : List Seat) × (length begun ≡ n) × AllBegin ledger root begun × AllZip (IsLater t) begun worked

-- The seats of all workers begin, each works by a list of acts until its thread ends, and what is left is done at the end.
pub record RunHistory (t : Rules) (root : Node) (workers limit : ℕ) : Type 0 where
  pub ledger : SpanLedger
  pub terms_are : terms ledger ≡ terms_of root limit workers
  pub worked : List Seat
  pub ended : List Seat
  pub come : HaveComeTo t ledger root workers worked
  pub ends : Ended t worked ended

-- no seat stopped, and together they split or entered each node of the root's tree once
abbrev pub HasFinished : Rules → Node → ℕ → ℕ → Type 0
HasFinished t root workers limit =
    (h : RunHistory t root workers limit) × KeepNone h.ended × (rounds_of h.ended + 1 ≡ 2 * leaf_count t root)

-- a seat met a full ledger, and none was out of memory
abbrev pub HasFilled : Rules → Node → ℕ → ℕ → Type 0
HasFilled t root workers limit =
    (h : RunHistory t root workers limit) × NoneIsOutOfMemory h.ended × ((leaf : Leaf) × SomeIsFull t leaf h.ended)

-- a pool ended for a full ledger
abbrev pub IsTooMany : Result (Vec LedgerSeat Global) FinishError → Type 0
IsTooMany (Ok es) = ⊥
IsTooMany (Err (TooMany es leaf)) = ⊤
IsTooMany (Err Memory) = ⊥
