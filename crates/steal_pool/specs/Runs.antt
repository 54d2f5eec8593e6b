-- What a run does with the seats of a pool, and what comes back of them.
use Rattle.std.specs.Prelude.{◌≡◌, ◌≤◌, ℕ, List, [], flat_map, length, Some, None, slice_get, IsPermutation}
use Rattle.std.specs.List.{AllByRecursion}
use Rattle.spec_trees.specs.declared.tree.Node.{Node}
use Rattle.spec_trees.specs.declared.tree.Leaf.{Leaf}
use Rattle.spec_trees.specs.Tree.{Rules, leaves}
use Rattle.span_ledger.specs.declared.desk.LedgerSeat.{LedgerSeat}
use Rattle.span_ledger.specs.declared.desk.SpanLedger.{SpanLedger}
use Rattle.span_ledger.specs.Seats.{IsSeatOf, part, table_of, terms}
use Rattle.steal_pool.specs.Pools.{IsLeftOver, entered_in}
use Rattle.steal_pool.specs.Seats.{IsLeft, SameSeat, Seat, Works}

-- the same seat, after a piece of work
pub record IsLater (t : Rules) (s s' : Seat) : Type 0 where
  pub works : Works t s s'
  pub same : SameSeat s s'

-- the same seat, after its worker found no more work or was refused
pub record HasWorked (t : Rules) (s s' : Seat) : Type 0 where
  pub later : IsLater t s s'
  pub left : IsLeft t s'

abbrev pub AreFree : List Seat → Type 0
AreFree ss = AllByRecursion (λ s. s.refusal ≡ None) ss

-- ---- all seats of a ledger, in order
abbrev pub IsSeatAt : SpanLedger → ℕ → Seat → Type 0
IsSeatAt ledger k s = (s.table ≡ table_of ledger) × (s.terms ≡ terms ledger) × (s.part.number ≡ k)

abbrev pub AreSeatsOf : SpanLedger → List Seat → Type 0
AreSeatsOf ledger ss = (k : ℕ) (s : Seat) → slice_get ss k ≡ Some s → IsSeatAt ledger k s

pub record AreAll (ledger : SpanLedger) (es : List LedgerSeat) : Type 0 where
  pub count : length es ≡ (terms ledger).seats
  pub each : (k : ℕ) (e : LedgerSeat) → slice_get es k ≡ Some e → IsSeatOf ledger e × ((part e).number ≡ k)

-- ---- what they entered
-- the leaves of the root, as multisets
abbrev pub HaveEntered : Rules → Node → List LedgerSeat → Type 0
HaveEntered t root es = IsPermutation (entered_in es) (leaves t root)

-- for none of them the ledger answered that a leaf stood already
abbrev pub EnteredOnce : List LedgerSeat → Type 0
EnteredOnce es = flat_map (λ e. (part e).again) es ≡ []

-- one of them has seen as many entries as the limit
abbrev pub HasSeenAll : ℕ → List LedgerSeat → Type 0
HasSeenAll limit es = (k : ℕ) × (e : LedgerSeat) × (slice_get es k ≡ Some e) × (limit ≤ length (part e).seen)

abbrev pub IsOverfull : Rules → Node → ℕ → List LedgerSeat → Leaf → Type 0
IsOverfull t root limit es leaf = IsLeftOver t root es leaf × HasSeenAll limit es
