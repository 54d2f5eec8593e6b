-- A worker's seat at the pool: what it has and knows, what it entered, and what a piece of its work balances.
use Rattle.std.specs.Prelude.{◌≡◌, ◌⊎◌, ◌≤◌, ℕ, ◌==◌, List, [], ◌∷◌, ◌++◌, flat_map, length, map, Option, Some, None, ⊤, IsPermutation, if◌then◌else◌}
use Rattle.atomic_table.specs.Seated.{TableId}
use Rattle.spec_trees.specs.declared.tree.Node.{Node}
use Rattle.spec_trees.specs.declared.tree.Leaf.{Leaf}
use Rattle.spec_trees.specs.Tree.{IsValid, Rules, leaves, mark_of}
use Rattle.spec_pool.specs.declared.ledger.SeatHistory.{SeatHistory}
use Rattle.spec_pool.specs.declared.ledger.LedgerTerms.{LedgerTerms}
use Rattle.spec_pool.specs.declared.ledger.Entry.{Entry}
use Rattle.spec_pool.specs.declared.ledger.Entry.TheVariants.{Entered, Again, Full as NoRoom, Memory as NoMemory}
use Rattle.spec_pool.specs.History.{Fresh}
use Rattle.spec_pool.specs.Accounts.{Account, Balances, EntersNode, KeepsRight, PutsRight, TakesNode, TakesTop}
use Rattle.spec_pool.specs.Acts.{Act, History, takes_from}
use Rattle.steal_pool.specs.declared.seat.PoolError.{PoolError}
use Rattle.steal_pool.specs.declared.seat.PoolError.TheVariants as E
use Rattle.steal_pool.specs.declared.seat.Stop.{Stop}
use Rattle.steal_pool.specs.declared.seat.Stop.TheVariants.{Full, Memory}
use Rattle.steal_pool.specs.Rule.{DequeId, End}
use Rattle.steal_pool.specs.Rounds.{Counts, rounds_in}
use Rattle.steal_pool.specs.Workers.{Holder, IsNew, taken_by}

-- the rules by which the valid nodes are those that lie in the root
abbrev pub rules_within : Rules → Node → Rules
rules_within t root = record { first = root.a; last = root.b; deepest = t.deepest; verdict = t.verdict; parts = t.parts }

-- the worker, its part of the ledger's history, the table and the terms of the ledger, why it stopped, how many steal
-- attempts it has made, its counter of the nodes that it has split or entered, and how many seats of the ledger it has room
-- for
pub record Seat : Type 0 where
  pub worker : Holder
  pub part : SeatHistory
  pub table : TableId
  pub terms : LedgerTerms
  pub refusal : Option Stop
  pub tried : ℕ
  pub rounds : ℕ
  pub room : ℕ

abbrev pub seat_of : Holder → SeatHistory → TableId → LedgerTerms → Option Stop → ℕ → ℕ → ℕ → Seat
seat_of worker part table terms refusal tried rounds room =
    record { worker = worker; part = part; table = table; terms = terms; refusal = refusal; tried = tried; rounds = rounds; room = room }

abbrev pub with_worker : Seat → Holder → Seat
with_worker s w = seat_of w s.part s.table s.terms s.refusal s.tried s.rounds s.room

abbrev pub with_refusal : Seat → Option Stop → Seat
with_refusal s refusal = seat_of s.worker s.part s.table s.terms refusal s.tried s.rounds s.room

abbrev pub with_room : Seat → ℕ → Seat
with_room s room = seat_of s.worker s.part s.table s.terms s.refusal s.tried s.rounds room

-- the seat with number 0 has room for the seats of any ledger
abbrev pub first_room : ℕ → ℕ
first_room number = if number == 0 then 64 else 0

abbrev pub IsHolding : Seat → Type 0
IsHolding s = (n : Node) × (s.worker.hand ≡ Some n)

-- ---- its account
-- the leaves for which the ledger answered that they are entered now, and that they stood already
abbrev pub entered_by : SeatHistory → List Leaf
entered_by p = map (λ e. e.leaf) p.mine ++ p.again

abbrev pub account_of : Holder → SeatHistory → Account
account_of w p = record { hand = w.hand; kept = w.kept; put = w.own.view.put; taken = taken_by w; entered = entered_by p }

abbrev pub account : Seat → Account
account s = account_of s.worker s.part

-- the same account, but for the order of the nodes that were taken and of the leaves that were entered
pub record IsLike (a b : Account) : Type 0 where
  pub hand : b.hand ≡ a.hand
  pub kept : b.kept ≡ a.kept
  pub put : b.put ≡ a.put
  pub taken : IsPermutation a.taken b.taken
  pub entered : IsPermutation a.entered b.entered

-- the seat's account changes by R
abbrev pub Changes : (Account → Account → Type 0) → Seat → Seat → Type 0
Changes R s s' = (b : Account) × R (account s) b × IsLike b (account s')

-- a node comes into the empty hand, from the local stack or from some deque
abbrev pub Gets : Node → Account → Account → Type 0
Gets n a b = (b.hand ≡ Some n) × (TakesTop a b ⊎ TakesNode n a b)

-- the node in the hand is split: its left part stays there, its right part goes on the deque, or on the local stack where
-- at least 64 nodes were put on the deque
abbrev pub Splits : Rules → Seat → Seat → Type 0
Splits t s s' = ((right : Node) × Changes (PutsRight t right) s s') ⊎ ((64 ≤ length s.worker.own.view.put) × Changes (KeepsRight t) s s')

-- the node in the hand is entered as a leaf, or split
abbrev pub Steps : Rules → Seat → Seat → Type 0
Steps t s s' = Changes (EntersNode t) s s' ⊎ Splits t s s'

-- what a worker's ends of the deque of worker k have taken
abbrev pub taken_off : ℕ → Holder → List Node
taken_off k w = flat_map (λ e. if e.worker == k then e.view.taken else []) (w.own ∷ w.stealers)

-- the seat's account goes through these acts, one after the other; what its ends took from each deque is what the acts
-- take from there; and its counter tells how many of the acts split a node or enter it
abbrev pub Acted : Rules → List Act → Seat → Seat → Type 0
Acted t acts s s' =
    Changes (λ a b. History t a acts b) s s'
    × ((k : ℕ) → IsPermutation (taken_off k s.worker ++ flat_map (takes_from k) acts) (taken_off k s'.worker))
    × Counts (rounds_in acts) s.rounds s'.rounds

-- a piece of work is some acts, one after the other, and the seat's account balances over it
abbrev pub Works : Rules → Seat → Seat → Type 0
Works t s s' = Changes (Balances t) s s' × ((acts : List Act) × Acted t acts s s')

-- ---- what stays
-- whose deque an end is of, and which deque that is
abbrev pub place_of : End → ℕ × DequeId
place_of e = (e.worker, e.deque)

-- its deque, the stealers on it that it made and did not join, and the deques that its own stealers are of
pub record SeatLinks : Type 0 where
  pub own : ℕ × DequeId
  pub made : ℕ
  pub others : List (ℕ × DequeId)

abbrev pub ways_of : ℕ × DequeId → ℕ → List (ℕ × DequeId) → SeatLinks
ways_of own made others = record { own = own; made = made; others = others }

abbrev pub ways : Holder → SeatLinks
ways w = ways_of (place_of w.own) w.own.view.made (map place_of w.stealers)

-- the same ways, ledger, number and room
pub record SameSeat (s s' : Seat) : Type 0 where
  pub ways : ways s'.worker ≡ ways s.worker
  pub table : s'.table ≡ s.table
  pub terms : s'.terms ≡ s.terms
  pub number : s'.part.number ≡ s.part.number
  pub room : s'.room ≡ s.room

-- ---- refusals
-- the leaf is that of the node in the hand, and is not among the entries that the seat has seen, which are as many as the
-- limit
pub record IsFullOf (t : Rules) (leaf : Leaf) (s : Seat) : Type 0 where
  pub hand : s.worker.hand ≡ Some leaf.node
  pub marked : mark_of (t.verdict leaf.node) ≡ Some leaf.mark
  pub leaves : leaves t leaf.node ≡ leaf ∷ []
  pub limit : s.terms.limit ≤ length s.part.seen
  pub fresh : Fresh leaf s.part.seen

abbrev pub IfFull : Stop → (Leaf → Type 0) → Type 0
IfFull (Full leaf) P = P leaf
IfFull Memory P = ⊤

-- why a seat stops once the ledger has answered this for a leaf, if it does
abbrev pub stop_at : Entry → Leaf → Option Stop
stop_at (Entered place) leaf = None
stop_at (Again place) leaf = None
stop_at NoRoom leaf = Some (Full leaf)
stop_at NoMemory leaf = Some Memory

-- it stopped, as the ledger was full for a leaf
abbrev pub IsFull : Rules → Seat → Type 0
IsFull t s = (leaf : Leaf) × (s.refusal ≡ Some (Full leaf)) × IsFullOf t leaf s

-- it stopped for this
abbrev pub error_of : Stop → PoolError
error_of (Full leaf) = E.TooMany
error_of Memory = E.Memory

abbrev pub IsStoppedBy : PoolError → Seat → Type 0
IsStoppedBy e s = (stop : Stop) × (s.refusal ≡ Some stop) × (error_of stop ≡ e)

-- the valid nodes of a pool are those of its judge that lie in the root, which is one of them
abbrev pub IsNamed : Rules → Rules → Node → Type 0
IsNamed t r root = (t ≡ rules_within r root) × IsValid r root

-- a seat that has done nothing yet, with this in its hand
abbrev pub NewSeat : SeatHistory → TableId → LedgerTerms → Option Node → Seat → Type 0
NewSeat part table terms hand s =
    IsNew part.number hand s.worker × (s.part ≡ part) × (s.table ≡ table) × (s.terms ≡ terms) × (s.refusal ≡ None) × (s.rounds ≡ 0) × (first_room part.number ≤ s.room)

-- a seat as `work` leaves it: it holds nothing, or keeps why it stopped, with a leaf only where it is full
pub record IsLeft (t : Rules) (s : Seat) : Type 0 where
  pub empty : s.refusal ≡ None → (s.worker.hand ≡ None) × (s.worker.kept ≡ [])
  pub full : (leaf : Leaf) → s.refusal ≡ Some (Full leaf) → IsFullOf t leaf s
