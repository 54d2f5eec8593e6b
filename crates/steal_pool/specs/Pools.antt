-- The seats of one pool: how their stealers belong together, what they have and enter together, how they begin, and what
-- comes back of them.
use Rattle.std.specs.Prelude.{◌≡◌, ◌≢◌, ◌≤◌, ℕ, ◌+◌, zero, suc, ◌==◌, List, [], ◌∷◌, ◌++◌, length, map, flat_map, sum_by, Option, Some, None, ⊤, if◌then◌else◌, slice_get, IsPermutation}
use Rattle.std.specs.List.{AllByRecursion, AllZip}
use Rattle.atomic_table.specs.Seated.{TableId}
use Rattle.spec_trees.specs.declared.tree.Node.{Node}
use Rattle.spec_trees.specs.declared.tree.Leaf.{Leaf}
use Rattle.spec_trees.specs.Tree.{Rules, leaves}
use Rattle.spec_pool.specs.Accounts.{leaves_of, own}
use Rattle.spec_pool.specs.History.{Fresh, part_of}
use Rattle.span_ledger.specs.declared.desk.LedgerSeat.{LedgerSeat}
use Rattle.span_ledger.specs.declared.desk.SpanLedger.{SpanLedger}
use Rattle.span_ledger.specs.Seats.{AreNew, part, seat_table, table_of, terms}
use Rattle.steal_pool.specs.declared.finishing.FinishError.{FinishError}
use Rattle.steal_pool.specs.declared.finishing.FinishError.TheVariants.{TooMany, Memory}
use Rattle.steal_pool.specs.declared.seat.Stop.TheVariants.{Memory as OutOfMemory}
use Rattle.steal_pool.specs.Rule.{DequeId}
use Rattle.steal_pool.specs.Rounds.{Counts, tally}
use Rattle.steal_pool.specs.Workers.{taken_by}
use Rattle.steal_pool.specs.Seats.{IsNamed, Seat, SeatLinks, account, entered_by, first_room, ways}

-- ---- the stealers
abbrev pub ways_of_all : List Seat → List SeatLinks
ways_of_all ss = map (λ s. ways s.worker) ss

-- a stealer is on the deque of the worker that it names
abbrev pub IsOwned : List SeatLinks → ℕ × DequeId → Type 0
IsOwned ws stealer = (w : SeatLinks) × (slice_get ws stealer.0 ≡ Some w) × (w.own ≡ stealer)

-- how many of a worker's stealers are on the deque of worker k
abbrev pub stealers_on : ℕ → SeatLinks → ℕ
stealers_on k w = sum_by (λ stealer. if stealer.0 == k then 1 else 0) w.others

-- each stealer is on the deque of the worker that it names, and each owner has made as many stealers as there are on its deque
pub record Linked (ws : List SeatLinks) : Type 0 where
  pub owned : AllByRecursion (λ w. AllByRecursion (IsOwned ws) w.others) ws
  pub counted : (k : ℕ) (w : SeatLinks) → slice_get ws k ≡ Some w → w.made ≡ sum_by (stealers_on k) ws

abbrev pub AreLinked : List Seat → Type 0
AreLinked ss = Linked (ways_of_all ss)

-- the numbers below n but k, in order
abbrev pub other_numbers : ℕ → ℕ → List ℕ
other_numbers zero k = []
other_numbers (suc n) k = if n == k then other_numbers n k else other_numbers n k ++ n ∷ []

-- of which workers' deques its stealers are
abbrev pub stealer_numbers : Seat → List ℕ
stealer_numbers s = map (λ e. e.worker) s.worker.stealers

-- each has one stealer on the deque of each other
abbrev pub HaveAllStealers : List Seat → Type 0
HaveAllStealers ss = (k : ℕ) (s : Seat) → slice_get ss k ≡ Some s → stealer_numbers s ≡ other_numbers (length ss) k

-- ---- what the seats have together
-- the leaves that are entered, and the nodes in hands and on local stacks, those that were put on deques and those that
-- were taken from them
abbrev pub entered_of : List Seat → List Leaf
entered_of ss = flat_map (λ s. entered_by s.part) ss

abbrev pub own_of : List Seat → List Node
own_of ss = flat_map (λ s. own (account s)) ss

abbrev pub put_of : List Seat → List Node
put_of ss = flat_map (λ s. s.worker.own.view.put) ss

abbrev pub taken_of : List Seat → List Node
taken_of ss = flat_map (λ s. taken_by s.worker) ss

-- the leaves that are entered, those of what the workers have for themselves and those of what they put on deques are
-- the root's and those of what was taken from deques, as multisets
abbrev pub AccountFor : Rules → Node → List Seat → Type 0
AccountFor t root ss =
    IsPermutation (entered_of ss ++ leaves_of t (own_of ss ++ put_of ss)) (leaves t root ++ leaves_of t (taken_of ss))

-- ---- the rounds that they made
-- what their counters show, and all of it together
abbrev pub counters : List Seat → List ℕ
counters ss = map (λ s. s.rounds) ss

abbrev pub rounds_of : List Seat → ℕ
rounds_of ss = sum_by (λ n. n) (counters ss)

-- These are the rounds of the seats, and the counter of each tells its own. With the root, and with the nodes that were
-- taken from deques, they are as many as the tallies of all.
pub record AreCounted (ss : List Seat) : Type 0 where
  pub rounds : List ℕ
  pub tell : AllZip (λ n shown. Counts n 0 shown) rounds (counters ss)
  pub sum : sum_by (λ n. n) rounds + 1 + length (taken_of ss) ≡ sum_by (λ s. tally (account s)) ss

-- ---- how they begin
-- what has to be true where seats are made of a ledger's: t names the nodes of the root by the judge's rules r, it is the
-- ledger's root, and these are all 1 to 64 seats of the ledger, which have entered nothing
pub record CanMake (t r : Rules) (ledger : SpanLedger) (es : List LedgerSeat) (root : Node) : Type 0 where
  pub named : IsNamed t r root
  pub same : (terms ledger).root ≡ root
  pub some : 1 ≤ length es
  pub few : length es ≤ 64
  pub all : length es ≡ (terms ledger).seats
  pub fresh : AreNew ledger es

abbrev pub first_hand : Node → ℕ → Option Node
first_hand root k = if k == 0 then Some root else None

-- a seat of the ledger that has the number k and this in its hand, has put, taken and entered nothing, and counts from 0
pub record Begins (ledger : SpanLedger) (k : ℕ) (node : Option Node) (s : Seat) : Type 0 where
  pub worker : s.worker.own.worker ≡ k
  pub hand : s.worker.hand ≡ node
  pub kept : s.worker.kept ≡ []
  pub pushed_in_a_row : s.worker.pushed_in_a_row ≡ 0
  pub put : s.worker.own.view.put ≡ []
  pub taken : taken_by s.worker ≡ []
  pub part : s.part ≡ part_of k [] [] []
  pub table : s.table ≡ table_of ledger
  pub terms : s.terms ≡ terms ledger
  pub refusal : s.refusal ≡ None
  pub rounds : s.rounds ≡ 0
  pub room : first_room k ≤ s.room

-- each seat has its place as its number; the root is in the hand of the first, and all else is empty
abbrev pub AllBegin : SpanLedger → Node → List Seat → Type 0
AllBegin ledger root ss = (k : ℕ) (s : Seat) → slice_get ss k ≡ Some s → Begins ledger k (first_hand root k) s

-- ---- what comes back
-- the first of them has room for the ledger seats of all
abbrev pub HasRoom : List Seat → Type 0
HasRoom ss = (s : Seat) → slice_get ss 0 ≡ Some s → length ss ≤ s.room

-- what is left to do by them: `rest` is still on the deques, and the leaves of what they hold and of that are those of the
-- root's that are not entered, as multisets
pub record LeavesOver (t : Rules) (root : Node) (ss : List Seat) : Type 0 where
  pub rest : List Node
  pub deques : IsPermutation (put_of ss) (taken_of ss ++ rest)
  pub account : IsPermutation (entered_of ss ++ leaves_of t (own_of ss ++ rest)) (leaves t root)

-- of which ledger's table, and under which number
abbrev pub right_of : Seat → TableId × ℕ
right_of s = (s.table, s.part.number)

abbrev pub seat_right : LedgerSeat → TableId × ℕ
seat_right e = (seat_table e, (part e).number)

-- the ledger seats of these seats, in order
abbrev pub ComeBack : List Seat → List LedgerSeat → Type 0
ComeBack ss es = map seat_right es ≡ map right_of ss

-- the leaves for which the ledger answered one of them that they are entered now, or that they stood already
abbrev pub entered_in : List LedgerSeat → List Leaf
entered_in es = flat_map (λ e. entered_by (part e)) es

-- one of them has seen as many entries as the limit, and the leaf is not among them
abbrev pub IsRefused : List Seat → List LedgerSeat → Leaf → Type 0
IsRefused ss es leaf =
    (k : ℕ) × (s : Seat) × (e : LedgerSeat) × (slice_get ss k ≡ Some s) × (slice_get es k ≡ Some e)
    × (s.terms.limit ≤ length (part e).seen) × Fresh leaf (part e).seen

-- what is entered, this leaf and some more are the root's leaves, as multisets
abbrev pub IsLeftOver : Rules → Node → List LedgerSeat → Leaf → Type 0
IsLeftOver t root es leaf = (others : List Leaf) × IsPermutation (entered_in es ++ leaf ∷ others) (leaves t root)

abbrev pub IfTooMany : FinishError → (List LedgerSeat → Leaf → Type 0) → Type 0
IfTooMany (TooMany es leaf) P = P es.items leaf
IfTooMany Memory P = ⊤

abbrev pub KeepNone : List Seat → Type 0
KeepNone ss = AllByRecursion (λ s. s.refusal ≡ None) ss

abbrev pub NoneIsOutOfMemory : List Seat → Type 0
NoneIsOutOfMemory ss = AllByRecursion (λ s. s.refusal ≢ Some OutOfMemory) ss

abbrev pub SomeIsOutOfMemory : List Seat → Type 0
SomeIsOutOfMemory ss = (k : ℕ) × (s : Seat) × (slice_get ss k ≡ Some s) × (s.refusal ≡ Some OutOfMemory)
