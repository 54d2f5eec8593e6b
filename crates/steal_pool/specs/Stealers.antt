-- How the stealers of a pool's seats are made, and how they are joined again.
use Rattle.std.specs.Prelude.{◌≡◌, ◌≢◌, ◌<◌, ℕ, ◌==◌, List, [], length, map, Some, if◌then◌else◌, nat_lt, slice_get, slice_set, IsPermutation}
use Rattle.spec_trees.specs.declared.tree.Node.{Node}
use Rattle.span_ledger.specs.declared.desk.LedgerSeat.{LedgerSeat}
use Rattle.span_ledger.specs.declared.desk.SpanLedger.{SpanLedger}
use Rattle.span_ledger.specs.Seats.{part, table_of, terms}
use Rattle.steal_pool.specs.Rule.{End, end_of, view_of}
use Rattle.steal_pool.specs.Workers.{Gives, Holder, gains, holder_of, joins, lends, new_stealer}
use Rattle.steal_pool.specs.Seats.{NewSeat, Seat, with_worker}
use Rattle.steal_pool.specs.Pools.{AllBegin, AreLinked, first_hand, other_numbers, stealer_numbers, taken_of}

-- ---- making them
-- the seat that is opened for a seat of the ledger
abbrev pub Opens : SpanLedger → Node → LedgerSeat → Seat → Type 0
Opens ledger root e s = NewSeat (part e) (table_of ledger) (terms ledger) (first_hand root (part e).number) s

abbrev pub lent : Seat → Seat
lent s = with_worker s (lends s.worker)

abbrev pub gained : Seat → End → Seat
gained s e = with_worker s (gains s.worker e)

-- seat i has a new stealer on the deque of seat j
abbrev pub Links : ℕ → ℕ → List Seat → List Seat → Type 0
Links i j ss qs =
    (r s : Seat) × (slice_get ss j ≡ Some r) × (slice_get (slice_set ss j (lent r)) i ≡ Some s)
    × (qs ≡ slice_set (slice_set ss j (lent r)) i (gained s (new_stealer r.worker)))

-- the same for two different seats; for one seat nothing changes
abbrev pub LinksOther : ℕ → ℕ → List Seat → List Seat → Type 0
LinksOther i j ss qs = (i ≡ j → qs ≡ ss) × (i ≢ j → Links i j ss qs)

-- the numbers of the stealers of seat k, of n, where all seats before i have theirs, and seat i those on the seats before j
abbrev pub numbers_so_far : ℕ → ℕ → ℕ → ℕ → List ℕ
numbers_so_far n i j k =
    if nat_lt k i then other_numbers n k else (if k == i then other_numbers j k else [])

-- seats that begin, with as many of their stealers as this
pub record Linking (ledger : SpanLedger) (root : Node) (n i j : ℕ) (ss : List Seat) : Type 0 where
  pub count : length ss ≡ n
  pub begin : AllBegin ledger root ss
  pub linked : AreLinked ss
  pub numbers : (k : ℕ) (s : Seat) → slice_get ss k ≡ Some s → stealer_numbers s ≡ numbers_so_far n i j k

-- ---- joining them
-- the seat gives its last stealer away
abbrev pub GivesStealer : End → Seat → Seat → Type 0
GivesStealer e s s' = Gives e s.worker s'.worker × (s' ≡ with_worker s s'.worker)

abbrev pub joined : Seat → End → Seat
joined s e = with_worker s (joins s.worker e)

-- the last stealer of seat i is joined into the seat that it names
abbrev pub JoinsLast : ℕ → List Seat → List Seat → Type 0
JoinsLast i ss qs =
    (s s' r : Seat) × (e : End) × (slice_get ss i ≡ Some s) × GivesStealer e s s'
    × (slice_get (slice_set ss i s') e.worker ≡ Some r) × (qs ≡ slice_set (slice_set ss i s') e.worker (joined r e))

-- all of a worker but its stealers, how many it made, and what it took
abbrev pub lasting_of : Holder → Holder
lasting_of w = holder_of (end_of w.own.worker w.own.deque (view_of 0 0 0 w.own.view.put [])) [] w.pushed_in_a_row w.hand w.kept

abbrev pub lasting : Seat → Seat
lasting s = with_worker s (lasting_of s.worker)

-- stealers were joined: what was taken from deques is the same as before, as multisets, and all else stays
pub record Joined (ss qs : List Seat) : Type 0 where
  pub lasting : map lasting qs ≡ map lasting ss
  pub taken : IsPermutation (taken_of ss) (taken_of qs)

abbrev pub HasNoStealer : Seat → Type 0
HasNoStealer s = s.worker.stealers ≡ []

abbrev pub HasNoStealerAt : ℕ → List Seat → Type 0
HasNoStealerAt i ss = (s : Seat) → slice_get ss i ≡ Some s → HasNoStealer s

-- the seats before n
abbrev pub NoStealerBefore : ℕ → List Seat → Type 0
NoStealerBefore n ss = (k : ℕ) (s : Seat) → slice_get ss k ≡ Some s → k < n → HasNoStealer s
