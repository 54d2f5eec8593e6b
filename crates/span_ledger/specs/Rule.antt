-- The rule of the ledger, which holds between any two steps. Word 0 is 1 where the lock is taken, and else another
-- number; word 1 is the number of entries; slot 0 holds the book. Each seat knows a part of the history.
use Rattle.std.specs.Prelude.{◌≡◌, ◌≢◌, ◌⊎◌, ◌≤◌, ℕ, zero, suc, ◌+◌, ◌-◌, ◌==◌, List, [], ◌∷◌, ◌++◌, length, sum_by, Option, Some, ⊤, if◌then◌else◌}
use mathlib.Core.Option as M
use lib.ListN.{get_elem?}
use Rattle.atomic_table.specs.Table.{State, Me, Step}
use Rattle.spec_trees.specs.declared.book.Booked.{Booked}
use Rattle.spec_pool.specs.declared.ledger.SeatHistory.{SeatHistory}
use Rattle.span_ledger.specs.declared.ledger.SeatView.{SeatView}
use Rattle.spec_pool.specs.declared.ledger.LedgerTerms.{LedgerTerms}
use Rattle.spec_pool.specs.declared.ledger.Entry.{Entry}
use Rattle.spec_pool.specs.declared.ledger.Entry.TheVariants.{Entered, Again, Full, Memory}
use Rattle.spec_pool.specs.History.{StartsWith, by_seat, Fresh, Stands, Sound, part_of, EachFits, saw, entered, repeated}

abbrev pub view_of : ℕ → ℕ → ℕ → List SeatHistory → SeatView
view_of holds low high parts = record { holds = holds; low = low; high = high; parts = parts }

-- the first seat has the last number, and may make all others
abbrev pub newcomer : LedgerTerms → SeatView
newcomer t = view_of 0 0 (t.seats - 1) (part_of (t.seats - 1) [] [] [] ∷ [])

abbrev pub the_part : List SeatHistory → SeatHistory
the_part [] = part_of 0 [] [] []
the_part (p ∷ ps) = p

abbrev pub with_part : SeatView → ℕ → SeatHistory → SeatView
with_part v holds p = view_of holds v.low v.high (p ∷ [])

abbrev pub maker_after : SeatView → SeatView
maker_after v = view_of v.holds (v.low + 1) v.high v.parts

abbrev pub made : SeatView → SeatView
made v = view_of 0 0 0 (part_of v.low [] [] [] ∷ [])

abbrev pub joined : SeatView → SeatView → SeatView
joined v w = view_of (v.holds + w.holds) v.low v.high (v.parts ++ w.parts)

abbrev pub spent : SeatView
spent = view_of 0 0 0 []

-- how often a number stands in the parts, or is still to be made
abbrev pub is_number : ℕ → ℕ → ℕ
is_number k n = if n == k then 1 else 0

abbrev pub times : ℕ → List SeatHistory → ℕ
times k [] = 0
times k (p ∷ ps) = is_number k p.number + times k ps

-- the numbers from n on, c of them
abbrev pub run_of : ℕ → ℕ → ℕ → ℕ
run_of k n zero = 0
run_of k n (suc c) = is_number k n + run_of k (n + 1) c

abbrev pub taken : ℕ → SeatView → ℕ
taken k v = times k v.parts + run_of k v.low (v.high - v.low)

abbrev pub size : SeatView → ℕ
size v = length v.parts + (v.high - v.low)

pub record Fits (t : LedgerTerms) (log : List Booked) (v : SeatView) : Type 0 where
  pub parts : EachFits log v.parts
  pub below : v.high ≤ t.seats
  pub numbers : (k : ℕ) → t.seats ≤ k → times k v.parts ≡ 0
  pub idle : length v.parts ≡ 0 → v.holds ≡ 0
  pub current : v.holds ≡ 1 → (the_part v.parts).seen ≡ log
  pub fresh : (k : ℕ) → 1 ≤ run_of k v.low (v.high - v.low) → by_seat k log ≡ []

-- the book of a lock that is free, and nothing at home where it is taken
abbrev pub home_of : ℕ → List Booked → M.Option (Option (List Booked))
home_of zero log = M.some (Some log)
home_of (suc k) log = M.none

pub record Keeps (t : LedgerTerms) (words : List ℕ) (homes : List (M.Option (Option (List Booked)))) (views : List SeatView) : Type 0 where
  pub log : List Booked
  pub word : ℕ
  pub lock : ℕ
  pub bit : ((lock ≡ 0) × (word ≢ 1)) ⊎ ((lock ≡ 1) × (word ≡ 1))
  pub words_are : words ≡ word ∷ length log ∷ []
  pub homes_are : homes ≡ home_of lock log ∷ []
  pub holders : sum_by (λ (v : SeatView). v.holds) views ≡ lock
  pub numbers : (k : ℕ) → sum_by (taken k) views ≤ 1
  pub counted : sum_by size views ≤ t.seats
  pub fit : (p : ℕ) (v : SeatView) → get_elem? views p ≡ M.some v → Fits t log v
  pub sound : Sound t log

abbrev pub Kept : LedgerTerms → State (Option (List Booked)) SeatView → Type 0
Kept t s = Keeps t s.words s.homes s.views

abbrev pub Sat : Type 0
Sat = Me (Option (List Booked)) SeatView

abbrev pub Stp : Type 0
Stp = Step (Option (List Booked))

-- where 1 was found nothing changed; else the lock is the seat's, with the book
abbrev pub Locks : Stp → Sat → ℕ → Sat → Type 0
Locks st m k n = (k ≡ 1 → n ≡ m) × (k ≢ 1 → (log : List Booked) × StartsWith log (the_part m.0.parts).seen × (by_seat (the_part m.0.parts).number log ≡ (the_part m.0.parts).mine) × (n ≡ (with_part m.0 1 (saw (the_part m.0.parts) log), (0, Some log) ∷ [])))

-- the book that the seat holds has one entry more than the history, and now the history has it
abbrev pub Adds : Stp → Sat → ℕ → Sat → Type 0
Adds st m k n = (e : Booked) × (m.1 ≡ (0, Some ((the_part m.0.parts).seen ++ e ∷ [])) ∷ []) × (n ≡ (with_part m.0 m.0.holds (entered (the_part m.0.parts) e), m.1))

-- a number of 2 or more says at which place the leaf stood that was to be entered again
abbrev pub Frees : Stp → Sat → ℕ → Sat → Type 0
Frees st m zero n = n ≡ (with_part m.0 0 (the_part m.0.parts), [])
Frees st m (suc zero) n = ⊤
Frees st m (suc (suc i)) n = (e : Booked) × (get_elem? (the_part m.0.parts).seen i ≡ M.some e) × (n ≡ (with_part m.0 0 (repeated (the_part m.0.parts) e.leaf), []))

-- what is written into the book and known to the rule before the lock is given back
abbrev pub Writes : ℕ → Sat → Booked → Entry → Sat → Type 0
Writes limit m e (Entered place) n = Fresh e.leaf (the_part m.0.parts).seen × (place ≡ length (the_part m.0.parts).seen) × (n ≡ (with_part m.0 m.0.holds (entered (the_part m.0.parts) e), (0, Some ((the_part m.0.parts).seen ++ e ∷ [])) ∷ []))
Writes limit m e (Again place) n = Stands e.leaf (the_part m.0.parts).seen place × (n ≡ m)
Writes limit m e Full n = Fresh e.leaf (the_part m.0.parts).seen × (limit ≤ length (the_part m.0.parts).seen) × (n ≡ m)
Writes limit m e Memory n = n ≡ m

-- the seat has neither lock nor book, and one part
pub record IsIdle (m : Sat) : Type 0 where
  pub holds : m.0.holds ≡ 0
  pub slots : length m.1 ≡ 0
  pub one : length m.0.parts ≡ 1

-- the seat has the lock and the book, which is the history that it has seen, and one part
pub record HasBook (m : Sat) : Type 0 where
  pub holds : m.0.holds ≡ 1
  pub one : length m.0.parts ≡ 1
  pub slots : m.1 ≡ (0, Some (the_part m.0.parts).seen) ∷ []

-- with the lock comes the book, which holds all that the seat had seen
pub record TakesBook (m n : Sat) : Type 0 where
  pub log : List Booked
  pub more : StartsWith log (the_part m.0.parts).seen
  pub after : n ≡ (with_part m.0 1 (saw (the_part m.0.parts) log), (0, Some log) ∷ [])

abbrev pub own_part : Sat → SeatHistory
own_part m = the_part m.0.parts

-- the seat without lock and book, with this part
abbrev pub freed : Sat → SeatHistory → Sat
freed m p = (with_part m.0 0 p, [])
