-- The history of a ledger: its entries in order of arrival, what is sound of them, and what each seat knows of them.
use Rattle.std.specs.Prelude.{◌≡◌, ◌≢◌, ◌≤◌, ◌<◌, ℕ, ◌+◌, ◌==◌, ◌-ℤ◌, ◌≤ℤ◌, List, [], ◌∷◌, ◌++◌, length, ⊤, if◌then◌else◌}
use Rattle.std.specs.Int.RustNames.{unsigned_abs}
use mathlib.Core.Option as M
use lib.ListN.{get_elem?}
use Rattle.spec_trees.specs.declared.tree.Leaf.{Leaf}
use Rattle.spec_trees.specs.declared.tree.Node.{Node}
use Rattle.spec_trees.specs.declared.book.Booked.{Booked}
use Rattle.spec_pool.specs.declared.ledger.SeatHistory.{SeatHistory}
use Rattle.spec_pool.specs.declared.ledger.LedgerTerms.{LedgerTerms}
use Rattle.spec_pool.specs.declared.ledger.Entry.{Entry}
use Rattle.spec_pool.specs.declared.ledger.Entry.TheVariants.{Entered, Again, Full, Memory}

abbrev pub booked : Leaf → ℕ → Booked
booked leaf seat = record { leaf = leaf; seat = seat }

abbrev pub terms_of : Node → ℕ → ℕ → LedgerTerms
terms_of root limit seats = record { root = root; limit = limit; seats = seats }

-- a rest makes it the whole
abbrev pub StartsWith : List Booked → List Booked → Type 0
StartsWith log seen = (rest : List Booked) × (log ≡ seen ++ rest)

-- the entries that carry a seat's number, in order
abbrev pub by_seat : ℕ → List Booked → List Booked
by_seat k [] = []
by_seat k (e ∷ es) = (if e.seat == k then e ∷ [] else []) ++ by_seat k es

-- no entry has the leaf
abbrev pub Fresh : Leaf → List Booked → Type 0
Fresh leaf log = (i : ℕ) (e : Booked) → get_elem? log i ≡ M.some e → e.leaf ≢ leaf

-- the entry at a place has the leaf
abbrev pub Stands : Leaf → List Booked → ℕ → Type 0
Stands leaf log place = (e : Booked) × (get_elem? log place ≡ M.some e) × (e.leaf ≡ leaf)

abbrev pub AllStand : List Booked → List Leaf → Type 0
AllStand log [] = ⊤
AllStand log (l ∷ ls) = ((place : ℕ) × Stands l log place) × AllStand log ls

-- the number of times of all leaves
abbrev pub width_of : Booked → ℕ
width_of e = unsigned_abs (e.leaf.node.b -ℤ e.leaf.node.a)

abbrev pub widths : List Booked → ℕ
widths [] = 0
widths (e ∷ es) = width_of e + widths es

-- ---- a sound history
abbrev pub LiesIn : Node → Leaf → Type 0
LiesIn root leaf = (root.a ≤ℤ leaf.node.a) × (leaf.node.b ≤ℤ root.b)

-- the entry's leaf lies in the root, and its seat is one of the ledger's
pub record Lies (t : LedgerTerms) (e : Booked) : Type 0 where
  pub from : t.root.a ≤ℤ e.leaf.node.a
  pub to : e.leaf.node.b ≤ℤ t.root.b
  pub seat : e.seat < t.seats

-- each entry lies in the root, no leaf stands twice, and there are at most as many as the limit
pub record Sound (t : LedgerTerms) (log : List Booked) : Type 0 where
  pub lies : (i : ℕ) (e : Booked) → get_elem? log i ≡ M.some e → Lies t e
  pub apart : (i j : ℕ) (e f : Booked) → get_elem? log i ≡ M.some e → get_elem? log j ≡ M.some f → e.leaf ≡ f.leaf → i ≡ j
  pub few : length log ≤ t.limit

-- ---- what a seat knows of the history
abbrev pub part_of : ℕ → List Booked → List Leaf → List Booked → SeatHistory
part_of number mine again seen = record { number = number; mine = mine; again = again; seen = seen }

-- it has seen a prefix of the history, the entries under its number are its own, and what was to be entered again stands
pub record FitsPart (log : List Booked) (p : SeatHistory) : Type 0 where
  pub seen : StartsWith log p.seen
  pub mine : by_seat p.number log ≡ p.mine
  pub again : AllStand log p.again

abbrev pub EachFits : List Booked → List SeatHistory → Type 0
EachFits log [] = ⊤
EachFits log (p ∷ ps) = FitsPart log p × EachFits log ps

-- a seat that has seen this history, that has made one entry more, and for which a leaf stood already
abbrev pub saw : SeatHistory → List Booked → SeatHistory
saw p log = part_of p.number p.mine p.again log

abbrev pub entered : SeatHistory → Booked → SeatHistory
entered p e = part_of p.number (p.mine ++ e ∷ []) p.again (p.seen ++ e ∷ [])

abbrev pub repeated : SeatHistory → Leaf → SeatHistory
repeated p leaf = part_of p.number p.mine (p.again ++ leaf ∷ []) p.seen

-- what holds of the history that was met and of the seat before and after, for each answer
abbrev pub Tells : ℕ → List Booked → Booked → SeatHistory → SeatHistory → Entry → Type 0
Tells limit log e p q (Entered place) = Fresh e.leaf log × (place ≡ length log) × (q ≡ entered (saw p log) e)
Tells limit log e p q (Again place) = Stands e.leaf log place × (q ≡ repeated (saw p log) e.leaf)
Tells limit log e p q Full = Fresh e.leaf log × (limit ≤ length log) × (q ≡ saw p log)
Tells limit log e p q Memory = q ≡ saw p log

-- what entering a leaf does to a seat: the history that it met holds all that it had seen
pub record Entering (limit : ℕ) (leaf : Leaf) (p q : SeatHistory) (answer : Entry) : Type 0 where
  pub log : List Booked
  pub more : StartsWith log p.seen
  pub tells : Tells limit log (booked leaf p.number) p q answer
