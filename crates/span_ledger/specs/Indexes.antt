-- What is kept beside the entries of a history: where each leaf stands, the sum of the widths, and how many entries each
-- seat has.
use Rattle.std.specs.Prelude.{◌≡◌, ℕ, ◌*◌, ◌^◌, ◌<◌, ◌≤◌, ℤ, List, length, Some, slice_index_or}
use Rattle.std.specs.declared.cmp.Ordering.{Ordering}
use Rattle.std.specs.Ordering.{ordering_then, int_cmp, nat_cmp}
use Rattle.std.specs.BTreeMap.{BTreeMap, get}
use mathlib.Core.Option as O
use lib.ListN.{get_elem?}
use Rattle.spec_trees.specs.declared.tree.Leaf.{Leaf}
use Rattle.spec_trees.specs.declared.book.Booked.{Booked}
use Rattle.spec_pool.specs.History.{by_seat, widths}
use Rattle.spec_pool.specs.Marks.{mark_number}

abbrev pub Key : Type 0
Key = (ℤ × ℤ) × (ℕ × ℕ)

abbrev pub key_cmp : Key → Key → Ordering
key_cmp x y = ordering_then (ordering_then (int_cmp x.0.0 y.0.0) (int_cmp x.0.1 y.0.1)) (ordering_then (nat_cmp x.1.0 y.1.0) (nat_cmp x.1.1 y.1.1))

-- a leaf as the index orders it
abbrev pub key_of : Leaf → Key
key_of l = ((l.node.a, l.node.b), (l.node.depth, mark_number l.mark))

-- the index says where each leaf stands, and no leaf more; the width is the sum of the widths, within 128 bits; and each
-- count is that of a seat's entries
pub record Registered (log : List Booked) (index : BTreeMap Key ℕ) (width : ℕ) (counts : List ℕ) : Type 0 where
  pub at : (i : ℕ) (e : Booked) → get_elem? log i ≡ O.some e → get key_cmp index (key_of e.leaf) ≡ Some i
  pub back : (q : Key) (i : ℕ) → get key_cmp index q ≡ Some i → (e : Booked) × (get_elem? log i ≡ O.some e) × (key_of e.leaf ≡ q)
  pub width_is : width ≡ widths log
  pub low : widths log ≤ length log * 2 ^ 64
  pub seats : length counts ≡ 64
  pub counted : (k : ℕ) → k < 64 → slice_index_or counts k 0 ≡ length (by_seat k log)
