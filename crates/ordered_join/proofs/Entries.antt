-- A book put in order has as many leaves as entries.
use Rattle.std.proofs.Common.{◌≡◌, ◌≤◌, ◌∙◌, ℕ, suc, Bool, true, false, List, [], ◌∷◌, length, if◌then◌else◌, int_lt, refl, sym, ap, subst}
use Rattle.spec_trees.specs.declared.book.Booked.{Booked}
use Rattle.spec_trees.specs.declared.tree.Leaf.{Leaf}
use Rattle.spec_trees.specs.Order.{booked_leaves, in_order, inserted, ordered_leaves}

placed : (l m : Leaf) (ms later : List Leaf) (earlier : Bool) → length later ≡ suc (length ms)
    → length (if earlier then m ∷ later else l ∷ m ∷ ms) ≡ suc (suc (length ms))
placed l m ms later true more = ap suc more
placed l m ms later false more = refl

one_more : (l : Leaf) (ls : List Leaf) → length (inserted l ls) ≡ suc (length ls)
unfolding inserted
one_more l [] = refl
one_more l (m ∷ ms) = placed l m ms (inserted l ms) (int_lt m.node.a l.node.a) (one_more l ms)

as_many : (entries : List Booked) → length (ordered_leaves entries) ≡ length entries
unfolding in_order
as_many [] = refl
as_many (e ∷ es) = one_more e.leaf (in_order (booked_leaves es)) ∙ ap suc (as_many es)

pub no_more : (entries : List Booked) (ls : List Leaf) (limit : ℕ) → ordered_leaves entries ≡ ls → length entries ≤ limit → length ls ≤ limit
no_more entries ls limit is few = subst (λ (n : ℕ). n ≤ limit) (sym (as_many entries) ∙ ap length is) few
