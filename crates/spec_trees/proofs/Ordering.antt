-- Leaves put in order: those of a cover stand in order, and a stable sort by their beginnings puts leaves in order.
use Rattle.std.proofs.Common.{◌≡◌, ◌+◌, ◌⊎◌, inl, inr, ℕ, suc, Bool, true, false, not, ◌&&◌, cond, List, [], ◌∷◌, slice_index_or, ℤ, ◌≤ℤ◌, ◌<ℤ◌, int_lt, if◌then◌else◌, arith, refl, sym, ap, ◌∙◌, subst}
use Rattle.std.proofs.lemmas.Int.{ints}
use Rattle.std.specs.List.{filter}
use Rattle.std.specs.List.Sorted.{IsSortedByKey, IsStableByKey}
use Rattle.std.specs.Ordering.{is_lt, int_cmp}
use Rattle.spec_trees.specs.declared.tree.Leaf.{Leaf}
use Rattle.spec_trees.specs.Tree.{Covers}
use Rattle.spec_trees.specs.Order.{inserted, in_order}
use Rattle.spec_trees.proofs.Sides.{before_after_or_at}

-- ---- a cover
before_first : (l : Leaf) (ls : List Leaf) (b : ℤ) → Covers l.node.b ls b → l.node.a <ℤ l.node.b → inserted l ls ≡ l ∷ ls
unfolding inserted
before_first l [] b c h = refl
before_first l (m ∷ ms) b c h =
    let later : int_lt m.node.a l.node.a ≡ false = not_before m.node.a l.node.a (omega (arith, ints, c.0, h)) in
    rw later refl
  where
    not_before : (x y : ℤ) → y ≤ℤ x → int_lt x y ≡ false
    not_before x y p = grind (arith, ints)

pub cover_in_order : (a b : ℤ) (ls : List Leaf) → Covers a ls b → in_order ls ≡ ls
unfolding in_order
cover_in_order a b [] c = refl
cover_in_order a b (l ∷ ls) c = ap (inserted l) (cover_in_order l.node.b b ls c.2) ∙ before_first l ls b c.2 c.1

-- ---- lists whose beginnings do not fall
abbrev pub AllFrom : ℤ → List Leaf → Type 0
AllFrom a [] = Unit {0}
AllFrom a (l ∷ ls) = (a ≤ℤ l.node.a) × AllFrom a ls

abbrev pub Rise : List Leaf → Type 0
Rise [] = Unit {0}
Rise (l ∷ ls) = AllFrom l.node.a ls × Rise ls

pub all_from : (a b : ℤ) (ls : List Leaf) → a ≤ℤ b → AllFrom b ls → AllFrom a ls
all_from a b [] h f = tt
all_from a b (l ∷ ls) h f = (omega (arith, ints, h, f.0), all_from a b ls h f.1)

-- neither begins before the other
abbrev tie : ℤ → ℤ → Bool
tie x y = not (is_lt (int_cmp x y)) && not (is_lt (int_cmp y x))

abbrev pub same : Leaf → Leaf → Bool
same x y = tie x.node.a y.node.a

no_earlier : (x y : ℤ) → is_lt (int_cmp x y) ≡ false → y ≤ℤ x
no_earlier x y h = grind (arith, ints)

pub ties_equal : (x y : ℤ) → tie x y ≡ true → x ≡ y
ties_equal x y h = grind (arith, ints)

tie_self : (x : ℤ) → tie x x ≡ true
tie_self x = grind (arith, ints)

pub tie_apart : (x y : ℤ) → x <ℤ y → tie x y ≡ false
tie_apart x y h = grind (arith, ints)

-- ---- what a test keeps of a first leaf and others
abbrev pub kept : Bool → Leaf → List Leaf → List Leaf
kept b l ls = cond b (l ∷ ls) ls

pub kept_if : (b : Bool) (l : Leaf) (ls : List Leaf) → b ≡ true → kept b l ls ≡ l ∷ ls
kept_if b l ls e = ap (λ c. kept c l ls) e

pub left_if : (b : Bool) (l : Leaf) (ls : List Leaf) → b ≡ false → kept b l ls ≡ ls
left_if b l ls e = ap (λ c. kept c l ls) e

rest_of : (b : Bool) (l : Leaf) (xs ys : List Leaf) → kept b l xs ≡ kept b l ys → xs ≡ ys
rest_of true l xs ys e = cc
rest_of false l xs ys e = e

-- none begins with a leaf that begins before all
pub none_with : (x : Leaf) (a : ℤ) (ls : List Leaf) → x.node.a <ℤ a → AllFrom a ls → filter (same x) ls ≡ []
none_with x a [] h f = refl
none_with x a (l ∷ ls) h f =
    left_if (same x l) l (filter (same x) ls) (tie_apart x.node.a l.node.a (omega (arith, ints, h, f.0))) ∙ none_with x a ls h f.1

kept_first : (x : Leaf) (ls : List Leaf) → filter (same x) (x ∷ ls) ≡ x ∷ filter (same x) ls
kept_first x ls = kept_if (same x x) x (filter (same x) ls) (tie_self x.node.a)

not_nothing : {P : Type 0} (l : Leaf) (ls : List Leaf) → l ∷ ls ≡ [] → P
not_nothing l ls e = absurd (cc)

same_first : (y z : Leaf) (ys zs : List Leaf) → y ∷ ys ≡ z ∷ zs → y ≡ z
same_first y z ys zs e = cc

module _ (y z : Leaf) (ys zs : List Leaf) (r : AllFrom y.node.a ys) (s : AllFrom z.node.a zs) (h : (x : Leaf) → filter (same x) (y ∷ ys) ≡ filter (same x) (z ∷ zs)) where
  first_by : (y.node.a <ℤ z.node.a) ⊎ ((z.node.a <ℤ y.node.a) ⊎ (y.node.a ≡ z.node.a)) → y ≡ z
  first_by (inl p) =
      not_nothing y (filter (same y) ys) (sym (kept_first y ys) ∙ (h y ∙ none_with y z.node.a (z ∷ zs) p (omega (arith, ints), s)))
  first_by (inr (inl p)) =
      not_nothing z (filter (same z) zs) (sym (kept_first z zs) ∙ (sym (h z) ∙ none_with z y.node.a (y ∷ ys) p (omega (arith, ints), r)))
  first_by (inr (inr e)) =
      let met : same y z ≡ true = rw (← e) (tie_self y.node.a) in
      same_first y z (filter (same y) ys) (filter (same y) zs) (sym (kept_first y ys) ∙ (h y ∙ kept_if (same y z) z (filter (same y) zs) met))

  one_first : y ≡ z
  one_first = first_by (before_after_or_at y.node.a z.node.a)

  others : (x : Leaf) → filter (same x) ys ≡ filter (same x) zs
  others x =
      rest_of (same x y) y (filter (same x) ys) (filter (same x) zs)
      (h x ∙ ap (λ l. kept (same x l) l (filter (same x) zs)) (sym one_first))

-- two lists that rise, and keep the same leaves of each beginning, are one
pub one_order : (ys zs : List Leaf) → Rise ys → Rise zs → ((x : Leaf) → filter (same x) ys ≡ filter (same x) zs) → ys ≡ zs
one_order [] [] r s h = refl
one_order [] (z ∷ zs) r s h = not_nothing z (filter (same z) zs) (sym (kept_first z zs) ∙ sym (h z))
one_order (y ∷ ys) [] r s h = not_nothing y (filter (same y) ys) (sym (kept_first y ys) ∙ h y)
one_order (y ∷ ys) (z ∷ zs) r s h =
    let first = one_first y z ys zs r.0 s.0 h in
    let later = one_order ys zs r.1 s.1 (others y z ys zs r.0 s.0 h) in
    λ i. first i ∷ later i

-- ---- leaves put in order keep the leaves of each beginning as they came
turned : (p q : Bool) (m l : Leaf) (ls : List Leaf) → (p ≡ true → q ≡ true → ⊥) → kept p m (kept q l ls) ≡ kept q l (kept p m ls)
turned true true m l ls apart = absurd (apart refl refl)
turned true false m l ls apart = refl
turned false q m l ls apart = refl

insert_by : (x l m : Leaf) (ms : List Leaf) (b : Bool) → int_lt m.node.a l.node.a ≡ b → filter (same x) (inserted l ms) ≡ kept (same x l) l (filter (same x) ms)
    → filter (same x) (if b then m ∷ inserted l ms else l ∷ m ∷ ms) ≡ kept (same x l) l (filter (same x) (m ∷ ms))
insert_by x l m ms true e keeps =
    ap (λ ls. kept (same x m) m ls) keeps
    ∙ turned (same x m) (same x l) m l (filter (same x) ms) (λ p q. apart x.node.a m.node.a l.node.a e (ties_equal x.node.a m.node.a p) (ties_equal x.node.a l.node.a q))
  where
    apart : (x m l : ℤ) → int_lt m l ≡ true → x ≡ m → x ≡ l → ⊥
    apart x m l e p q = grind (arith, ints)
insert_by x l m ms false e keeps = refl

insert_keeps : (x l : Leaf) (ms : List Leaf) → filter (same x) (inserted l ms) ≡ kept (same x l) l (filter (same x) ms)
unfolding inserted
insert_keeps x l [] = refl
insert_keeps x l (m ∷ ms) = insert_by x l m ms (int_lt m.node.a l.node.a) refl (insert_keeps x l ms)

pub order_keeps : (x : Leaf) (ls : List Leaf) → filter (same x) (in_order ls) ≡ filter (same x) ls
unfolding in_order
order_keeps x [] = refl
order_keeps x (l ∷ ls) = insert_keeps x l (in_order ls) ∙ ap (λ ms. kept (same x l) l ms) (order_keeps x ls)

-- ---- leaves put in order rise
from_insert_by : (a : ℤ) (l m : Leaf) (ms : List Leaf) (b : Bool) → a ≤ℤ l.node.a → AllFrom a (m ∷ ms) → AllFrom a (inserted l ms) → AllFrom a (if b then m ∷ inserted l ms else l ∷ m ∷ ms)
from_insert_by a l m ms true h f later = (f.0, later)
from_insert_by a l m ms false h f later = (h, f)

from_insert : (a : ℤ) (l : Leaf) (ms : List Leaf) → a ≤ℤ l.node.a → AllFrom a ms → AllFrom a (inserted l ms)
unfolding inserted
from_insert a l [] h f = (h, tt)
from_insert a l (m ∷ ms) h f = from_insert_by a l m ms (int_lt m.node.a l.node.a) h f (from_insert a l ms h f.1)

is_below : (x y : ℤ) → int_lt x y ≡ true → x ≤ℤ y
is_below x y e = grind (arith, ints)

is_above : (x y : ℤ) → int_lt x y ≡ false → y ≤ℤ x
is_above x y e = grind (arith, ints)

rise_by : (l m : Leaf) (ms : List Leaf) (b : Bool) → int_lt m.node.a l.node.a ≡ b → Rise (m ∷ ms) → Rise (inserted l ms) → Rise (if b then m ∷ inserted l ms else l ∷ m ∷ ms)
rise_by l m ms true e r later = (from_insert m.node.a l ms (is_below m.node.a l.node.a e) r.0, later)
rise_by l m ms false e r later =
    let below = is_above m.node.a l.node.a e in ((below, all_from l.node.a m.node.a ms below r.0), r)

rise_insert : (l : Leaf) (ms : List Leaf) → Rise ms → Rise (inserted l ms)
unfolding inserted
rise_insert l [] r = (tt, tt)
rise_insert l (m ∷ ms) r = rise_by l m ms (int_lt m.node.a l.node.a) refl r (rise_insert l ms r.1)

pub order_rises : (ls : List Leaf) → Rise (in_order ls)
unfolding in_order
order_rises [] = tt
order_rises (l ∷ ls) = rise_insert l (in_order ls) (order_rises ls)

-- ---- what a sort ensures
abbrev beginning : Leaf → ℤ
beginning l = l.node.a

moved : (k : ℕ) → suc k + 1 ≡ suc (k + 1)
moved k = omega arith

sorted_rise : (ls : List Leaf) → IsSortedByKey beginning int_cmp ls → Rise ls
sorted_rise [] h = tt
sorted_rise (y ∷ []) h = (tt, tt)
sorted_rise (y ∷ z ∷ zs) h =
    let first : y.node.a ≤ℤ z.node.a = no_earlier z.node.a y.node.a (h 0 y (omega arith) (omega arith)) in
    let later : Rise (z ∷ zs) = sorted_rise (z ∷ zs) (λ k d p q. subst (λ (j : ℕ). is_lt (int_cmp (slice_index_or (y ∷ z ∷ zs) j d).node.a (slice_index_or (z ∷ zs) k d).node.a) ≡ false) (moved k) (h (suc k) d (omega arith) (omega (arith, q)))) in
    ((first, all_from y.node.a z.node.a zs first later.0), later)

pub sorted_is : (ls sorted : List Leaf) → IsSortedByKey beginning int_cmp sorted → IsStableByKey beginning int_cmp ls sorted → sorted ≡ in_order ls
sorted_is ls sorted up stable =
    one_order sorted (in_order ls) (sorted_rise sorted up) (order_rises ls) (λ x. stable x ∙ sym (order_keeps x ls))
