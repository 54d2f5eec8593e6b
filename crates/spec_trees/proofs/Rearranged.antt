-- Leaves that follow one another are the order of each list that has them in another order.
use Rattle.std.proofs.Common.{◌≡◌, ◌⊎◌, inl, inr, Bool, true, false, cond, List, [], ◌∷◌, length, All, ℤ, ◌<ℤ◌, arith, refl, sym, ap, ◌∙◌}
use Rattle.std.proofs.lemmas.Int.{ints}
use Rattle.std.proofs.lemmas.List.Elements.{All-nil, All-cons, All-head, All-tail}
use Rattle.std.proofs.lemmas.List.Sorted.{IsPermutation-sym, All-permutation, sum_by-IsPermutation}
use Rattle.std.proofs.lemmas.List.Sums.{length-filter}
use Rattle.std.specs.List.{filter}
use Rattle.std.specs.List.Sorted.{IsPermutation}
use Rattle.spec_trees.specs.declared.tree.Leaf.{Leaf}
use Rattle.spec_trees.specs.Tree.{Covers}
use Rattle.spec_trees.specs.Order.{in_order}
use Rattle.spec_trees.proofs.Ordering.{AllFrom, Rise, all_from, same, kept, kept_if, left_if, ties_equal, tie_apart, none_with, one_order, order_rises, order_keeps}

covers_from : (a b : ℤ) (ls : List Leaf) → Covers a ls b → AllFrom a ls
covers_from a b [] c = tt
covers_from a b (l ∷ ls) c =
    (omega (arith, ints, c.0), all_from a l.node.b ls (omega (arith, ints, c.0, c.1)) (covers_from l.node.b b ls c.2))

cover_rises : (a b : ℤ) (ls : List Leaf) → Covers a ls b → Rise ls
cover_rises a b [] c = tt
cover_rises a b (l ∷ ls) c =
    (all_from l.node.a l.node.b ls (omega (arith, ints, c.1)) (covers_from l.node.b b ls c.2), cover_rises l.node.b b ls c.2)

-- ---- at most one leaf of a cover begins with another leaf
abbrev IsOnly : Leaf → Leaf → Leaf → Type 0
IsOnly x l m = same x m ≡ true → m ≡ l

pub record HasOne (x : Leaf) (ls : List Leaf) : Type 0 where
  pub leaf : Leaf
  pub only : All (IsOnly x leaf) ls
  pub kept : filter (same x) ls ≡ leaf ∷ []

never : {P : Type 0} (b : Bool) → b ≡ false → b ≡ true → P
never b e f = absurd (cc)

none_only : (x l : Leaf) (a : ℤ) (ls : List Leaf) → x.node.a <ℤ a → AllFrom a ls → All (IsOnly x l) ls
none_only x l a [] h f = All-nil (IsOnly x l)
none_only x l a (m ∷ ms) h f =
    All-cons (IsOnly x l) m ms (never (same x m) (tie_apart x.node.a m.node.a (omega (arith, ints, h, f.0)))) (none_only x l a ms h f.1)

one_more : (x l : Leaf) (ls : List Leaf) (b : Bool) → same x l ≡ b → AllFrom l.node.b ls → l.node.a <ℤ l.node.b → (filter (same x) ls ≡ []) ⊎ HasOne x ls → (filter (same x) (l ∷ ls) ≡ []) ⊎ HasOne x (l ∷ ls)
one_more x l ls true e f h rest =
    let below : x.node.a <ℤ l.node.b = (let met = ties_equal x.node.a l.node.a e in omega (arith, ints, met, h)) in
    inr (record {
      leaf = l;
      only = All-cons (IsOnly x l) l ls (λ _. refl) (none_only x l l.node.b ls below f);
      kept = kept_if (same x l) l (filter (same x) ls) e ∙ ap (λ ms. l ∷ ms) (none_with x l.node.b ls below f);
    })
one_more x l ls false e f h (inl none) = inl (left_if (same x l) l (filter (same x) ls) e ∙ none)
one_more x l ls false e f h (inr one) = inr (record {
  leaf = one.leaf;
  only = All-cons (IsOnly x one.leaf) l ls (never (same x l) e) one.only;
  kept = left_if (same x l) l (filter (same x) ls) e ∙ one.kept;
})

none_or_one : (x : Leaf) (a b : ℤ) (ls : List Leaf) → Covers a ls b → (filter (same x) ls ≡ []) ⊎ HasOne x ls
none_or_one x a b [] c = inl refl
none_or_one x a b (l ∷ ls) c = one_more x l ls (same x l) refl (covers_from l.node.b b ls c.2) c.1 (none_or_one x l.node.b b ls c.2)

-- ---- the list in another order keeps the same
are_all_by : (x l m : Leaf) (ms : List Leaf) (b : Bool) → same x m ≡ b → IsOnly x l m → All (λ k. k ≡ l) ms → All (λ k. k ≡ l) (kept b m ms)
are_all_by x l m ms true e only rest = All-cons (λ k. k ≡ l) m ms (only e) rest
are_all_by x l m ms false e only rest = rest

are_all : (x l : Leaf) (ls : List Leaf) → All (IsOnly x l) ls → All (λ k. k ≡ l) (filter (same x) ls)
are_all x l [] h = All-nil (λ k. k ≡ l)
are_all x l (m ∷ ms) h = are_all_by x l m (filter (same x) ms) (same x m) refl (All-head (IsOnly x l) m ms h) (are_all x l ms (All-tail (IsOnly x l) m ms h))

is_nothing : (ls : List Leaf) → length ls ≡ 0 → ls ≡ []
is_nothing [] e = refl
is_nothing (l ∷ ls) e = absurd (omega (arith, e))

is_single : (l : Leaf) (ls : List Leaf) → length ls ≡ 1 → All (λ k. k ≡ l) ls → ls ≡ l ∷ []
is_single l [] e h = absurd (omega (arith, e))
is_single l (m ∷ []) e h = ap (λ k. k ∷ []) (All-head (λ k. k ≡ l) m [] h)
is_single l (m ∷ n ∷ ls) e h = absurd (omega (arith, e))

module _ (ls ordered : List Leaf) (perm : IsPermutation ls ordered) where
  as_many : (x : Leaf) → length (filter (same x) ls) ≡ length (filter (same x) ordered)
  as_many x =
      length-filter (same x) ls ∙ (sym (sum_by-IsPermutation (λ l. cond (same x l) 1 0) ls ordered perm) ∙ sym (length-filter (same x) ordered))

  keeps_by : (x : Leaf) → (filter (same x) ordered ≡ []) ⊎ HasOne x ordered → filter (same x) ls ≡ filter (same x) ordered
  keeps_by x (inl none) = is_nothing (filter (same x) ls) (as_many x ∙ ap length none) ∙ sym none
  keeps_by x (inr one) =
      is_single one.leaf (filter (same x) ls) (as_many x ∙ ap length one.kept)
      (are_all x one.leaf ls (All-permutation (IsOnly x one.leaf) ordered ls (IsPermutation-sym ls ordered perm) one.only))
      ∙ sym one.kept

pub rearranged_in_order : (a b : ℤ) (ls ordered : List Leaf) → IsPermutation ls ordered → Covers a ordered b → in_order ls ≡ ordered
rearranged_in_order a b ls ordered perm c =
    one_order (in_order ls) ordered (order_rises ls) (cover_rises a b ordered c) (λ x. order_keeps x ls ∙ keeps_by ls ordered perm x (none_or_one x a b ordered c))
