-- Which leaves clear a node: none that begins after it, and none that ends before it.
use Rattle.std.proofs.Common.{◌≡◌, ◌<◌, length, Bool, true, false, ◌&&◌, ◌||◌, List, [], ◌∷◌, ◌++◌, All, ℤ, ◌≤ℤ◌, ◌<ℤ◌, int_le, refl, ◌∙◌, arith}
use Rattle.std.specs.List.{list_any}
use Rattle.std.specs.Prelude.{map}
use Rattle.std.proofs.lemmas.Int.{ints}
use Rattle.std.proofs.lemmas.List.Elements.{All-cons, All-head, All-nil, All-tail, All-weaker}
use Rattle.std.proofs.lemmas.List.Folds.{list_any-append, list_any_none}
use Rattle.spec_trees.specs.declared.tree.Leaf.{Leaf}
use Rattle.spec_trees.specs.declared.tree.Mark.TheVariants as M
use Rattle.spec_trees.specs.declared.tree.Node.{Node}
use Rattle.spec_trees.specs.Tree.{Covers, leaf_of}
use Rattle.spec_trees.proofs.Placing.{covers_forward}
use Rattle.spec_stills.specs.Settled.{clears, is_clear_mark}
use Rattle.spec_stills.proofs.Halvings.{not_one}

-- ---- leaves between two times
pub record IsBetween (a b : ℤ) (l : Leaf) : Type 0 where
  pub from : a ≤ℤ l.node.a
  pub inside : l.node.a <ℤ l.node.b
  pub upto : l.node.b ≤ℤ b

later_between : (a c b : ℤ) (l : Leaf) → a ≤ℤ c → IsBetween c b l → IsBetween a b l
later_between a c b l later between =
    let from = between.from in
    record { from = omega (arith, ints, later, from); inside = between.inside; upto = between.upto }

pub all_between : (ls : List Leaf) (a b : ℤ) → Covers a ls b → All (IsBetween a b) ls
all_between [] a b cover = All-nil (IsBetween a b)
all_between (l ∷ ls) a b cover =
    let begins = cover.0 in
    let some = cover.1 in
    let upto = covers_forward ls l.node.b b cover.2 in
    All-cons (IsBetween a b) l ls
    (record { from = omega (arith, ints, begins); inside = some; upto = upto })
    (All-weaker (IsBetween l.node.b b) (IsBetween a b) (λ m. later_between a l.node.b b m (omega (arith, ints, begins, some))) ls (all_between ls l.node.b b cover.2))

pub some_leaves : (ls : List Leaf) (n : Node) → n.a <ℤ n.b → Covers n.a ls n.b → 0 < length ls
some_leaves [] n inside cover = absurd (omega (arith, ints, inside, cover))
some_leaves (l ∷ ls) n inside cover = omega arith

-- ---- tests of three parts
third_fails : (p q r : Bool) → r ≡ false → (p && (q && r)) ≡ false
third_fails p q r e = grind arith

or_none : (p q : Bool) → q ≡ false → (p || q) ≡ p
or_none p q e = grind arith

none_or : (p q : Bool) → p ≡ false → (p || q) ≡ q
none_or p q e = grind arith

-- ---- nodes beside leaves
module _ (n : Node) (inside : n.a <ℤ n.b) where
  later_clears_not : (l : Leaf) → n.a <ℤ l.node.a → clears n l ≡ false
  later_clears_not l after =
      not_one (is_clear_mark l.mark) (int_le l.node.a n.a) (int_le n.b l.node.b) (grind (arith, ints, after))

  earlier_clears_not : (l : Leaf) → l.node.b ≤ℤ n.a → clears n l ≡ false
  earlier_clears_not l before =
      third_fails (is_clear_mark l.mark) (int_le l.node.a n.a) (int_le n.b l.node.b) (grind (arith, ints, inside, before))

  -- the leaves of the part that the node lies in tell
  pub cleared_left : (xs ys : List Leaf) (c b : ℤ) → Covers c ys b → n.a <ℤ c → list_any (clears n) (xs ++ ys) ≡ list_any (clears n) xs
  cleared_left xs ys c b cover before =
      list_any-append (clears n) xs ys
      ∙ or_none (list_any (clears n) xs) (list_any (clears n) ys)
      (list_any_none (clears n) ys (All-weaker (IsBetween c b) (λ l. clears n l ≡ false)
      (λ l between. let from = between.from in later_clears_not l (omega (arith, ints, before, from))) ys (all_between ys c b cover)))

  pub cleared_right : (xs ys : List Leaf) (a c : ℤ) → Covers a xs c → c ≤ℤ n.a → list_any (clears n) (xs ++ ys) ≡ list_any (clears n) ys
  cleared_right xs ys a c cover after =
      list_any-append (clears n) xs ys
      ∙ none_or (list_any (clears n) xs) (list_any (clears n) ys)
      (list_any_none (clears n) xs (All-weaker (IsBetween a c) (λ l. clears n l ≡ false)
      (λ l between. let upto = between.upto in earlier_clears_not l (omega (arith, ints, after, upto))) xs (all_between xs a c cover)))

-- a clear leaf alone clears what lies in it
pub cleared_by_one : (m n : Node) → m.a ≤ℤ n.a → n.b ≤ℤ m.b → list_any (clears n) (leaf_of m M.Clear ∷ []) ≡ true
cleared_by_one m n from upto = by (int_le m.a n.a) (int_le n.b m.b) (grind (arith, ints, from)) (grind (arith, ints, upto))
  where
    by : (p q : Bool) → p ≡ true → q ≡ true → ((true && (p && q)) || false) ≡ true
    by p q e f = rw (e, f) refl

-- ---- maps that agree at each leaf
pub same_map : (P : Leaf → Type 0) (f g : Leaf → Leaf) (ls : List Leaf) → All P ls → ((l : Leaf) → P l → f l ≡ g l) → map f ls ≡ map g ls
same_map P f g [] all same = refl
same_map P f g (l ∷ ls) all same =
    let first = same l (All-head P l ls all) in
    let rest = same_map P f g ls (All-tail P l ls all) same in
    λ i. first i ∷ rest i
