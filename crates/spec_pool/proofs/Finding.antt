-- An element that is among others, and lists that weigh the same by every function.
use Rattle.std.proofs.Common.{◌≡◌, ℕ, ◌<◌, ◌==◌, ◌&&◌, Bool, true, false, if◌then◌else◌, ℤ, ◌-ℤ◌, List, [], ◌∷◌, ◌++◌, refl, sym, ap, subst, sum_by, IsPermutation, arith}
use Rattle.std.specs.Int.RustNames.{unsigned_abs}
use Rattle.std.proofs.lemmas.Int.{ints}
use Rattle.std.proofs.lemmas.Bool.{and_from, and_parts}
use Rattle.std.proofs.lemmas.Bool.Decides.{nat_tests}
use Rattle.std.proofs.lemmas.List.Sorted.{IsPermutation-refl, IsPermutation-sym, IsPermutation-cons, IsPermutation-trans, IsPermutation-middle}
use Rattle.spec_trees.specs.declared.tree.Node.{Node}
use Rattle.spec_trees.specs.declared.tree.Leaf.{Leaf}
use Rattle.spec_trees.specs.declared.tree.Mark.{Mark}
use Rattle.spec_trees.specs.declared.tree.Mark.TheVariants.{Clear, One, Undecided}
use Rattle.spec_trees.specs.declared.tree.Turn.TheVariants.{Rise, Fall}
use Rattle.spec_pool.specs.Marks.{mark_number}
use Rattle.spec_pool.proofs.Weights.{weigh, weigh-append, sum_is_weigh}

-- ---- any test of sameness
module _ {A : Type 0} (same : A → A → Bool) (is : (x y : A) → same x y ≡ true → x ≡ y) (itself : (x : A) → same x x ≡ true) where
  abbrev is_one : A → A → ℕ
  is_one x y = if same x y then 1 else 0

  Splits : A → List A → Type 0
  Splits x ys = (before : List A) × (after : List A) × (ys ≡ before ++ x ∷ after)

  find_by : (x y : A) (ys : List A) (b : Bool) → same x y ≡ b → (is_one x y ≡ 0 → Splits x ys) → Splits x (y ∷ ys)
  unfolding Splits
  find_by x y ys true e below = ([], ys, ap (λ (z : A). z ∷ ys) (sym (is x y e)))
  find_by x y ys false e below =
      let r = below (ap (λ (b : Bool). if b then 1 else 0) e) in (y ∷ r.0, r.1, ap (λ (l : List A). y ∷ l) r.2)

  find_in : (x : A) (ys : List A) → 0 < weigh (is_one x) ys → Splits x ys
  find_in x [] p = absurd (omega arith)
  find_in x (y ∷ ys) p = find_by x y ys (same x y) refl (λ (z : is_one x y ≡ 0). find_in x ys (omega arith))

  is_one_itself : (x : A) → is_one x x ≡ 1
  is_one_itself x = ap (λ (b : Bool). if b then 1 else 0) (itself x)

  permuted : (xs ys : List A) → ((h : A → ℕ) → weigh h xs ≡ weigh h ys) → IsPermutation xs ys
  unfolding Splits
  permuted [] [] e = IsPermutation-refl []
  permuted [] (y ∷ ys) e = absurd (let one = e (λ _. 1) in omega arith)
  permuted (x ∷ xs) ys e =
      let f = find_in x ys (omega (arith, e (is_one x), is_one_itself x)) in
      let rest : IsPermutation xs (f.0 ++ f.1) = permuted xs (f.0 ++ f.1) (λ h. omega (arith, e h, ap (weigh h) f.2, weigh-append h f.0 (x ∷ f.1), weigh-append h f.0 f.1)) in
      let moved : IsPermutation (x ∷ (f.0 ++ f.1)) (f.0 ++ x ∷ f.1) = IsPermutation-sym (f.0 ++ x ∷ f.1) (x ∷ (f.0 ++ f.1)) (IsPermutation-middle f.0 x f.1) in
      subst (λ (l : List A). IsPermutation (x ∷ xs) l) (sym f.2)
      (IsPermutation-trans (x ∷ xs) (x ∷ (f.0 ++ f.1)) (f.0 ++ x ∷ f.1) (IsPermutation-cons x xs (f.0 ++ f.1) rest) moved)

-- ---- nodes
abbrev same_node : Node → Node → Bool
same_node n m = ((unsigned_abs (n.a -ℤ m.a) == 0) && (unsigned_abs (n.b -ℤ m.b) == 0)) && (n.depth == m.depth)

same_ends : (x y : ℤ) → (unsigned_abs (x -ℤ y) == 0) ≡ true → x ≡ y
same_ends x y e = let z : unsigned_abs (x -ℤ y) ≡ 0 = grind (arith, nat_tests) in omega (arith, ints)

node_is : (n m : Node) → same_node n m ≡ true → n ≡ m
node_is n m e =
    let p = and_parts ((unsigned_abs (n.a -ℤ m.a) == 0) && (unsigned_abs (n.b -ℤ m.b) == 0)) (n.depth == m.depth) e in
    let q = and_parts (unsigned_abs (n.a -ℤ m.a) == 0) (unsigned_abs (n.b -ℤ m.b) == 0) p.0 in
    let a : n.a ≡ m.a = same_ends n.a m.a q.0 in
    let b : n.b ≡ m.b = same_ends n.b m.b q.1 in
    let d : n.depth ≡ m.depth = grind (arith, nat_tests, p.1) in
    λ i. record { a = a i; b = b i; depth = d i }

node_itself : (n : Node) → same_node n n ≡ true
node_itself n = grind (arith, ints, nat_tests)

-- 1 for the node itself, 0 for any other
abbrev pub is_node : Node → Node → ℕ
is_node n m = if same_node n m then 1 else 0

pub is_itself : (n : Node) → is_node n n ≡ 1
is_itself n = is_one_itself same_node node_is node_itself n

pub find : (n : Node) (ns : List Node) → 0 < weigh (is_node n) ns → (before : List Node) × (after : List Node) × (ns ≡ before ++ n ∷ after)
unfolding Splits
find n ns p = find_in same_node node_is node_itself n ns p

pub nodes_permuted : (xs ys : List Node) → ((h : Node → ℕ) → weigh h xs ≡ weigh h ys) → IsPermutation xs ys
nodes_permuted xs ys e = permuted same_node node_is node_itself xs ys e

pub nodes_summed : (xs ys : List Node) → ((h : Node → ℕ) → sum_by h xs ≡ sum_by h ys) → IsPermutation xs ys
nodes_summed xs ys e = nodes_permuted xs ys (λ h. omega (arith, e h, sum_is_weigh h xs, sum_is_weigh h ys))

-- ---- leaves
pub mark_is : (m n : Mark) → mark_number m ≡ mark_number n → m ≡ n
mark_is Clear Clear e = refl
mark_is Clear (One Rise) e = absurd (omega (arith, e))
mark_is Clear (One Fall) e = absurd (omega (arith, e))
mark_is Clear Undecided e = absurd (omega (arith, e))
mark_is (One Rise) Clear e = absurd (omega (arith, e))
mark_is (One Rise) (One Rise) e = refl
mark_is (One Rise) (One Fall) e = absurd (omega (arith, e))
mark_is (One Rise) Undecided e = absurd (omega (arith, e))
mark_is (One Fall) Clear e = absurd (omega (arith, e))
mark_is (One Fall) (One Rise) e = absurd (omega (arith, e))
mark_is (One Fall) (One Fall) e = refl
mark_is (One Fall) Undecided e = absurd (omega (arith, e))
mark_is Undecided Clear e = absurd (omega (arith, e))
mark_is Undecided (One Rise) e = absurd (omega (arith, e))
mark_is Undecided (One Fall) e = absurd (omega (arith, e))
mark_is Undecided Undecided e = refl

abbrev same_leaf : Leaf → Leaf → Bool
same_leaf l m = same_node l.node m.node && (mark_number l.mark == mark_number m.mark)

leaf_is : (l m : Leaf) → same_leaf l m ≡ true → l ≡ m
leaf_is l m e =
    let p = and_parts (same_node l.node m.node) (mark_number l.mark == mark_number m.mark) e in
    let node : l.node ≡ m.node = node_is l.node m.node p.0 in
    let numbers : mark_number l.mark ≡ mark_number m.mark = grind (arith, nat_tests, p.1) in
    let mark : l.mark ≡ m.mark = mark_is l.mark m.mark numbers in
    λ i. record { node = node i; mark = mark i }

number_itself : (k : ℕ) → (k == k) ≡ true
number_itself k = grind (arith, nat_tests)

leaf_itself : (l : Leaf) → same_leaf l l ≡ true
leaf_itself l = and_from (same_node l.node l.node) (mark_number l.mark == mark_number l.mark) (node_itself l.node) (number_itself (mark_number l.mark))

pub leaves_permuted : (xs ys : List Leaf) → ((h : Leaf → ℕ) → weigh h xs ≡ weigh h ys) → IsPermutation xs ys
leaves_permuted xs ys e = permuted same_leaf leaf_is leaf_itself xs ys e
