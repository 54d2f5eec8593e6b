-- The place of a leaf among the nodes that wait.
use Rattle.std.proofs.Common.{◌≡◌, ℕ, zero, suc, ◌≤◌, ◌&&◌, ◌==◌, Bool, true, false, List, [], ◌∷◌, None, Some, ℤ, ◌<ℤ◌, refl, sym, ◌∙◌, subst, arith}
use Rattle.std.proofs.lemmas.Int.{ints}
use Rattle.std.specs.Ordering.{int_eq}
use Rattle.spec_trees.specs.declared.tree.Node.{Node}
use Rattle.spec_trees.specs.Tree.{Rules, IsValid, width}
use Rattle.spec_trees.proofs.Leaves.{parts_width, some_width}
use Rattle.spec_certificates.specs.Places.{Cutting, IsCutting, is_same, waiting_after, waiting_within}

-- ---- nodes that are the same
same_parts : (a b : ℤ) (c d : ℤ) (e f : ℕ) → (int_eq a b && (int_eq c d && (e == f))) ≡ true
    → (a ≡ b) × (c ≡ d) × (e ≡ f)
same_parts a b c d e f is = (grind (arith, ints), grind (arith, ints), grind (arith, ints))

pub same_node : (n m : Node) → is_same n m ≡ true → n ≡ m
same_node n m is =
    let same = same_parts n.a m.a n.b m.b n.depth m.depth is in
    λ i. record { a = same.0 i; b = same.1 i; depth = same.2 i }

self_parts : (a b : ℤ) (d : ℕ) → (int_eq a a && (int_eq b b && (d == d))) ≡ true
self_parts a b d = grind (arith, ints)

pub same_self : (n : Node) → is_same n n ≡ true
same_self n = self_parts n.a n.b n.depth

other_end : (a b c d : ℤ) (e f : ℕ) → c <ℤ d → (int_eq a b && (int_eq d c && (e == f))) ≡ false
other_end a b c d e f less = grind (arith, ints)

-- a node that ends later is another
pub ends_later : (n m : Node) → m.b <ℤ n.b → is_same n m ≡ false
ends_later n m less = other_end n.a m.a m.b n.b n.depth m.depth less

-- ---- one step
module _ (c : Cutting) (here : Node) (rest : List Node) (node : Node) where
  pub here_it_is : (k : ℕ) → is_same here node ≡ true → waiting_within c k here rest node ≡ Some rest
  unfolding waiting_within
  here_it_is zero same = rw (same, waiting_within) refl
  here_it_is (suc k) same = rw (same, waiting_within) refl

  pub nowhere : is_same here node ≡ false → waiting_within c 0 here rest node ≡ None
  unfolding waiting_within
  nowhere other = rw (other, waiting_within) refl

  pub cut_again : (k : ℕ) → is_same here node ≡ false → c.may here ≡ true
      → waiting_within c (suc k) here rest node ≡ waiting_within c k (c.rules.parts here).0 ((c.rules.parts here).1 ∷ rest) node
  unfolding waiting_within
  cut_again k other may = rw (other, may, waiting_within) refl

  pub not_cut : (k : ℕ) → is_same here node ≡ false → c.may here ≡ false
      → waiting_within c (suc k) here rest node ≡ None
  unfolding waiting_within
  not_cut k other may = rw (other, may, waiting_within) refl

-- ---- any bound on the width serves
enough_by : (c : Cutting) → IsCutting c → (k j : ℕ) (here : Node) (rest : List Node) (node : Node)
    → IsValid c.rules here → width here ≤ suc k → width here ≤ suc j
    → (same may : Bool) → is_same here node ≡ same → c.may here ≡ may
    → ((i : Node) (more : List Node) → IsValid c.rules i → width i ≤ k → width i ≤ j → waiting_within c k i more node ≡ waiting_within c j i more node)
    → waiting_within c (suc k) here rest node ≡ waiting_within c (suc j) here rest node
enough_by c is k j here rest node valid p q true may s m below =
    here_it_is c here rest node (suc k) s ∙ sym (here_it_is c here rest node (suc j) s)
enough_by c is k j here rest node valid p q false false s m below =
    not_cut c here rest node k s m ∙ sym (not_cut c here rest node j s m)
enough_by c is k j here rest node valid p q false true s m below =
    let cut = is.cut here valid m in
    let sum = parts_width c.rules here cut in
    let some = some_width c.rules (c.rules.parts here).1 cut.right in
    cut_again c here rest node k s m
    ∙ below (c.rules.parts here).0 ((c.rules.parts here).1 ∷ rest) cut.left (omega (arith, sum, some, p)) (omega (arith, sum, some, q))
    ∙ sym (cut_again c here rest node j s m)

pub enough : (c : Cutting) → IsCutting c → (node : Node) (k j : ℕ) (here : Node) (rest : List Node)
    → IsValid c.rules here → width here ≤ k → width here ≤ j
    → waiting_within c k here rest node ≡ waiting_within c j here rest node
enough c is node zero j here rest valid p q = absurd (omega (arith, some_width c.rules here valid, p))
enough c is node (suc k) zero here rest valid p q = absurd (omega (arith, some_width c.rules here valid, q))
enough c is node (suc k) (suc j) here rest valid p q =
    enough_by c is k j here rest node valid p q (is_same here node) (c.may here) refl refl (enough c is node k j)

-- ---- the equations of a place
module _ (c : Cutting) (is : IsCutting c) (here : Node) (valid : IsValid c.rules here) (rest : List Node) (node : Node) where
  pub placed_here : is_same here node ≡ true → waiting_after c here rest node ≡ Some rest
  unfolding waiting_after
  placed_here same = here_it_is c here rest node (width here) same

  one_more : waiting_within c (width here) here rest node ≡ waiting_within c (suc (width here)) here rest node
  one_more = enough c is node (width here) (suc (width here)) here rest valid (omega arith) (omega arith)

  pub placed_in_parts : is_same here node ≡ false → c.may here ≡ true
      → waiting_after c here rest node ≡ waiting_after c (c.rules.parts here).0 ((c.rules.parts here).1 ∷ rest) node
  unfolding waiting_after
  placed_in_parts other may =
      let cut = is.cut here valid may in
      let sum = parts_width c.rules here cut in
      one_more ∙ cut_again c here rest node (width here) other may
      ∙ enough c is node (width here) (width (c.rules.parts here).0) (c.rules.parts here).0 ((c.rules.parts here).1 ∷ rest) cut.left (omega (arith, sum)) (omega arith)

  pub not_placed : is_same here node ≡ false → c.may here ≡ false → waiting_after c here rest node ≡ None
  unfolding waiting_after
  not_placed other may = one_more ∙ not_cut c here rest node (width here) other may

-- ---- nodes that follow one another
-- each is valid, and begins where the one before it ends
abbrev pub Follow : Rules → ℤ → List Node → ℤ → Type 0
Follow t a [] b = a ≡ b
Follow t a (n ∷ ns) b = (n.a ≡ a) × IsValid t n × Follow t n.b ns b

-- a node that begins there is valid, and the others follow it
pub record IsPlaced (t : Rules) (a b : ℤ) (node : Node) (later : List Node) : Type 0 where
  pub from : node.a ≡ a
  pub valid : IsValid t node
  pub rest : Follow t node.b later b

-- the node that is looked for stands first
placed_at : (c : Cutting) (here : Node) (rest : List Node) (node : Node) (later : List Node) (a b : ℤ) → here.a ≡ a
    → IsValid c.rules here → Follow c.rules here.b rest b → is_same here node ≡ true → Some rest ≡ Some later → IsPlaced c.rules a b node later
placed_at c here rest node later a b from valid follow same one =
    let last : rest ≡ later = cc in
    let it = same_node here node same in
    record {
      from = subst (λ (n : Node). n.a ≡ a) it from;
      valid = subst (IsValid c.rules) it valid;
      rest =
          subst (λ (n : Node). Follow c.rules n.b later b) it (subst (λ (ns : List Node). Follow c.rules here.b ns b) last follow);
    }

placed_by : (c : Cutting) → IsCutting c
    → (k : ℕ) (here : Node) (rest : List Node) (node : Node) (later : List Node) (a b : ℤ) → here.a ≡ a
    → IsValid c.rules here → Follow c.rules here.b rest b
    → (same may : Bool) → is_same here node ≡ same → c.may here ≡ may
    → ((i : Node) (more : List Node) → i.a ≡ a → IsValid c.rules i → Follow c.rules i.b more b → waiting_within c k i more node ≡ Some later → IsPlaced c.rules a b node later)
    → waiting_within c (suc k) here rest node ≡ Some later → IsPlaced c.rules a b node later
placed_by c is k here rest node later a b from valid follow true may s m below e =
    placed_at c here rest node later a b from valid follow s (sym (here_it_is c here rest node (suc k) s) ∙ e)
placed_by c is k here rest node later a b from valid follow false false s m below e =
    let none : None ≡ Some later = sym (not_cut c here rest node k s m) ∙ e in absurd (cc)
placed_by c is k here rest node later a b from valid follow false true s m below e =
    let cut = is.cut here valid m in
    below (c.rules.parts here).0 ((c.rules.parts here).1 ∷ rest) (cut.cuts.from ∙ from) cut.left
    (sym cut.cuts.meet, cut.right, subst (λ (z : ℤ). Follow c.rules z rest b) (sym cut.cuts.to) follow)
    (sym (cut_again c here rest node k s m) ∙ e)

placed_last : (c : Cutting) (here : Node) (rest : List Node) (node : Node) (later : List Node) (a b : ℤ) → here.a ≡ a
    → IsValid c.rules here → Follow c.rules here.b rest b
    → (same : Bool) → is_same here node ≡ same → waiting_within c 0 here rest node ≡ Some later
    → IsPlaced c.rules a b node later
placed_last c here rest node later a b from valid follow true s e =
    placed_at c here rest node later a b from valid follow s (sym (here_it_is c here rest node 0 s) ∙ e)
placed_last c here rest node later a b from valid follow false s e =
    let none : None ≡ Some later = sym (nowhere c here rest node s) ∙ e in absurd (cc)

placed_within : (c : Cutting) → IsCutting c
    → (node : Node) (later : List Node) (a b : ℤ) (k : ℕ) (here : Node) (rest : List Node) → here.a ≡ a
    → IsValid c.rules here → Follow c.rules here.b rest b
    → waiting_within c k here rest node ≡ Some later → IsPlaced c.rules a b node later
placed_within c is node later a b zero here rest from valid follow e =
    placed_last c here rest node later a b from valid follow (is_same here node) refl e
placed_within c is node later a b (suc k) here rest from valid follow e =
    placed_by c is k here rest node later a b from valid follow (is_same here node) (c.may here) refl refl (placed_within c is node later a b k) e

pub placed : (c : Cutting) → IsCutting c
    → (here : Node) (rest : List Node) (node : Node) (later : List Node) (a b : ℤ) → Follow c.rules a (here ∷ rest) b
    → waiting_after c here rest node ≡ Some later → IsPlaced c.rules a b node later
unfolding waiting_after
placed c is here rest node later a b follow e =
    placed_within c is node later a b (width here) here rest follow.0 follow.1 follow.2 e
