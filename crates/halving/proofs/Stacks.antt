-- A node more on the stack, and one less.
use Rattle.std.proofs.Common.{◌≡◌, ◌+◌, ◌*◌, ◌-◌, ◌<◌, List, [], ◌∷◌, ◌++◌, length, sym, ap, ◌∙◌, subst, Some, None, append_assoc, length-append, arith}
use Rattle.std.proofs.lemmas.List.{append-nil}
use Rattle.spec_trees.specs.declared.tree.Node.{Node}
use Rattle.spec_trees.specs.declared.tree.Leaf.{Leaf}
use Rattle.spec_trees.specs.declared.tree.Mark.{Mark}
use Rattle.spec_trees.specs.Tree.{mark_of, Rules, IsValid, IsSound, width, leaf_of, leaves}
use Rattle.halving.specs.Pending.{pending, AllValid, weight}
use Rattle.spec_trees.proofs.Leaves.{some_width, parts_width, no_mark, leaves_settled, leaves_split}

pub pending_push : (t : Rules) (ns : List Node) (n : Node) → pending t (ns ++ n ∷ []) ≡ leaves t n ++ pending t ns
pending_push t [] n = sym (append-nil (leaves t n))
pending_push t (x ∷ ns) n = ap (λ l. l ++ leaves t x) (pending_push t ns n) ∙ append_assoc (leaves t n) (pending t ns) (leaves t x)

valid_push : (t : Rules) (ns : List Node) (n : Node) → AllValid t ns → IsValid t n → AllValid t (ns ++ n ∷ [])
valid_push t [] n all v = (v, tt)
valid_push t (x ∷ ns) n all v = (all.0, valid_push t ns n all.1 v)

valid_pop : (t : Rules) (ns : List Node) (n : Node) → AllValid t (ns ++ n ∷ []) → AllValid t ns × IsValid t n
valid_pop t [] n all = (tt, all.0)
valid_pop t (x ∷ ns) n all = let r = valid_pop t ns n all.1 in ((all.0, r.0), r.1)

weight_push : (ns : List Node) (n : Node) → weight (ns ++ n ∷ []) ≡ weight ns + (2 * width n - 1)
weight_push [] n = omega arith
weight_push (x ∷ ns) n = omega (arith, weight_push ns n)

-- what the next node and the others are
pub popped : (t : Rules) (old ns : List Node) (n : Node) → old ≡ ns ++ n ∷ [] → AllValid t old → AllValid t ns × IsValid t n
popped t old ns n e all = valid_pop t ns n (subst (AllValid t) e all)

pub joined_pop : (t : Rules) (whole found : List Leaf) (old ns : List Node) (n : Node) → old ≡ ns ++ n ∷ [] → whole ≡ found ++ pending t old → whole ≡ found ++ (leaves t n ++ pending t ns)
joined_pop t whole found old ns n e h = h ∙ ap (λ l. found ++ l) (ap (pending t) e ∙ pending_push t ns n)

-- a node that is a leaf
pub settles : (t : Rules) → IsSound t → (whole found : List Leaf) (old ns : List Node) (n : Node) (m : Mark) → old ≡ ns ++ n ∷ [] → AllValid t old → mark_of (t.verdict n) ≡ Some m
    → whole ≡ found ++ pending t old → whole ≡ (found ++ leaf_of n m ∷ []) ++ pending t ns
settles t s whole found old ns n m e all is h =
    joined_pop t whole found old ns n e h
    ∙ (ap (λ l. found ++ (l ++ pending t ns)) (leaves_settled t s n (popped t old ns n e all).1 m is)
    ∙ sym (append_assoc found (leaf_of n m ∷ []) (pending t ns)))

pub settle_falls : (t : Rules) (old ns : List Node) (n : Node) → old ≡ ns ++ n ∷ [] → AllValid t old → weight ns < weight old
settle_falls t old ns n e all = omega (arith, ap weight e, weight_push ns n, some_width t n (popped t old ns n e all).1)

-- a leaf is met where as many as the limit are found
pub too_many : (t : Rules) → IsSound t → (whole found : List Leaf) (old ns : List Node) (n : Node) (m : Mark) → old ≡ ns ++ n ∷ [] → AllValid t old → mark_of (t.verdict n) ≡ Some m
    → whole ≡ found ++ pending t old → length found < length whole
too_many t s whole found old ns n m e all is h = omega (
  arith,
  ap length (settles t s whole found old ns n m e all is h),
  length-append (found ++ leaf_of n m ∷ []) (pending t ns),
  length-append found (leaf_of n m ∷ []),
)

-- a node that is split
pub splits : (t : Rules) → IsSound t → (whole found : List Leaf) (old ns : List Node) (n : Node) → old ≡ ns ++ n ∷ [] → AllValid t old → mark_of (t.verdict n) ≡ None
    → whole ≡ found ++ pending t old → whole ≡ found ++ pending t ((ns ++ (t.parts n).1 ∷ []) ++ (t.parts n).0 ∷ [])
splits t s whole found old ns n e all is h =
    let left = (t.parts n).0 in
    let right = (t.parts n).1 in
    let rest : pending t ((ns ++ right ∷ []) ++ left ∷ []) ≡ leaves t n ++ pending t ns =
    pending_push t (ns ++ right ∷ []) left
    ∙ (ap (λ l. leaves t left ++ l) (pending_push t ns right)
    ∙ (sym (append_assoc (leaves t left) (leaves t right) (pending t ns))
    ∙ ap (λ l. l ++ pending t ns) (sym (leaves_split t s n (popped t old ns n e all).1 (no_mark (t.verdict n) is))))) in
    joined_pop t whole found old ns n e h ∙ ap (λ l. found ++ l) (sym rest)

pub split_valid : (t : Rules) → IsSound t → (old ns : List Node) (n : Node) → old ≡ ns ++ n ∷ [] → AllValid t old → mark_of (t.verdict n) ≡ None
    → AllValid t ((ns ++ (t.parts n).1 ∷ []) ++ (t.parts n).0 ∷ [])
split_valid t s old ns n e all is =
    let p = popped t old ns n e all in
    let c = s.cut n p.1 (no_mark (t.verdict n) is) in
    valid_push t (ns ++ (t.parts n).1 ∷ []) (t.parts n).0 (valid_push t ns (t.parts n).1 p.0 c.right) c.left

pub split_falls : (t : Rules) → IsSound t → (old ns : List Node) (n : Node) → old ≡ ns ++ n ∷ [] → AllValid t old → mark_of (t.verdict n) ≡ None
    → weight ((ns ++ (t.parts n).1 ∷ []) ++ (t.parts n).0 ∷ []) < weight old
split_falls t s old ns n e all is =
    let p = popped t old ns n e all in
    let c = s.cut n p.1 (no_mark (t.verdict n) is) in
    omega (
      arith,
      ap weight e,
      weight_push ns n,
      weight_push ns (t.parts n).1,
      weight_push (ns ++ (t.parts n).1 ∷ []) (t.parts n).0,
      parts_width t n c,
      some_width t (t.parts n).0 c.left,
      some_width t (t.parts n).1 c.right,
    )

-- no node waits
pub all_found : (t : Rules) (whole found : List Leaf) (old : List Node) → length old ≡ 0 → whole ≡ found ++ pending t old → whole ≡ found
all_found t whole found [] e h = h ∙ append-nil found
all_found t whole found (n ∷ ns) e h = absurd (omega arith)
