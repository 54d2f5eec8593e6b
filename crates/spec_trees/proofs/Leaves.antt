-- The two equations of `leaves`.
use Rattle.std.proofs.Common.{◌≡◌, ℕ, zero, suc, ◌+◌, ◌<◌, ◌≤◌, [], ◌∷◌, ◌++◌, refl, sym, ap, ◌∙◌, Option, Some, None, arith}
use Rattle.std.proofs.lemmas.Int.{ints}
use Rattle.spec_trees.specs.declared.tree.Node.{Node}
use Rattle.spec_trees.specs.declared.tree.Mark.{Mark}
use Rattle.spec_trees.specs.declared.tree.Verdict.{Verdict}
use Rattle.spec_trees.specs.declared.tree.Verdict.TheVariants as V
use Rattle.spec_trees.specs.Tree.{Rules, IsValid, IsSound, IsCut, mark_of, width, leaf_of, leaves_within, leaves}

pub some_width : (t : Rules) (n : Node) → IsValid t n → 0 < width n
some_width t n v = omega (arith, ints, v.inside)

pub parts_width : (t : Rules) (n : Node) → IsCut t n → width (t.parts n).0 + width (t.parts n).1 ≡ width n
parts_width t n c = omega (arith, ints, c.cuts.from, c.cuts.meet, c.cuts.to, c.left.inside, c.right.inside)

pub no_mark : (v : Verdict) → mark_of v ≡ None → v ≡ V.Split
no_mark V.Clear e = cc
no_mark (V.One turn) e = cc
no_mark V.Split e = refl
no_mark V.Undecided e = cc

-- one step down
unfold_leaf : (t : Rules) (k : ℕ) (n : Node) (m : Mark) → mark_of (t.verdict n) ≡ Some m → leaves_within t (suc k) n ≡ leaf_of n m ∷ []
unfolding leaves_within
unfold_leaf t k n m e = rw (e, leaves_within) refl

unfold_split : (t : Rules) (k : ℕ) (n : Node) → mark_of (t.verdict n) ≡ None → leaves_within t (suc k) n ≡ leaves_within t k (t.parts n).0 ++ leaves_within t k (t.parts n).1
unfolding leaves_within
unfold_split t k n e = rw (e, leaves_within) refl

within_by : (t : Rules) → IsSound t → (k j : ℕ) (n : Node) → IsValid t n → width n ≤ suc k → width n ≤ suc j → (m : Option Mark) → mark_of (t.verdict n) ≡ m
    → ((i : Node) → IsValid t i → width i ≤ k → width i ≤ j → leaves_within t k i ≡ leaves_within t j i)
    → leaves_within t (suc k) n ≡ leaves_within t (suc j) n
within_by t s k j n v a b (Some m) e below = unfold_leaf t k n m e ∙ sym (unfold_leaf t j n m e)
within_by t s k j n v a b None e below =
    let c = s.cut n v (no_mark (t.verdict n) e) in
    let w = parts_width t n c in
    let l = some_width t (t.parts n).0 c.left in
    let r = some_width t (t.parts n).1 c.right in
    let left = below (t.parts n).0 c.left (omega arith) (omega arith) in
    let right = below (t.parts n).1 c.right (omega arith) (omega arith) in
    unfold_split t k n e ∙ (ap (λ x. x ++ leaves_within t k (t.parts n).1) left ∙ ap (λ x. leaves_within t j (t.parts n).0 ++ x) right) ∙ sym (unfold_split t j n e)

-- any bound that is wide enough serves
within : (t : Rules) → IsSound t → (k j : ℕ) (n : Node) → IsValid t n → width n ≤ k → width n ≤ j → leaves_within t k n ≡ leaves_within t j n
within t s zero j n v a b = absurd (omega (arith, some_width t n v))
within t s (suc k) zero n v a b = absurd (omega (arith, some_width t n v))
within t s (suc k) (suc j) n v a b = within_by t s k j n v a b (mark_of (t.verdict n)) refl (within t s k j)

within_width : (t : Rules) → IsSound t → (k : ℕ) (n : Node) → IsValid t n → width n ≤ k → leaves_within t k n ≡ leaves t n
unfolding leaves
within_width t s k n v a = within t s k (width n) n v a (omega arith)

-- `leaves` by one more than the width
leaves_more : (t : Rules) → IsSound t → (n : Node) → IsValid t n → leaves t n ≡ leaves_within t (suc (width n)) n
leaves_more t s n v = sym (within_width t s (suc (width n)) n v (omega arith))

pub leaves_settled : (t : Rules) → IsSound t → (n : Node) → IsValid t n → (m : Mark) → mark_of (t.verdict n) ≡ Some m → leaves t n ≡ leaf_of n m ∷ []
leaves_settled t s n v m e = leaves_more t s n v ∙ unfold_leaf t (width n) n m e

pub leaves_split : (t : Rules) → IsSound t → (n : Node) → IsValid t n → t.verdict n ≡ V.Split → leaves t n ≡ leaves t (t.parts n).0 ++ leaves t (t.parts n).1
leaves_split t s n v e =
    let c = s.cut n v e in
    let w = parts_width t n c in
    let l = some_width t (t.parts n).0 c.left in
    let r = some_width t (t.parts n).1 c.right in
    let left = within_width t s (width n) (t.parts n).0 c.left (omega arith) in
    let right = within_width t s (width n) (t.parts n).1 c.right (omega arith) in
    leaves_more t s n v ∙ unfold_split t (width n) n (ap mark_of e) ∙ (ap (λ x. x ++ leaves_within t (width n) (t.parts n).1) left ∙ ap (λ x. leaves t (t.parts n).0 ++ x) right)
