-- A share that makes room for its two parts.
use Rattle.std.proofs.Common.{◌≡◌, ℕ, zero, suc, ◌+◌, ◌<◌, List, [], ◌∷◌, ◌++◌, length, take, drop, get_or, refl, sym, ap, ◌∙◌, append_assoc, arith}
use Rattle.std.specs.List.{insert, remove}
use Rattle.std.proofs.lemmas.List.Edits.{length-insert, length-remove}
use Rattle.std.proofs.lemmas.List.Elements.{All-append, All-cons, All-take, All-drop}
use Rattle.spec_trees.specs.declared.tree.Node.{Node}
use Rattle.spec_trees.specs.declared.tree.Verdict.{Verdict}
use Rattle.spec_trees.specs.declared.tree.Verdict.TheVariants as V
use Rattle.spec_trees.specs.Tree.{Rules, leaves}
use Rattle.halving.specs.declared.shares.Share.{Share}
use Rattle.halving.specs.Shares.{IsJudged, AreJudged, leaves_of, split_width_of}

-- the share at a place is taken out, and its right and its left part are put in
abbrev pub parted : List Share → ℕ → Share → Share → List Share
parted xs p left right = insert (insert (remove xs p) p right) p left

pub parted_leaves : (t : Rules) (xs : List Share) (p : ℕ) (x left right : Share) → p < length xs → x ≡ get_or xs p x
    → leaves t x.node ≡ leaves t left.node ++ leaves t right.node → leaves_of t (parted xs p left right) ≡ leaves_of t xs
parted_leaves t [] p x left right lt is cut = absurd (omega (arith, lt))
parted_leaves t (y ∷ ys) zero x left right lt is cut =
    sym (append_assoc (leaves t left.node) (leaves t right.node) (leaves_of t ys))
    ∙ ap (λ l. l ++ leaves_of t ys) (sym cut ∙ ap (λ s. leaves t s.node) is)
parted_leaves t (y ∷ ys) (suc p) x left right lt is cut =
    ap (λ l. leaves t y.node ++ l) (parted_leaves t ys p x left right (omega (arith, lt)) is cut)

insert_judged : (t : Rules) (xs : List Share) (p : ℕ) (s : Share) → AreJudged t xs → IsJudged t s → AreJudged t (insert xs p s)
insert_judged t xs p s all is =
    All-append (IsJudged t) (take p xs) (s ∷ drop p xs) (All-take (IsJudged t) p xs all)
    (All-cons (IsJudged t) s (drop p xs) is (All-drop (IsJudged t) p xs all))

pub parted_judged : (t : Rules) (xs : List Share) (p : ℕ) (left right : Share) → AreJudged t xs → IsJudged t left → IsJudged t right → AreJudged t (parted xs p left right)
parted_judged t xs p left right all l r =
    let others = All-append (IsJudged t) (take p xs) (drop (suc p) xs) (All-take (IsJudged t) p xs all) (All-drop (IsJudged t) (suc p) xs all) in
    insert_judged t (insert (remove xs p) p right) p left (insert_judged t (remove xs p) p right others r) l

pub parted_length : (xs : List Share) (p : ℕ) (left right : Share) → p < length xs → length (parted xs p left right) ≡ length xs + 1
parted_length xs p left right lt =
    let fewer = length-remove xs p lt in
    let first = length-insert (remove xs p) p right (omega (arith, fewer)) in
    omega (arith, fewer, first, length-insert (insert (remove xs p) p right) p left (omega (arith, fewer, first)))

-- it is to be split where its width counts
pub counts_split : (v : Verdict) (n : Node) → 0 < split_width_of v n → v ≡ V.Split
counts_split V.Clear n lt = absurd (omega (arith, lt))
counts_split (V.One turn) n lt = absurd (omega (arith, lt))
counts_split V.Split n lt = refl
counts_split V.Undecided n lt = absurd (omega (arith, lt))
