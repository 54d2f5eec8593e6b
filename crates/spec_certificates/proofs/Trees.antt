-- Lines that name the leaves of a tree, in order, break no rule.
use Rattle.std.proofs.Common.{◌≡◌, ℕ, zero, suc, ◌+◌, ◌≤◌, true, List, [], ◌∷◌, ◌++◌, length, Option, None, Some, Result, Ok, ◌<ℤ◌, refl, sym, ap, ◌∙◌, subst, append_assoc, length-append, arith}
use Rattle.std.proofs.lemmas.Int.{ints}
use Rattle.spec_text.specs.Lines.{Numbered}
use Rattle.spec_trees.specs.declared.tree.Leaf.{Leaf}
use Rattle.spec_trees.specs.declared.tree.Mark.{Mark}
use Rattle.spec_trees.specs.declared.tree.Node.{Node}
use Rattle.spec_trees.specs.Tree.{Covers, IsCut, IsValid, leaf_of, leaves, mark_of, width}
use Rattle.spec_trees.proofs.Covering.{leaves_cover}
use Rattle.spec_trees.proofs.Leaves.{leaves_settled, leaves_split, no_mark, parts_width, some_width}
use Rattle.spec_trees.proofs.Placing.{covers_forward}
use Rattle.spec_certificates.specs.declared.entry.CertFault.{CertFault}
use Rattle.spec_certificates.specs.declared.entry.Entry.{Entry}
use Rattle.spec_certificates.specs.declared.entry.Entry.TheVariants as entry
use Rattle.spec_faults.specs.declared.numbers.TheConstants.{CERT_PLACE, CERT_MARK}
use Rattle.spec_certificates.specs.Checks.{◌>>=◌, after_entry, at_line, entry_at, holds_or, is_mark, leaf_at, leaves_from, or_broken, with_first}
use Rattle.spec_certificates.specs.Places.{Cutting, IsCutting, waiting_after}
use Rattle.spec_certificates.proofs.Binds.{fronted, fronted_one, fronted_twice, is_that_mark}
use Rattle.spec_certificates.proofs.Placing.{ends_later, placed_here, placed_in_parts, same_self}

-- these lines name these leaves, one each
abbrev pub NameLeaves : List Numbered → List Leaf → Type 0
NameLeaves [] [] = Unit {0}
NameLeaves [] (l ∷ ls) = ⊥
NameLeaves (line ∷ lines) [] = ⊥
NameLeaves (line ∷ lines) (l ∷ ls) = (entry_at line ≡ Ok (entry.Leaf l)) × NameLeaves lines ls

-- the lines of the first leaves and of the others
record AreParted (lines : List Numbered) (xs ys : List Leaf) : Type 0 where
  first : List Numbered
  second : List Numbered
  same : lines ≡ first ++ second
  first_are : NameLeaves first xs
  second_are : NameLeaves second ys

parted : (lines : List Numbered) (xs ys : List Leaf) → NameLeaves lines (xs ++ ys) → AreParted lines xs ys
parted lines [] ys names = record { first = []; second = lines; same = refl; first_are = tt; second_are = names }
parted [] (x ∷ xs) ys names = absurd names
parted (line ∷ lines) (x ∷ xs) ys names =
    let later = parted lines xs ys names.1 in
    record {
      first = line ∷ later.first;
      second = later.second;
      same = ap (λ (ls : List Numbered). line ∷ ls) later.same;
      first_are = (names.0, later.first_are);
      second_are = later.second_are;
    }

module _ (c : Cutting) (is : IsCutting c) (end : ℕ) where
  -- ---- one line
  says_leaf : (line : Numbered) (rest : List Numbered) (waiting : List Node) (count : ℕ) (l : Leaf)
      → entry_at line ≡ Ok (entry.Leaf l)
      → leaves_from c end waiting count (line ∷ rest) ≡ (leaf_at c line.number waiting l >>= λ later. with_first l (leaves_from c end later (count + 1) rest))
  unfolding leaves_from
  says_leaf line rest waiting count l e =
      ap (λ (said : Result Entry CertFault). said >>= after_entry c line.number waiting count (λ later. leaves_from c end later (count + 1) rest) rest) e

  right_mark : (n : Node) (m : Mark) → mark_of (c.rules.verdict n) ≡ Some m
      → is_mark (mark_of (c.rules.verdict n)) m ≡ true
  right_mark n m e = ap (λ (found : Option Mark). is_mark found m) e ∙ is_that_mark m

  stands : (line : ℕ) (n : Node) (rest : List Node) (m : Mark) → IsValid c.rules n
      → mark_of (c.rules.verdict n) ≡ Some m → leaf_at c line (n ∷ rest) (leaf_of n m) ≡ Ok rest
  stands line n rest m valid e =
      let place : or_broken (at_line line CERT_PLACE) (waiting_after c n rest n) ≡ Ok rest = ap (or_broken (at_line line CERT_PLACE)) (placed_here c is n valid rest n (same_self n)) in
      let mark : holds_or (at_line line CERT_MARK) (is_mark (mark_of (c.rules.verdict n)) m) ≡ Ok tt = ap (holds_or (at_line line CERT_MARK)) (right_mark n m e) in
      ap (λ (r : Result (List Node) CertFault). r >>= λ waiting. holds_or (at_line line CERT_MARK) (is_mark (mark_of (c.rules.verdict n)) m) >>= λ _. Ok waiting) place
      ∙ ap (λ (r : Result (Unit {0}) CertFault). r >>= λ _. Ok rest) mark

  -- a leaf that ends before a node does stands in its parts
  opens : (n : Node) (rest : List Node) → IsValid c.rules n → c.may n ≡ true
      → (line : Numbered) (lines : List Numbered) (count : ℕ) (l : Leaf) → entry_at line ≡ Ok (entry.Leaf l)
      → l.node.b <ℤ n.b
      → leaves_from c end (n ∷ rest) count (line ∷ lines) ≡ leaves_from c end ((c.rules.parts n).0 ∷ (c.rules.parts n).1 ∷ rest) count (line ∷ lines)
  opens n rest valid may line lines count l e before =
      let there = placed_in_parts c is n valid rest l.node (ends_later n l.node before) may in
      says_leaf line lines (n ∷ rest) count l e
      ∙ ap (λ (found : Option (List Node)).
      (or_broken (at_line line.number CERT_PLACE) found >>= λ waiting. holds_or (at_line line.number CERT_MARK) (is_mark (mark_of (c.rules.verdict l.node)) l.mark) >>= λ _. Ok waiting)
      >>= λ later. with_first l (leaves_from c end later (count + 1) lines)) there
      ∙ sym (says_leaf line lines ((c.rules.parts n).0 ∷ (c.rules.parts n).1 ∷ rest) count l e)

  -- ---- the lines of all leaves of a node
  abbrev IsTaken : Node → Type 0
  IsTaken n =
      (lines : List Numbered) (rest : List Node) (count : ℕ) (more : List Numbered) → NameLeaves lines (leaves c.rules n)
      → leaves_from c end (n ∷ rest) count (lines ++ more) ≡ fronted (leaves c.rules n) (leaves_from c end rest (count + length (leaves c.rules n)) more)

  -- the same, of leaves that are given
  abbrev Takes : Node → List Leaf → Type 0
  Takes n ls = (lines : List Numbered) (rest : List Node) (count : ℕ) (more : List Numbered) → NameLeaves lines ls
      → leaves_from c end (n ∷ rest) count (lines ++ more) ≡ fronted ls (leaves_from c end rest (count + length ls) more)

  one_leaf : (n : Node) (m : Mark) → IsValid c.rules n → mark_of (c.rules.verdict n) ≡ Some m
      → Takes n (leaf_of n m ∷ [])
  one_leaf n m valid e [] rest count more names = absurd names
  one_leaf n m valid e (line ∷ []) rest count more names =
      says_leaf line more (n ∷ rest) count (leaf_of n m) names.0
      ∙ ap (λ (r : Result (List Node) CertFault). r >>= λ later. with_first (leaf_of n m) (leaves_from c end later (count + 1) more)) (stands line.number n rest m valid e)
      ∙ fronted_one (leaf_of n m) (leaves_from c end rest (count + 1) more)
  one_leaf n m valid e (line ∷ other ∷ lines) rest count more names = absurd names.1

  -- the first line of the leaves of a left part opens the node
  opened : (n : Node) (rest : List Node) → IsValid c.rules n → c.may n ≡ true
      → (lines more : List Numbered) (ls : List Leaf) (count : ℕ)
      → Covers (c.rules.parts n).0.a ls (c.rules.parts n).0.b
      → NameLeaves lines ls → IsCut c.rules n
      → leaves_from c end (n ∷ rest) count (lines ++ more) ≡ leaves_from c end ((c.rules.parts n).0 ∷ (c.rules.parts n).1 ∷ rest) count (lines ++ more)
  opened n rest valid may [] more [] count cover names cut =
      let none : (c.rules.parts n).0.a ≡ (c.rules.parts n).0.b = cover in absurd (omega (arith, ints, none, cut.left.inside))
  opened n rest valid may [] more (l ∷ ls) count cover names cut = absurd names
  opened n rest valid may (line ∷ lines) more [] count cover names cut = absurd names
  opened n rest valid may (line ∷ lines) more (l ∷ ls) count cover names cut =
      let within = covers_forward ls l.node.b (c.rules.parts n).0.b cover.2 in
      let right = cut.right.inside in
      opens n rest valid may line (lines ++ more) count l names.0 (omega (arith, ints, within, cut.cuts.meet, cut.cuts.to, right))

  two_parts : (n : Node) → IsValid c.rules n → c.may n ≡ true → IsCut c.rules n → (xs ys : List Leaf)
      → Covers (c.rules.parts n).0.a xs (c.rules.parts n).0.b
      → Takes (c.rules.parts n).0 xs → Takes (c.rules.parts n).1 ys → Takes n (xs ++ ys)
  two_parts n valid may cut xs ys cover left right lines rest count more names =
      let parts = parted lines xs ys names in
      let same : lines ++ more ≡ parts.first ++ (parts.second ++ more) = ap (λ (ls : List Numbered). ls ++ more) parts.same ∙ append_assoc parts.first parts.second more in
      let sum : count + length xs + length ys ≡ count + length (xs ++ ys) = omega (arith, length-append xs ys) in
      ap (leaves_from c end (n ∷ rest) count) same
      ∙ opened n rest valid may parts.first (parts.second ++ more) xs count cover parts.first_are cut
      ∙ left parts.first ((c.rules.parts n).1 ∷ rest) count (parts.second ++ more) parts.first_are
      ∙ ap (fronted xs) (right parts.second rest (count + length xs) more parts.second_are)
      ∙ fronted_twice xs ys (leaves_from c end rest (count + length xs + length ys) more)
      ∙ ap (λ (k : ℕ). fronted (xs ++ ys) (leaves_from c end rest k more)) sum

  taken_by : (k : ℕ) (n : Node) → IsValid c.rules n → width n ≤ suc k → (found : Option Mark)
      → mark_of (c.rules.verdict n) ≡ found
      → ((i : Node) → IsValid c.rules i → width i ≤ k → IsTaken i) → IsTaken n
  taken_by k n valid w (Some m) e below =
      subst (Takes n) (sym (leaves_settled c.rules is.sound n valid m e)) (one_leaf n m valid e)
  taken_by k n valid w None e below =
      let split = no_mark (c.rules.verdict n) e in
      let cut = is.sound.cut n valid split in
      let sum = parts_width c.rules n cut in
      let l = some_width c.rules (c.rules.parts n).0 cut.left in
      let r = some_width c.rules (c.rules.parts n).1 cut.right in
      subst (Takes n) (sym (leaves_split c.rules is.sound n valid split))
      (two_parts n valid (is.split n split) cut (leaves c.rules (c.rules.parts n).0) (leaves c.rules (c.rules.parts n).1)
      (leaves_cover c.rules is.sound (c.rules.parts n).0 cut.left)
      (below (c.rules.parts n).0 cut.left (omega (arith, sum, r, w))) (below (c.rules.parts n).1 cut.right (omega (arith, sum, l, w))))

  taken_within : (k : ℕ) (n : Node) → IsValid c.rules n → width n ≤ k → IsTaken n
  taken_within zero n valid w = absurd (omega (arith, some_width c.rules n valid, w))
  taken_within (suc k) n valid w = taken_by k n valid w (mark_of (c.rules.verdict n)) refl (taken_within k)

  pub taken : (n : Node) → IsValid c.rules n → IsTaken n
  taken n valid = taken_within (width n) n valid (omega arith)
