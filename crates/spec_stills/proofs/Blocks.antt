-- Blocks of clear leaves: some leaves, no more than so many, and each of them is clear.
use Rattle.std.proofs.Common.{◌≡◌, ℕ, ◌+◌, ◌<◌, ◌≤◌, List, [], ◌∷◌, ◌++◌, length, ℤ, pos, ◌-ℤ◌, ◌≤ℤ◌, unsigned_abs, refl, length-append, arith}
use Rattle.std.specs.Prelude.{min}
use Rattle.std.proofs.lemmas.Int.{ints}
use Rattle.std.proofs.lemmas.List.Elements.{All-append, All-cons, All-nil}
use Rattle.spec_trees.specs.declared.tree.Node.{Node}
use Rattle.spec_trees.specs.declared.tree.Leaf.{Leaf}
use Rattle.spec_trees.specs.declared.tree.Mark.TheVariants as M
use Rattle.spec_trees.specs.Tree.{Covers, leaf_of, width}
use Rattle.spec_stills.specs.Still.{AreClear}

pub record IsClearBlock (most : ℕ) (ls : List Leaf) : Type 0 where
  pub clear : AreClear ls
  pub some : 0 < length ls
  pub few : length ls ≤ most

pub one_clear : (most : ℕ) (n : Node) → 0 < most → IsClearBlock most (leaf_of n M.Clear ∷ [])
one_clear most n some = record {
  clear = All-cons (λ (l : Leaf). l.mark ≡ M.Clear) (leaf_of n M.Clear) [] refl (All-nil (λ (l : Leaf). l.mark ≡ M.Clear));
  some = omega arith;
  few = omega (arith, some);
}

pub both_clear : (m k : ℕ) (ls ms : List Leaf) → IsClearBlock m ls → IsClearBlock k ms → IsClearBlock (m + k) (ls ++ ms)
both_clear m k ls ms left right =
    let total = length-append ls ms in
    let some = left.some in
    let left_few = left.few in
    let right_few = right.few in
    record {
      clear = All-append (λ (l : Leaf). l.mark ≡ M.Clear) ls ms left.clear right.clear;
      some = omega (arith, total, some);
      few = omega (arith, total, left_few, right_few);
    }

-- ---- leaves that follow one another have a unit each
units_between : (ls : List Leaf) (a b : ℤ) → Covers a ls b → pos (length ls) ≤ℤ (b -ℤ a)
units_between [] a b cover = omega (arith, ints, cover)
units_between (l ∷ ls) a b cover =
    let begins = cover.0 in
    let some = cover.1 in
    let rest = units_between ls l.node.b b cover.2 in
    omega (arith, ints, begins, some, rest)

few_between : (a b : ℤ) (count : ℕ) → pos count ≤ℤ (b -ℤ a) → count ≤ unsigned_abs (b -ℤ a)
few_between a b count few = omega (arith, ints, few)

lesser : (m w k : ℕ) → k ≤ m → k ≤ w → k ≤ min m w
lesser m w k below also = omega (arith, below, also)

-- so a block that covers a node has no more leaves than the node has units
pub block_within : (most : ℕ) (n : Node) (ls : List Leaf) → IsClearBlock most ls → Covers n.a ls n.b → IsClearBlock (min most (width n)) ls
block_within most n ls block cover = record {
  clear = block.clear;
  some = block.some;
  few = lesser most (width n) (length ls) block.few (few_between n.a n.b (length ls) (units_between ls n.a n.b cover));
}
