-- Lists of leaves that are walked alike: before any leaves and after any run they have the same windows.
use Rattle.std.proofs.Common.{◌≡◌, ◌<◌, List, [], ◌∷◌, ◌++◌, length, Option, Some, None, refl, sym, ap, ◌∙◌, append_assoc, append-nil, arith}
use Rattle.std.proofs.lemmas.List.Elements.{All-head, All-tail}
use Rattle.spec_trees.specs.declared.tree.Node.{Node}
use Rattle.spec_trees.specs.declared.tree.Leaf.{Leaf}
use Rattle.spec_trees.specs.declared.tree.Mark.{Mark}
use Rattle.spec_trees.specs.declared.tree.Mark.TheVariants as M
use Rattle.spec_trees.specs.declared.window.Holds.TheVariants as H
use Rattle.spec_trees.specs.declared.window.Window.{Window}
use Rattle.spec_trees.specs.Runs.{ended, joined, longer}
use Rattle.spec_trees.specs.Tree.{leaf_of}
use Rattle.spec_trees.specs.Windows.{window_of, windows}
use Rattle.spec_trees.proofs.Runs.{joined_are_windows}
use Rattle.spec_stills.specs.Still.{AreClear}

pub record AreAlike (xs ys : List Leaf) : Type 0 where
  pub alike : (run : Option Window) (rest : List Leaf) → joined run (xs ++ rest) ≡ joined run (ys ++ rest)

pub alike_itself : (xs : List Leaf) → AreAlike xs xs
alike_itself xs = record { alike = λ run rest. refl }

pub alike_back : (xs ys : List Leaf) → AreAlike xs ys → AreAlike ys xs
alike_back xs ys are = record { alike = λ run rest. sym (are.alike run rest) }

-- ---- clear leaves
-- the walk from left to right passes one
clear_step : (m : Mark) (run : Option Window) (n : Node) (ls : List Leaf) → m ≡ M.Clear → joined run (record { node = n; mark = m } ∷ ls) ≡ ended run (joined None ls)
clear_step M.Clear run n ls e = refl
clear_step (M.One turn) run n ls e = cc
clear_step M.Undecided run n ls e = cc

-- and any number of them
all_passed : (ls rest : List Leaf) → AreClear ls → joined None (ls ++ rest) ≡ joined None rest
all_passed [] rest clear = refl
all_passed (l ∷ ls) rest clear =
    clear_step l.mark None l.node (ls ++ rest) (All-head (λ (l : Leaf). l.mark ≡ M.Clear) l ls clear)
    ∙ all_passed ls rest (All-tail (λ (l : Leaf). l.mark ≡ M.Clear) l ls clear)

one_for_clear : (n : Node) (ls : List Leaf) → 0 < length ls → AreClear ls → (run : Option Window) (rest : List Leaf) → joined run ((leaf_of n M.Clear ∷ []) ++ rest) ≡ joined run (ls ++ rest)
one_for_clear n [] some clear run rest = absurd (omega (arith, some))
one_for_clear n (l ∷ ls) some clear run rest =
    sym (clear_step l.mark run l.node (ls ++ rest) (All-head (λ (l : Leaf). l.mark ≡ M.Clear) l ls clear)
    ∙ ap (ended run) (all_passed ls rest (All-tail (λ (l : Leaf). l.mark ≡ M.Clear) l ls clear)))

-- one of them is as good as any number
pub alike_clear : (n : Node) (ls : List Leaf) → 0 < length ls → AreClear ls → AreAlike (leaf_of n M.Clear ∷ []) ls
alike_clear n ls some clear = record { alike = one_for_clear n ls some clear }

-- ---- one step, before leaves that are walked alike
same_step : (m : Mark) (run : Option Window) (n : Node) (xs ys : List Leaf) → ((r : Option Window) → joined r xs ≡ joined r ys)
    → joined run (record { node = n; mark = m } ∷ xs) ≡ joined run (record { node = n; mark = m } ∷ ys)
same_step M.Clear run n xs ys same = ap (ended run) (same None)
same_step (M.One turn) run n xs ys same = ap (λ ws. ended run (window_of n (H.Certain turn) ∷ ws)) (same None)
same_step M.Undecided run n xs ys same = same (Some (longer run n))

same_after : (ls xs ys : List Leaf) → ((r : Option Window) → joined r xs ≡ joined r ys) → (run : Option Window) → joined run (ls ++ xs) ≡ joined run (ls ++ ys)
same_after [] xs ys same run = same run
same_after (l ∷ ls) xs ys same run = same_step l.mark run l.node (ls ++ xs) (ls ++ ys) (λ r. same_after ls xs ys same r)

pub both_alike : (xs ys us vs : List Leaf) → AreAlike xs us → AreAlike ys vs → AreAlike (xs ++ ys) (us ++ vs)
both_alike xs ys us vs left right = record {
  alike = λ run rest.
      ap (joined run) (append_assoc xs ys rest)
      ∙ left.alike run (ys ++ rest)
      ∙ same_after us (ys ++ rest) (vs ++ rest) (λ r. right.alike r rest) run
      ∙ sym (ap (joined run) (append_assoc us vs rest));
}

pub same_windows : (xs ys : List Leaf) → AreAlike xs ys → windows xs ≡ windows ys
same_windows xs ys are =
    sym (joined_are_windows xs)
    ∙ sym (ap (joined None) (append-nil xs))
    ∙ are.alike None []
    ∙ ap (joined None) (append-nil ys)
    ∙ joined_are_windows ys
