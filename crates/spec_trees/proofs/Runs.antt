-- The windows from left to right, with a run of undecided leaves kept open, are those of the definition.
use Rattle.std.proofs.Common.{◌≡◌, List, [], ◌∷◌, Option, Some, None, Bool, true, false, pos, ◌+ℤ◌, if◌then◌else◌, refl, ap, ◌∙◌}
use Rattle.spec_trees.specs.declared.tree.Node.{Node}
use Rattle.spec_trees.specs.declared.tree.Leaf.{Leaf}
use Rattle.spec_trees.specs.declared.tree.Mark.{Mark}
use Rattle.spec_trees.specs.declared.tree.Mark.TheVariants as M
use Rattle.spec_trees.specs.declared.window.Holds.TheVariants as H
use Rattle.spec_trees.specs.declared.window.Window.{Window}
use Rattle.spec_trees.specs.Windows.{window_of, begin_undecided, widened, windows}
use Rattle.spec_trees.specs.Runs.{longer, ended, joined}

-- the windows of a run and what follows it: an undecided leaf goes on with it
abbrev after_run : Option Window → Bool → List Window → List Window
after_run None b ws = ws
after_run (Some w) true ws = widened w.first ws
after_run (Some w) false ws = w ∷ ws

-- a window that is widened twice begins where the second says
goes_on : (run : Option Window) (n : Node) (b : Bool) (ws : List Window) → after_run (Some (longer run n)) b ws ≡ after_run run true (if b then widened (n.a +ℤ pos 1) ws else window_of n H.Undecided ∷ ws)
goes_on None n true ws = refl
goes_on None n false ws = refl
goes_on (Some w) n true [] = refl
goes_on (Some w) n true (v ∷ ws) = refl
goes_on (Some w) n false ws = refl

stops : (run : Option Window) (ws : List Window) → ended run ws ≡ after_run run false ws
stops None ws = refl
stops (Some w) ws = refl

step : (m : Mark) (run : Option Window) (n : Node) (ls : List Leaf) → ((r : Option Window) → joined r ls ≡ after_run r (begin_undecided ls) (windows ls))
    → joined run (record { node = n; mark = m } ∷ ls) ≡ after_run run (begin_undecided (record { node = n; mark = m } ∷ ls)) (windows (record { node = n; mark = m } ∷ ls))
step M.Clear run n ls rest = ap (ended run) (rest None) ∙ stops run (windows ls)
step (M.One turn) run n ls rest =
    ap (λ ws. ended run (window_of n (H.Certain turn) ∷ ws)) (rest None) ∙ stops run (window_of n (H.Certain turn) ∷ windows ls)
step M.Undecided run n ls rest = rest (Some (longer run n)) ∙ goes_on run n (begin_undecided ls) (windows ls)

joined_after : (run : Option Window) (ls : List Leaf) → joined run ls ≡ after_run run (begin_undecided ls) (windows ls)
joined_after None [] = refl
joined_after (Some w) [] = refl
joined_after run (l ∷ ls) = step l.mark run l.node ls (λ r. joined_after r ls)

pub joined_are_windows : (ls : List Leaf) → joined None ls ≡ windows ls
joined_are_windows ls = joined_after None ls
