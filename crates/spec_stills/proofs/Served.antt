-- A node that still spans serve: its leaves are clear, and no more than the first span that serves it allows.
use Rattle.std.proofs.Common.{◌≡◌, All, List, [], ◌∷◌, Bool, true, false, Some, refl, sym, subst, cond, ◌||◌}
use Rattle.std.proofs.lemmas.Bool.{false≢true}
use Rattle.std.proofs.lemmas.List.Elements.{All-head, All-tail}
use Rattle.spec_trees.specs.declared.tree.Node.{Node}
use Rattle.spec_trees.specs.Tree.{IsValid, leaves}
use Rattle.spec_searches.specs.Found.{rules}
use Rattle.spec_searches.specs.Search.{Search, IsSearch}
use Rattle.spec_stills.specs.declared.still.StillSpan.{StillSpan}
use Rattle.spec_stills.specs.Still.{IsStill, is_served, serves}
use Rattle.spec_stills.specs.Weights.{first_serving, weight_by}
use Rattle.spec_stills.proofs.Blocks.{IsClearBlock}
use Rattle.spec_stills.proofs.Halvings.{served_is_clear}

pub second : (p q : Bool) → p ≡ false → (p || q) ≡ true → q ≡ true
second true q e either = cc
second false q e either = either

pub served_block : (s : Search) (n : Node) → IsSearch s → IsValid (rules s) n → (xs : List StillSpan) → All (IsStill s) xs → is_served s xs n ≡ true
    → IsClearBlock (weight_by (first_serving s xs n) n) (leaves (rules s) n)
served_block s n is valid [] stills e = absurd (false≢true e)
served_block s n is valid (x ∷ xs) stills e =
    by (serves s x n) refl (served_block s n is valid xs (All-tail (IsStill s) x xs stills))
  where
    chosen_by : Bool → Type 0
    chosen_by b = IsClearBlock (weight_by (cond b (Some x) (first_serving s xs n)) n) (leaves (rules s) n)

    by : (b : Bool) → serves s x n ≡ b → (is_served s xs n ≡ true → IsClearBlock (weight_by (first_serving s xs n) n) (leaves (rules s) n)) → chosen_by (serves s x n)
    by true here later = subst chosen_by (sym here) (served_is_clear s x n is (All-head (IsStill s) x xs stills) valid here)
    by false here later = subst chosen_by (sym here) (later (second (serves s x n) (is_served s xs n) here e))
