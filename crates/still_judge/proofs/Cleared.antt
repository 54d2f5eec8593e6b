-- A node within a still span that is no wider than the span's widest is clear.
use Rattle.std.proofs.Common.{◌≡◌, ℕ, ◌<◌, ◌≤◌, true, ◌&&◌, nat_le, List, length, All, ℤ, ◌≤ℤ◌, sym, subst, arith}
use Rattle.std.proofs.Math.ListN.{get_or}
use Rattle.std.proofs.lemmas.Bool.{and_parts}
use Rattle.std.proofs.lemmas.Int.{ints}
use Rattle.std.specs.Prelude.{int_le}
use Rattle.spec_trees.specs.declared.tree.Node.{Node}
use Rattle.spec_trees.specs.declared.tree.Verdict.TheVariants.{Clear}
use Rattle.spec_trees.specs.Tree.{IsValid, width}
use Rattle.spec_searches.specs.Found.{rules}
use Rattle.spec_searches.specs.Search.{Search, verdict_of}
use Rattle.spec_bounds.specs.Steady.{sign_at}
use Rattle.spec_stills.specs.declared.still.StillSpan.{StillSpan}
use Rattle.spec_stills.specs.Still.{IsStill, lies_in}
use Rattle.still_judge.specs.Signs.{TellSigns}

pub no_later : (a b : ℤ) → int_le a b ≡ true → a ≤ℤ b
no_later a b e = grind (arith, ints, e)

no_more : (m n : ℕ) → nat_le m n ≡ true → m ≤ n
no_more m n e = grind (arith, e)

pub cleared : (s : Search) (xs : List StillSpan) (n : Node) (place : ℕ) (x : StillSpan) → place < length xs → ((d : StillSpan) → x ≡ get_or xs place d)
    → All (IsStill s) xs → IsValid (rules s) n → (lies_in x n && nat_le (width n) x.widest) ≡ true → verdict_of s n ≡ Clear
cleared s xs n place x within there still valid holds =
    let is : IsStill s x = subst (IsStill s) (sym (there x)) (still place x within) in
    let both = and_parts (lies_in x n) (nat_le (width n) x.widest) holds in
    let ends = and_parts (int_le x.from n.a) (int_le n.b x.upto) both.0 in
    is.clear n valid (no_later x.from n.a ends.0) (no_later n.b x.upto ends.1) (no_more (width n) x.widest both.1)

-- the signs that still spans of a search tell
pub signs_told : (s : Search) (xs : List StillSpan) → All (IsStill s) xs → TellSigns (sign_at s) xs
signs_told s xs still k d below = (still k d below).signs
