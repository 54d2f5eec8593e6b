-- The trees that a judge by still spans walks are sound, and their nodes are those of the search.
use Rattle.std.proofs.Common.{◌≡◌, List, Option, None, Some, true, refl}
use Rattle.std.specs.Prelude.{IfNone}
use Rattle.spec_trees.specs.declared.tree.Node.{Node}
use Rattle.spec_trees.specs.declared.tree.Verdict.TheVariants as V
use Rattle.spec_trees.specs.Tree.{IsSound, IsValid}
use Rattle.spec_searches.specs.Found.{rules}
use Rattle.spec_searches.specs.Search.{IsSearch, Search, may_be_cut, parts}
use Rattle.spec_searches.proofs.Parts.{rules_are_sound, split_may}
use Rattle.spec_stills.specs.declared.still.StillSpan.{StillSpan}
use Rattle.spec_stills.proofs.ServedTrees.{served_sound, served_split, valid_whole}
use Rattle.spec_stills.proofs.Sound.{eager_may, eager_sound, valid_fine}
use Rattle.still_judge.specs.declared.manner.Manner.{Manner}
use Rattle.still_judge.specs.declared.manner.Manner.TheVariants.{Eager, Exact, Served}
use Rattle.still_judge.specs.Manners.{rules_in}

pub sound_in : (m : Manner) (s : Search) (xs : List StillSpan) → IsSearch s → IsSound (rules_in m s xs)
sound_in Exact s xs is = rules_are_sound s is.view
sound_in Eager s xs is = eager_sound s xs is
sound_in Served s xs is = served_sound s xs is

pub valid_in : (m : Manner) (s : Search) (xs : List StillSpan) (n : Node) → IsValid (rules_in m s xs) n → IsValid (rules s) n
valid_in Exact s xs n valid = valid
valid_in Eager s xs n valid = valid_fine s xs n valid
valid_in Served s xs n valid = valid_whole s xs n valid

pub may_in : (m : Manner) (s : Search) (xs : List StillSpan) (n : Node) → IsSearch s → IsValid (rules_in m s xs) n → (rules_in m s xs).verdict n ≡ V.Split → may_be_cut s n ≡ true
may_in Exact s xs n is valid split = split_may s n split
may_in Eager s xs n is valid split = eager_may s xs n is (valid_fine s xs n valid) split
may_in Served s xs n is valid split = split_may s n (served_split s xs n split)

pub parts_in : (m : Manner) (s : Search) (xs : List StillSpan) (n : Node) → parts s n ≡ (rules_in m s xs).parts n
parts_in Exact s xs n = refl
parts_in Eager s xs n = refl
parts_in Served s xs n = refl

-- what holds holds too where a result is none
pub if_none : {X : Type 0} (r : Option X) (P : Type 0) → P → IfNone r P
if_none None P holds = holds
if_none (Some x) P holds = tt
