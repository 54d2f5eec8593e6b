-- The verdict of a node in an eager tree, by where it stands among the spans.
use Rattle.std.proofs.Common.{◌≡◌, Bool, true, false, ◌&&◌, List, refl, sym, ap, ◌∙◌}
use Rattle.std.specs.Prelude.{if◌then◌else◌}
use Rattle.spec_trees.specs.declared.tree.Node.{Node}
use Rattle.spec_trees.specs.declared.tree.Verdict.{Verdict}
use Rattle.spec_trees.specs.declared.tree.Verdict.TheVariants as V
use Rattle.spec_events.specs.Stages.{is_above_limits}
use Rattle.spec_searches.specs.Search.{Search, criteria, verdict_of}
use Rattle.spec_stills.specs.declared.still.StillSpan.{StillSpan}
use Rattle.spec_stills.specs.Still.{is_served}
use Rattle.spec_stills.specs.Eager.{begin_in, eager_verdict}
use Rattle.still_judge.specs.declared.standing.Standing.{Standing}
use Rattle.still_judge.specs.declared.standing.Standing.TheVariants.{Begun, Open, Served}
use Rattle.still_judge.specs.Stands.{standing_of, verdict_at}

by_two : (served begun : Bool) (v : Verdict) → (if served then V.Clear else if begun then V.Split else v) ≡ verdict_at (if served then Served else if begun then Begun else Open) v
by_two true begun v = refl
by_two false true v = refl
by_two false false v = refl

by_standing : (s : Search) (xs : List StillSpan) (n : Node) → eager_verdict s xs n ≡ verdict_at (standing_of s xs n) (verdict_of s n)
by_standing s xs n = by_two (is_served s xs n) (begin_in xs n && is_above_limits (criteria s) n) (verdict_of s n)

-- by what a node is found to be among the spans
pub stands_as : (s : Search) (xs : List StillSpan) (n : Node) (found x : Standing) → found ≡ standing_of s xs n → found ≡ x → verdict_at x (verdict_of s n) ≡ eager_verdict s xs n
stands_as s xs n found x stands is = sym (by_standing s xs n ∙ ap (λ (y : Standing). verdict_at y (verdict_of s n)) (sym stands ∙ is))
