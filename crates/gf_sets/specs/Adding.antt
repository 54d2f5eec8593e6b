-- One run of times more.
use Rattle.std.specs.Prelude.{◌≡◌, ◌&&◌, ◌||◌, List, ℤ, pos, ◌+ℤ◌, ◌≤ℤ◌, ◌<ℤ◌}
use Rattle.spec_intervals.specs.declared.signs.Sign.{Sign}
use Rattle.spec_trees.specs.declared.tree.Node.{Node}
use Rattle.spec_sets.specs.Spans.{IsAfterAll, Span, earliest, has, is_between, latest}
use Rattle.spec_sets.specs.Signs.{is_possible, is_sure}

-- the times from a first to a last are added to two sets, each as its sign says
pub record AreAdded (sign : ℤ → Sign) (first last : ℤ) (surely perhaps surely_now perhaps_now : List Span) : Type 0 where
  pub sure : (t : ℤ) → has surely_now t ≡ (has surely t || (is_between first last t && is_sure (sign t)))
  pub maybe : (t : ℤ) → has perhaps_now t ≡ (has perhaps t || (is_between first last t && is_possible (sign t)))

-- a node holds more than one time, all such as sets can have, and those after its first come after all times of two sets
pub record ComesNext (n : Node) (surely perhaps : List Span) : Type 0 where
  pub wide : n.a <ℤ n.b
  pub early : earliest ≤ℤ n.a
  pub late : n.b ≤ℤ latest
  pub after_sure : IsAfterAll surely (n.a +ℤ pos 1)
  pub after_maybe : IsAfterAll perhaps (n.a +ℤ pos 1)
