-- Nodes of an event without conditions that signs at their two ends tell much of: wide ones, of which signs that differ leave
-- nothing to decide but the limits, and those of one unit, of which any two known signs tell the verdict.
use Rattle.std.specs.Prelude.{◌≡◌, [], false, true, nat_le}
use Rattle.spec_events.specs.Verdict.{is_known}
use Rattle.spec_trees.specs.declared.tree.Node.{Node}
use Rattle.spec_trees.specs.declared.tree.Verdict.{Verdict}
use Rattle.spec_trees.specs.Cuts.{is_wide}
use Rattle.spec_trees.specs.Tree.{width}
use Rattle.spec_searches.specs.Search.{Search, criteria, crosses}
use Rattle.spec_bounds.specs.Steady.{sign_at, steady_verdict}

-- the event has no conditions, and the node is wider than one unit and than the width, with no border in it
pub record IsPlain (s : Search) (n : Node) : Type 0 where
  pub unconditional : s.event.conditions ≡ []
  pub uncrossed : crosses s n ≡ false
  pub wide : is_wide n ≡ true
  pub wider : nat_le (width n) s.width ≡ false

-- the event has no conditions, and the node is one unit wide
pub record IsPlainUnit (s : Search) (n : Node) : Type 0 where
  pub unconditional : s.event.conditions ≡ []
  pub unit : is_wide n ≡ false

-- the signs at both ends are known, and the verdict is the one that they tell in a steady span
pub record IsByKnownEnds (s : Search) (n : Node) (verdict : Verdict) : Type 0 where
  pub first : is_known (sign_at s n.a) ≡ true
  pub last : is_known (sign_at s n.b) ≡ true
  pub told : verdict ≡ steady_verdict (criteria s) n (sign_at s n.a) (sign_at s n.b)
