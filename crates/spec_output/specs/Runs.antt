-- What a run that searches did, whatever it searched for: it wrote the report of the events, and nothing else.
use Rattle.std.specs.Prelude.{ℕ, ℤ, List, Option}
use Rattle.std.specs.Io.KnownBytes.{Appends}
use Rattle.spec_trees.specs.declared.tree.Node.{Node}
use Rattle.spec_trees.specs.declared.tree.Turn.{Turn}
use Rattle.spec_trees.specs.declared.window.Window.{Window}
use Rattle.spec_events.specs.Events.{AreWindows}

-- known bytes grew by the report of these windows and by nothing else. The windows lie in the span, which is what comes
-- after one time and up to another; they are disjoint and in order; they hold every event of E in the span; each certain
-- one holds exactly one event, a turn in its direction; and each time of an undecided one lies in a node that U holds for,
-- all of which lies in the window
pub record Reports (E : Turn → ℤ → Type 0) (U : Node → Type 0) (after upto : ℤ) (ws : List Window) (report : List Window → List ℕ) (old new : Option (List ℕ)) : Type 0 where
  pub printed : Appends old new (report ws)
  pub windows : AreWindows E U after upto ws
