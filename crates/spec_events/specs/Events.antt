-- When an event happens, and what a window of time promises of the events in it.
-- E says of a direction and a time whether a turn in that direction happens then, P of a time whether a condition holds,
-- and U of a node whether it is left undecided. Times are ticks of TDB since J2000.
use Rattle.std.specs.Prelude.{◌≡◌, ◌⊎◌, Bool, true, false, List, All, Any, ℤ, pos, ◌+ℤ◌, ◌-ℤ◌, ◌≤ℤ◌, ◌<ℤ◌}
use Rattle.spec_events.specs.declared.dir.Dir.{Dir}
use Rattle.spec_events.specs.declared.dir.Dir.TheVariants as D
use Rattle.spec_trees.specs.declared.tree.Node.{Node}
use Rattle.spec_trees.specs.declared.tree.Turn.{Turn}
use Rattle.spec_trees.specs.declared.tree.Turn.TheVariants.{Rise, Fall}
use Rattle.spec_trees.specs.declared.window.Holds.TheVariants.{Certain, Undecided}
use Rattle.spec_trees.specs.declared.window.Window.{Window}
use Rattle.spec_trees.specs.Placement.{AreInOrder, AreWithin, IsIn}

-- P changes from the time before to this one, in this direction
abbrev pub IsTurn : (ℤ → Type 0) → Turn → ℤ → Type 0
IsTurn P Rise t = (P (t -ℤ pos 1) → ⊥) × P t
IsTurn P Fall t = P (t -ℤ pos 1) × (P t → ⊥)

-- the direction is one of those that are asked for
abbrev pub wants : Dir → Turn → Bool
wants D.Any turn = true
wants D.Rise Rise = true
wants D.Rise Fall = false
wants D.Fall Rise = false
wants D.Fall Fall = true

-- P turns in this direction, which is wanted, and G is so of the time
pub record IsWantedTurn (P : ℤ → Type 0) (dir : Dir) (G : ℤ → Type 0) (turn : Turn) (t : ℤ) : Type 0 where
  pub wanted : wants dir turn ≡ true
  pub turns : IsTurn P turn t
  pub guarded : G t

-- what is so of every time: the guard of an event that has none
abbrev pub Always : ℤ → Type 0
Always t = Unit {0}

-- a turn happens, in one direction or the other
abbrev pub IsEvent : (Turn → ℤ → Type 0) → ℤ → Type 0
IsEvent E t = E Rise t ⊎ E Fall t

-- no event happens after one time and up to another
abbrev pub HasNoEvent : (Turn → ℤ → Type 0) → ℤ → ℤ → Type 0
HasNoEvent E after upto = (t : ℤ) → after <ℤ t → t ≤ℤ upto → IsEvent E t → ⊥

-- exactly one event lies in the window, and it is a turn in this direction
pub record HoldsOne (E : Turn → ℤ → Type 0) (turn : Turn) (window : Window) : Type 0 where
  pub time : ℤ
  pub inside : IsIn window time
  pub turns : E turn time
  pub alone : (t : ℤ) → IsIn window t → IsEvent E t → t ≡ time

-- each event after one time and up to another lies in a window
abbrev pub HoldEvents : (Turn → ℤ → Type 0) → ℤ → ℤ → List Window → Type 0
HoldEvents E after upto ws = (t : ℤ) → after <ℤ t → t ≤ℤ upto → IsEvent E t → Any (λ w. IsIn w t) ws

-- each certain window holds exactly one event, a turn in its direction
abbrev pub AreCertain : (Turn → ℤ → Type 0) → List Window → Type 0
AreCertain E ws = All (λ w. (turn : Turn) → w.holds ≡ Certain turn → HoldsOne E turn w) ws

-- the time lies in a node that U holds for, and all times of the node lie in the window
pub record IsLeftIn (U : Node → Type 0) (window : Window) (t : ℤ) : Type 0 where
  pub node : Node
  pub left : U node
  pub from : window.first ≤ℤ (node.a +ℤ pos 1)
  pub after : node.a <ℤ t
  pub upto : t ≤ℤ node.b
  pub to : node.b ≤ℤ window.last

-- each time of each undecided window lies in a node that is left undecided and that lies in the window
abbrev pub AreOpen : (Node → Type 0) → List Window → Type 0
AreOpen U ws = All (λ w. w.holds ≡ Undecided → (t : ℤ) → IsIn w t → IsLeftIn U w t) ws

-- the windows of the events after one time and up to another, where U holds for the nodes that are left undecided
pub record AreWindows (E : Turn → ℤ → Type 0) (U : Node → Type 0) (after upto : ℤ) (ws : List Window) : Type 0 where
  pub within : AreWithin after upto ws
  pub in_order : AreInOrder ws
  pub every_event : HoldEvents E after upto ws
  pub certain : AreCertain E ws
  pub undecided : AreOpen U ws

-- a fact of times, or of nodes, that a test decides
abbrev pub Passes : {T : Type 0} → (T → Bool) → T → Type 0
Passes {T} test x = test x ≡ true

-- events that a test decides
abbrev pub Happens : (Turn → ℤ → Bool) → Turn → ℤ → Type 0
Happens test turn t = test turn t ≡ true
