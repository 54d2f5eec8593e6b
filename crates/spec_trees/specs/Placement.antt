-- Where windows lie: the times in a window, and windows within a span, pairwise disjoint and in order.
use Rattle.std.specs.Prelude.{List, [], ◌∷◌, All, ℤ, ◌≤ℤ◌, ◌<ℤ◌}
use Rattle.spec_trees.specs.declared.window.Window.{Window}

-- the window's times are those from its first to its last
pub record IsIn (window : Window) (t : ℤ) : Type 0 where
  pub from : window.first ≤ℤ t
  pub to : t ≤ℤ window.last

-- it holds a time, and lies after one time and up to another
pub record IsWithin (after upto : ℤ) (window : Window) : Type 0 where
  pub from : after <ℤ window.first
  pub ordered : window.first ≤ℤ window.last
  pub to : window.last ≤ℤ upto

abbrev pub AreWithin : ℤ → ℤ → List Window → Type 0
AreWithin after upto ws = All (IsWithin after upto) ws

-- it ends before the other begins
abbrev pub IsBefore : Window → Window → Type 0
IsBefore window other = window.last <ℤ other.first

-- pairwise disjoint and in order: each window begins no later than it ends, and ends before every later one begins
abbrev pub AreInOrder : List Window → Type 0
AreInOrder [] = Unit {0}
AreInOrder (w ∷ later) = (w.first ≤ℤ w.last) × All (IsBefore w) later × AreInOrder later
