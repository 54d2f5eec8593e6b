-- The windows of a span and those of the next one, as the windows of both.
use Rattle.std.specs.Prelude.{◌≡◌, Bool, true, false, ◌&&◌, if◌then◌else◌, int_le, List, [], ◌∷◌, All, pos, ◌+ℤ◌}
use Rattle.spec_trees.specs.declared.window.Holds.{Holds}
use Rattle.spec_trees.specs.declared.window.Holds.TheVariants as H
use Rattle.spec_trees.specs.declared.window.Window.{Window}

abbrev pub is_open : Holds → Bool
is_open (H.Certain turn) = false
is_open H.Undecided = true

-- no window is undecided
abbrev pub AreDecided : List Window → Type 0
AreDecided ws = All (λ w. is_open w.holds ≡ false) ws

-- both are undecided, and the second begins no later than the tick after the first
abbrev pub goes_on : Window → Window → Bool
goes_on w v = is_open w.holds && (is_open v.holds && int_le v.first (w.last +ℤ pos 1))

-- the last window of a span before those of the next
abbrev pub met : Window → List Window → List Window
met w [] = w ∷ []
met w (v ∷ vs) = if goes_on w v then record v { first = w.first } ∷ vs else w ∷ v ∷ vs

-- the windows of a span and then those of the next; an undecided window goes on over the time at which the spans meet
abbrev pub joined : List Window → List Window → List Window
joined [] vs = vs
joined (w ∷ []) vs = met w vs
joined (w ∷ x ∷ ws) vs = w ∷ joined (x ∷ ws) vs
