-- What the leaves of a span tell of a condition at each of its times: Yes, that it holds; No, that it does not; Open, nothing.
-- `point` is the sign at a single time.
use Rattle.std.specs.Prelude.{◌↔◌, Bool, true, false, int_le, int_lt, if◌then◌else◌, List, [], ◌∷◌, All, ℤ, ◌≤ℤ◌}
use Rattle.spec_intervals.specs.declared.signs.Sign.{Sign}
use Rattle.spec_intervals.specs.declared.signs.Sign.TheVariants.{Yes, No, Open}
use Rattle.spec_trees.specs.declared.tree.Leaf.{Leaf}
use Rattle.spec_trees.specs.declared.tree.Mark.{Mark}
use Rattle.spec_trees.specs.declared.tree.Mark.TheVariants as M
use Rattle.spec_trees.specs.declared.tree.Node.{Node}
use Rattle.spec_trees.specs.declared.tree.Turn.{Turn}
use Rattle.spec_trees.specs.declared.tree.Turn.TheVariants.{Rise, Fall}
use Rattle.spec_trees.specs.Tree.{Covers}

-- after a rise the condition holds, after a fall it does not
abbrev pub sign_after : Turn → Sign
sign_after Rise = Yes
sign_after Fall = No

-- at a time of a leaf: over a clear one the condition does not change, and one with a turn is told at its end alone
abbrev pub sign_in : (ℤ → Sign) → Node → Mark → ℤ → Sign
sign_in point n M.Clear t = point n.b
sign_in point n (M.One turn) t = if int_lt t n.b then Open else sign_after turn
sign_in point n M.Undecided t = Open

-- at a time after the first: that of the first leaf that does not end before it
abbrev pub sign_among : (ℤ → Sign) → List Leaf → ℤ → Sign
sign_among point [] t = Open
sign_among point (l ∷ later) t = if int_le t l.node.b then sign_in point l.node l.mark t else sign_among point later t

-- at a time of the span that begins with `from` and whose leaves these are
abbrev pub sign_of_leaves : (ℤ → Sign) → ℤ → List Leaf → ℤ → Sign
sign_of_leaves point from leaves t = if int_le t from then point from else sign_among point leaves t

-- ---- the leaves of a span
-- the last time of leaves that begin with this one
abbrev pub end_from : ℤ → List Leaf → ℤ
end_from from [] = from
end_from from (l ∷ later) = end_from l.node.b later

-- they follow one another from this time on, without gap or overlap
abbrev pub Follow : ℤ → List Leaf → Type 0
Follow from leaves = Covers from leaves (end_from from leaves)

-- ---- what marks have to say of a condition
abbrev pub IsTold : (ℤ → Type 0) → Node → Mark → Type 0
IsTold P n M.Clear = (t : ℤ) → n.a ≤ℤ t → t ≤ℤ n.b → P t ↔ P n.b
IsTold P n (M.One Rise) = P n.b
IsTold P n (M.One Fall) = P n.b → ⊥
IsTold P n M.Undecided = Unit {0}

abbrev pub AreTold : (ℤ → Type 0) → List Leaf → Type 0
AreTold P ls = All (λ l. IsTold P l.node l.mark) ls

-- the sign of a condition that is known to hold, or not to
abbrev pub known : Bool → Sign
known true = Yes
known false = No

-- ---- signs of two conditions together
abbrev pub opposite : Sign → Sign
opposite Yes = No
opposite No = Yes
opposite Open = Open

abbrev pub either : Sign → Sign → Sign
either Yes other = Yes
either No other = other
either Open Yes = Yes
either Open other = Open

abbrev pub both : Sign → Sign → Sign
both No other = No
both Yes other = other
both Open No = No
both Open other = Open

-- ---- sure and possible
abbrev pub is_sure : Sign → Bool
is_sure Yes = true
is_sure sign = false

abbrev pub is_possible : Sign → Bool
is_possible No = false
is_possible sign = true
