-- The verdict of a node [a, b]: the first of four cases that applies to what is found there.
use Rattle.std.specs.Prelude.{ℕ, Bool, true, false, not, ◌&&◌, ◌||◌, nat_lt, nat_le, List, pos, if◌then◌else◌}
use Rattle.std.specs.List.{list_all, list_any}
use lib.Signed.{le_z}
use Rattle.spec_intervals.specs.declared.signs.Sign.{Sign}
use Rattle.spec_intervals.specs.declared.signs.Sign.TheVariants.{Yes, No, Open}
use Rattle.spec_intervals.specs.Interval.{Interval}
use Rattle.spec_trees.specs.declared.tree.Node.{Node}
use Rattle.spec_trees.specs.declared.tree.Turn.{Turn}
use Rattle.spec_trees.specs.declared.tree.Turn.TheVariants.{Rise, Fall}
use Rattle.spec_trees.specs.declared.tree.Verdict.{Verdict}
use Rattle.spec_trees.specs.declared.tree.Verdict.TheVariants.{Clear, One, Split, Undecided}
use Rattle.spec_trees.specs.Cuts.{is_wide}
use Rattle.spec_trees.specs.Tree.{width}
use Rattle.spec_events.specs.declared.dir.Dir.{Dir}
use Rattle.spec_events.specs.declared.dir.Dir.TheVariants as D
use Rattle.spec_events.specs.Events.{wants}

-- what a search asks for: a direction, and the width and the depth down to which nodes are split
pub record Criteria : Type 0 where
  pub dir : Dir
  pub width : ℕ
  pub depth : ℕ

-- whether a guard has to be at least 0 or below 0, and the sign of its interval
pub record GuardFinding : Type 0 where
  pub at_least : Bool
  pub sign : Sign

-- what is found at a node: whether a border of the data lies in it, the signs of the function at a, at b and over the
-- whole node, what holds its change from each time to the next, and each guard
pub record Findings : Type 0 where
  pub crosses : Bool
  pub at_first : Sign
  pub at_last : Sign
  pub over : Sign
  pub step : Interval
  pub guards : List GuardFinding

-- ---- signs
abbrev pub is_known : Sign → Bool
is_known Yes = true
is_known No = true
is_known Open = false

-- both are known and equal
abbrev pub agree : Sign → Sign → Bool
agree Yes Yes = true
agree No No = true
agree p q = false

-- both are known and differ in a direction that is wanted
abbrev pub differ : Dir → Sign → Sign → Bool
differ dir No Yes = wants dir Rise
differ dir Yes No = wants dir Fall
differ dir p q = false

-- both are known and differ against the direction that is wanted
abbrev pub differ_against : Dir → Sign → Sign → Bool
differ_against dir No Yes = not (wants dir Rise)
differ_against dir Yes No = not (wants dir Fall)
differ_against dir p q = false

-- the direction of a turn to this sign from the other
abbrev pub turn_to : Sign → Turn
turn_to Yes = Rise
turn_to sign = Fall

-- ---- guards: the one sign certifies what has to be at least 0, and the other what has to be below 0
abbrev pub certifies : Bool → Sign → Bool
certifies true Yes = true
certifies false No = true
certifies at_least sign = false

abbrev pub is_certified : GuardFinding → Bool
is_certified g = certifies g.at_least g.sign

-- it is false at each time
abbrev pub is_refuted : GuardFinding → Bool
is_refuted g = certifies (not g.at_least) g.sign

-- ---- steps, by what holds them
-- the function rises, or stays, from each time to the next
abbrev pub rises : Interval → Bool
rises step = le_z (pos 0) step.lo

-- it falls, or stays
abbrev pub falls : Interval → Bool
falls step = le_z step.hi (pos 0)

-- it does not do both
abbrev pub is_one_way : Interval → Bool
is_one_way step = rises step || falls step

abbrev pub is_monotone : Findings → Bool
is_monotone f = not f.crosses && is_one_way f.step

-- so that both ends tell the turns between them
abbrev pub is_steady : Node → Findings → Bool
is_steady n f = is_monotone f || not (is_wide n)

-- ---- the cases
-- no border lies in it, or none of its times is inside
abbrev pub is_readable : Node → Bool → Bool
is_readable n crosses = not crosses || not (is_wide n)

-- the function has one sign over the whole node
abbrev pub has_one_sign : Findings → Bool
has_one_sign f = not f.crosses && is_known f.over

-- its steps lead against the direction that is wanted
abbrev pub steps_against : Dir → Interval → Bool
steps_against D.Any step = false
steps_against D.Rise step = falls step
steps_against D.Fall step = rises step

abbrev pub is_clear : Criteria → Node → Findings → Bool
is_clear c n f =
    is_readable n f.crosses
    && (has_one_sign f
    || ((agree f.at_first f.at_last && is_steady n f)
    || ((differ_against c.dir f.at_first f.at_last && is_steady n f)
    || ((not f.crosses && steps_against c.dir f.step)
    || list_any is_refuted f.guards))))

abbrev pub is_one : Criteria → Node → Findings → Bool
is_one c n f =
    is_readable n f.crosses
    && (nat_le (width n) c.width
    && (differ c.dir f.at_first f.at_last
    && (is_steady n f
    && list_all is_certified f.guards)))

abbrev pub is_split : Criteria → Node → Findings → Bool
is_split c n f = is_wide n && (f.crosses || (nat_lt c.width (width n) && nat_lt n.depth c.depth))

-- the first case that applies
unfoldable pub verdict : Criteria → Node → Findings → Verdict
verdict c n f =
    if is_clear c n f then Clear
    else if is_one c n f then One (turn_to f.at_last)
    else if is_split c n f then Split
    else Undecided
