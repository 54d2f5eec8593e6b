-- The verdict of a node in the order in which the node is looked at: what costs most is asked last, and only where it can
-- still decide.
use Rattle.std.specs.Prelude.{Bool, ◌&&◌, ◌||◌, nat_lt, nat_le, List, if◌then◌else◌}
use Rattle.std.specs.List.{list_all, list_any}
use Rattle.spec_intervals.specs.declared.signs.Sign.{Sign}
use Rattle.spec_intervals.specs.Interval.{Interval}
use Rattle.spec_trees.specs.declared.tree.Node.{Node}
use Rattle.spec_trees.specs.declared.tree.Verdict.{Verdict}
use Rattle.spec_trees.specs.declared.tree.Verdict.TheVariants.{Clear, One, Split, Undecided}
use Rattle.spec_trees.specs.Cuts.{is_wide}
use Rattle.spec_trees.specs.Tree.{width}
use Rattle.spec_events.specs.declared.dir.Dir.{Dir}
use Rattle.spec_events.specs.Verdict.{Criteria, GuardFinding, Findings, is_known, agree, differ, differ_against, turn_to, is_certified, is_refuted, is_one_way, steps_against}

-- nothing decides: it is split where it is above both limits
abbrev pub is_above_limits : Criteria → Node → Bool
is_above_limits c n = nat_lt c.width (width n) && nat_lt n.depth c.depth

abbrev pub limit_verdict : Criteria → Node → Verdict
limit_verdict c n = if is_above_limits c n then Split else Undecided

-- by the signs at the ends, which tell the turns between them, where no guard is false
abbrev pub has_no_turn : Dir → Sign → Sign → Bool
has_no_turn dir first last = agree first last || differ_against dir first last

abbrev pub end_verdict : Criteria → Node → List GuardFinding → Sign → Sign → Verdict
end_verdict c n guards first last =
    if has_no_turn c.dir first last then Clear
    else if nat_le (width n) c.width && (differ c.dir first last && list_all is_certified guards) then One (turn_to last)
    else limit_verdict c n

-- of a node that is one unit wide, by the guards and then by its ends
abbrev pub unit_verdict : Criteria → Node → List GuardFinding → Sign → Sign → Verdict
unit_verdict c n guards first last = if list_any is_refuted guards then Clear else end_verdict c n guards first last

-- of a wider one, whose ends tell nothing where its steps lead both ways
abbrev pub wide_verdict : Criteria → Node → Interval → List GuardFinding → Sign → Sign → Verdict
wide_verdict c n step guards first last =
    if list_any is_refuted guards then Clear
    else if is_one_way step then end_verdict c n guards first last
    else limit_verdict c n

-- of a node into which no border falls, first by the function over the whole of it
abbrev pub is_turnless : Dir → Sign → Interval → Bool
is_turnless dir over step = is_known over || steps_against dir step

abbrev pub open_verdict : Criteria → Node → Findings → Verdict
open_verdict c n f =
    if is_turnless c.dir f.over f.step then Clear
    else if is_wide n then wide_verdict c n f.step f.guards f.at_first f.at_last
    else unit_verdict c n f.guards f.at_first f.at_last

-- and of one into which a border falls
abbrev pub border_verdict : Criteria → Node → Findings → Verdict
border_verdict c n f = if is_wide n then Split else unit_verdict c n f.guards f.at_first f.at_last

abbrev pub staged_verdict : Criteria → Node → Findings → Verdict
staged_verdict c n f = if f.crosses then border_verdict c n f else open_verdict c n f
