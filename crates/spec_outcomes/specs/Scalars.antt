-- What `scalar` comes to: the report of the windows of the times at which a polynomial passes 0, or the cause why there is none.
-- Times are whole numbers.
use Rattle.std.specs.Prelude.{◌≡◌, ℕ, nat_lt, int_lt, if◌then◌else◌, pos, neg_ℤ, List, Result, Ok, Err}
use Rattle.spec_trees.specs.declared.tree.Leaf.{Leaf}
use Rattle.spec_trees.specs.declared.tree.Node.{Node}
use Rattle.spec_trees.specs.declared.window.Window.{Window}
use Rattle.spec_trees.specs.Tree.{Covers, leaf_count, leaves}
use Rattle.spec_trees.specs.Windows.{windows}
use Rattle.spec_events.specs.Events.{AreWindows}
use Rattle.spec_scalars.specs.Quads.{Quadratic, quad_scalar}
use Rattle.spec_scalars.specs.Searches.{IsLeftUndecided, Search, events, rules, search_over, span, windows_of}
use Rattle.spec_requests.specs.declared.limits.TheConstants.{MAX_SCALAR_TIME}
use Rattle.spec_requests.specs.declared.request.ScalarAsk.{ScalarAsk}
use Rattle.spec_output.specs.declared.limits.TheConstants.{MAX_LEAVES}
use Rattle.spec_output.specs.Report.{scalar_report}
use Rattle.spec_outcomes.specs.declared.query.Span.{Span}
use Rattle.spec_outcomes.specs.declared.refusal.Refusal.{Refusal}
use Rattle.spec_outcomes.specs.declared.refusal.Refusal.TheVariants.{Outside, TooManyLeaves}
use Rattle.spec_outcomes.specs.Outcomes.{Outcome, text_by}

-- ---- the search
-- the polynomial that is asked for
abbrev pub quadratic_of : ScalarAsk → Quadratic
quadratic_of ask = record { p = ask.p; q = ask.q; r = ask.r }

-- its search over the times that are asked for
abbrev pub scalar_search : ScalarAsk → Search
scalar_search ask = search_over (quad_scalar (quadratic_of ask)) ask.from ask.to ask.plan

-- the times after the first and up to the last
abbrev pub scalar_root : ScalarAsk → Node
scalar_root ask = span ask.from ask.to

abbrev pub scalar_leaves : ScalarAsk → List Leaf
scalar_leaves ask = leaves (rules (scalar_search ask)) (scalar_root ask)

abbrev pub scalar_windows : ScalarAsk → List Window
scalar_windows ask = windows_of (scalar_search ask) (scalar_root ask)

-- an undecided leaf of the tree of the search
abbrev pub IsLeftInScalar : ScalarAsk → Node → Type 0
IsLeftInScalar ask = IsLeftUndecided (scalar_search ask) (scalar_root ask)

-- the windows are those of the times at which the polynomial passes 0 in a wanted direction
abbrev pub ArePassings : ScalarAsk → List Window → Type 0
ArePassings ask ws = AreWindows (events (scalar_search ask)) (IsLeftInScalar ask) ask.from ask.to ws

-- ---- the outcome
abbrev pub scalar_span : ScalarAsk → Span
scalar_span ask = record { from = ask.from; upto = ask.to }

-- the times of as many digits as words may have
abbrev pub whole_scalar_span : Span
whole_scalar_span = record { from = neg_ℤ (pos MAX_SCALAR_TIME); upto = pos MAX_SCALAR_TIME }

-- the leaves of the search, unless they are too many
unfoldable pub searched_scalar : ScalarAsk → Result (List Leaf) Refusal
searched_scalar ask =
    if nat_lt MAX_LEAVES (leaf_count (rules (scalar_search ask)) (scalar_root ask)) then Err (TooManyLeaves MAX_LEAVES) else Ok (scalar_leaves ask)

-- the same, unless the span holds no time
abbrev pub found_scalar : ScalarAsk → Result (List Leaf) Refusal
found_scalar ask = if int_lt ask.from ask.to then searched_scalar ask else Err (Outside (scalar_span ask) whole_scalar_span)

-- the report of the windows of leaves
abbrev pub scalar_report_by : ScalarAsk → List Leaf → List ℕ
scalar_report_by ask ls = scalar_report ask (windows ls)

abbrev pub scalar_of : ScalarAsk → Outcome
scalar_of ask = text_by (scalar_report_by ask) (found_scalar ask)

-- leaves that the search finds: they follow one another over the span, and their windows are those of the passings
pub record AreScalarLeaves (ask : ScalarAsk) (ls : List Leaf) : Type 0 where
  pub outcome : found_scalar ask ≡ Ok ls
  pub same : ls ≡ scalar_leaves ask
  pub follow : Covers ask.from ls ask.to
  pub windows : ArePassings ask (windows ls)
