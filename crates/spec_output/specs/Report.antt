-- What a search prints: its request, a line for each window or span of a set, and the counts of these. Times are calendar
-- texts of ticks, and those of a scalar are whole numbers.
use Rattle.std.specs.Prelude.{ℕ, ℤ, List, [], ◌++◌, length, ◌==◌, Bool, true, false, not, count_by, codes, flat_map, Option, None, Some, pos, if◌then◌else◌}
use Rattle.std.specs.Fmt.{decimal, signed_decimal}
use Rattle.spec_ephemeris.specs.declared.body.Body.{Body}
use Rattle.spec_events.specs.declared.dir.Dir.{Dir}
use Rattle.spec_trees.specs.declared.cuts.CutRule.{CutRule}
use Rattle.spec_trees.specs.declared.tree.Turn.TheVariants.{Rise, Fall}
use Rattle.spec_trees.specs.declared.window.Holds.{Holds}
use Rattle.spec_trees.specs.declared.window.Holds.TheVariants.{Certain, Undecided}
use Rattle.spec_trees.specs.declared.window.Window.{Window}
use Rattle.spec_kinds.specs.declared.ask.Ask.{Ask}
use Rattle.spec_kinds.specs.declared.kind.Kind.{Kind}
use Rattle.spec_kinds.specs.Table.{is_unused, kind_name, row_of}
use Rattle.spec_requests.specs.declared.request.FindAsk.{FindAsk}
use Rattle.spec_requests.specs.declared.request.Relation.{Relation}
use Rattle.spec_requests.specs.declared.request.ScalarAsk.{ScalarAsk}
use Rattle.spec_requests.specs.Names.{axis_name, body_name, cut_name, dir_name, frame_name, relation_name}
use Rattle.spec_times.specs.Ticks.{IsTimeIn, tick_text}
use Rattle.spec_output.specs.Messages.{times}

-- ---- the request

-- what is not there is printed so
abbrev pub dash : List ℕ
dash = codes "-"

abbrev pub second_name : Option Body → List ℕ
second_name None = dash
second_name (Some body) = body_name body

-- the axis, of the kinds that have one
abbrev pub axis_of_kind : Kind → ℕ → List ℕ
axis_of_kind kind axis = if is_unused (row_of kind).axis then dash else axis_name axis

abbrev pub bodies_text : Ask → List ℕ
bodies_text ask =
    codes " target " ++ body_name ask.target ++ (codes " second " ++ second_name ask.second)
    ++ (codes " observer " ++ body_name ask.observer)

abbrev pub axes_text : Ask → List ℕ
axes_text ask = codes " frame " ++ frame_name ask.frame ++ (codes " axis " ++ axis_of_kind ask.kind ask.axis)

-- how many ticks a second has, where that is more than one
abbrev pub ticks_text : ℕ → List ℕ
ticks_text tick = if tick == 1 then [] else codes " tick " ++ decimal tick

-- which turns are wanted
abbrev pub turns_text : Dir → List ℕ
turns_text dir = codes " dir " ++ dir_name dir

-- how a span is searched
abbrev pub limits_text : ℤ → ℕ → CutRule → List ℕ
limits_text width depth cut = codes " width " ++ signed_decimal width ++ (codes " depth " ++ decimal depth) ++ (codes " cut " ++ cut_name cut)

-- the event, after the word for what is asked of it
abbrev pub event_text : List ℕ → FindAsk → List ℕ
event_text word find =
    word ++ kind_name find.ask.kind ++ bodies_text find.ask ++ axes_text find.ask ++ (codes " values " ++ find.values)

-- the event, what is wanted of it, and how it is searched for
abbrev pub query_text : List ℕ → List ℕ → FindAsk → List ℕ
query_text word wanted find =
    event_text word find ++ wanted ++ limits_text find.width find.depth find.cut ++ ticks_text find.tick

-- two times, in so many ticks to a second
abbrev pub span_text : ℕ → ℤ → ℤ → List ℕ
span_text tick first last = tick_text tick first ++ codes " " ++ tick_text tick last

-- the same, from one time to another
abbrev pub query_line : List ℕ → List ℕ → FindAsk → ℤ → ℤ → List ℕ
query_line word wanted find from to = query_text word wanted find ++ (codes " span " ++ span_text find.tick from to)

-- the line of a request for windows, without its end
abbrev pub request_line : FindAsk → ℤ → ℤ → List ℕ
request_line find = query_line (codes "FIND ") (turns_text find.ask.dir) find

-- ---- the windows

-- what a line begins with, and what stands behind its times, by what the window holds
abbrev pub line_word : Holds → List ℕ
line_word (Certain turn) = codes "C "
line_word Undecided = codes "U "

abbrev pub line_end : Holds → List ℕ
line_end (Certain Rise) = codes " rise\n"
line_end (Certain Fall) = codes " fall\n"
line_end Undecided = codes "\n"

-- the line of a window whose times have this text
abbrev pub line_by : List ℕ → Holds → List ℕ
line_by times holds = line_word holds ++ times ++ line_end holds

abbrev pub line_of : ℕ → ℤ → ℤ → Holds → List ℕ
line_of tick first last = line_by (span_text tick first last)

-- a window from a time to another that have texts
pub record HasTimes (tick : ℕ) (w : Window) : Type 0 where
  pub first : IsTimeIn tick w.first
  pub last : IsTimeIn tick w.last

abbrev pub window_lines : ℕ → List Window → List ℕ
window_lines tick ws = flat_map (λ w. line_of tick w.first w.last w.holds) ws

abbrev pub is_certain : Holds → Bool
is_certain (Certain turn) = true
is_certain Undecided = false

abbrev pub certain_count : List Window → ℕ
certain_count ws = count_by (λ w. is_certain w.holds) ws

abbrev pub undecided_count : List Window → ℕ
undecided_count ws = count_by (λ w. not (is_certain w.holds)) ws

-- how many windows there are of both sorts
abbrev pub end_line : List Window → List ℕ
end_line ws =
    codes "END certain " ++ decimal (certain_count ws) ++ (codes " undecided " ++ decimal (undecided_count ws) ++ codes "\n")

-- ---- the report

abbrev pub report : FindAsk → ℤ → ℤ → List Window → List ℕ
report find from to ws = request_line find from to ++ codes "\n" ++ window_lines find.tick ws ++ end_line ws

-- ---- the report of a certificate that holds

abbrev pub verified_line : ℕ → List ℕ
verified_line leaves = codes "VERIFIED leaves " ++ decimal leaves ++ codes "\n"

-- the report of its windows, and how many leaves it has
abbrev pub verification : FindAsk → ℤ → ℤ → List Window → ℕ → List ℕ
verification find from to ws leaves = report find from to ws ++ verified_line leaves

-- ---- the text of a generated file's search

abbrev pub generation_line : ℕ → ℕ → ℕ → List ℕ
generation_line blocks seed bytes =
    codes "GEN 405 blocks " ++ decimal blocks ++ (codes " seed " ++ decimal seed) ++ (codes " bytes " ++ decimal bytes ++ codes "\n")

-- so many blocks from this seed make so many bytes, in which these windows were found
abbrev pub generation : ℕ → ℕ → ℕ → List Window → List ℕ
generation blocks seed bytes ws = generation_line blocks seed bytes ++ end_line ws

-- ---- the report of the times at which a function has a relation to its references

-- which relation is asked for
abbrev pub relation_text : Relation → List ℕ
relation_text relation = codes " relation " ++ relation_name relation

-- the times from a first to a last have texts
pub record AreTimesIn (tick : ℕ) (span : ℤ × ℤ) : Type 0 where
  pub first : IsTimeIn tick span.0
  pub last : IsTimeIn tick span.1

-- a line for each span of times, after a word
abbrev pub span_lines : List ℕ → ℕ → List (ℤ × ℤ) → List ℕ
span_lines word tick spans = flat_map (λ span. word ++ span_text tick span.0 span.1 ++ codes "\n") spans

-- how many spans there are of sure times and of possible ones
abbrev pub set_end_line : List (ℤ × ℤ) → List (ℤ × ℤ) → List ℕ
set_end_line surely perhaps =
    codes "END sure " ++ decimal (length surely) ++ (codes " possible " ++ decimal (length perhaps) ++ codes "\n")

-- the lines of sure times come first
abbrev pub set_lines : ℕ → List (ℤ × ℤ) → List (ℤ × ℤ) → List ℕ
set_lines tick surely perhaps =
    span_lines (codes "S ") tick surely ++ span_lines (codes "P ") tick perhaps ++ set_end_line surely perhaps

abbrev pub set_report : FindAsk → Relation → ℤ → ℤ → List (ℤ × ℤ) → List (ℤ × ℤ) → List ℕ
set_report find relation from to surely perhaps =
    query_line (codes "SET ") (relation_text relation) find from to ++ codes "\n" ++ set_lines find.tick surely perhaps

-- ---- the report of a scalar, whose times are whole numbers

abbrev pub scalar_line : ScalarAsk → List ℕ
scalar_line ask =
    codes "SCALAR quad " ++ ask.text ++ turns_text ask.plan.dir
    ++ limits_text (pos ask.plan.width) ask.plan.depth ask.plan.cut ++ (codes " span " ++ times ask.from ask.to)

abbrev pub scalar_window_lines : List Window → List ℕ
scalar_window_lines ws = flat_map (λ w. line_by (times w.first w.last) w.holds) ws

abbrev pub scalar_report : ScalarAsk → List Window → List ℕ
scalar_report ask ws = scalar_line ask ++ codes "\n" ++ scalar_window_lines ws ++ end_line ws
