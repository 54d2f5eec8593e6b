-- What words name, by the tables of names, and the names themselves.
use Rattle.std.specs.Prelude.{ℕ, List, [], ◌∷◌, map, get_or, Option, None, Some, option_map, if◌then◌else◌}
use Rattle.std.specs.Borrow.{Bor}
use Rattle.std.specs.Str.{bytes_eq}
use Rattle.spec_ephemeris.specs.declared.body.Body.{Body}
use Rattle.spec_ephemeris.specs.declared.body.Body.TheVariants as body
use Rattle.spec_bodies.specs.declared.frame.Frame.{Frame}
use Rattle.spec_bodies.specs.declared.frame.Frame.TheVariants as frame
use Rattle.spec_events.specs.declared.dir.Dir.{Dir}
use Rattle.spec_events.specs.declared.dir.Dir.TheVariants as dir
use Rattle.spec_trees.specs.declared.cuts.CutRule.{CutRule}
use Rattle.spec_trees.specs.declared.cuts.CutRule.TheVariants as cut
use Rattle.spec_kinds.specs.declared.kind.Kind.{Kind}
use Rattle.spec_kinds.specs.Table.{rows}
use Rattle.spec_kinds.specs.Faults.{body_number}
use Rattle.spec_requests.specs.declared.request.Named.{Named}
use Rattle.spec_requests.specs.declared.request.Named.TheVariants as opt
use Rattle.spec_requests.specs.declared.request.Relation.{Relation}
use Rattle.spec_requests.specs.declared.request.Relation.TheVariants as relation
use Rattle.spec_requests.specs.declared.tables.CommandName.{CommandName}
use Rattle.spec_requests.specs.declared.tables.CommandName.TheVariants as command
use Rattle.spec_requests.specs.declared.tables.TheConstants.{COMMANDS, BODIES, FRAMES, AXES, DIRS, RELATIONS, CUTS, OPTIONS, LAYOUTS, TICKS}

abbrev pub Text : Type 0
Text = List ℕ

-- names, each with what it stands for
abbrev pub Table : Type 0 → Type 0
Table X = List (Text × X)

-- the table as code reads it
abbrev pub rows_of : {X : Type 0} → List (Bor Text × X) → Table X
rows_of rows = map (λ row. (row.0.now, row.1)) rows

-- what the word stands for: the value beside the first name that it is
abbrev pub named : {X : Type 0} → Table X → Text → Option X
named [] word = None
named (row ∷ rows) word = if bytes_eq row.0 word then Some row.1 else named rows word

-- the name in this row of the table, counted from 0
abbrev pub name_at : {X : Type 0} → Table X → ℕ → Text
name_at rows number = get_or (map (λ row. row.0) rows) number []

-- ---- the tables

abbrev pub commands : Table CommandName
commands = map (λ row. (row.0.now, row.1)) COMMANDS

abbrev pub bodies : Table Body
bodies = map (λ row. (row.0.now, row.1)) BODIES

abbrev pub frames : Table Frame
frames = map (λ row. (row.0.now, row.1)) FRAMES

abbrev pub axes : Table ℕ
axes = map (λ row. (row.0.now, row.1)) AXES

abbrev pub dirs : Table Dir
dirs = map (λ row. (row.0.now, row.1)) DIRS

abbrev pub relations : Table Relation
relations = map (λ row. (row.0.now, row.1)) RELATIONS

abbrev pub cuts : Table CutRule
cuts = map (λ row. (row.0.now, row.1)) CUTS

abbrev pub options : Table Named
options = map (λ row. (row.0.now, row.1)) OPTIONS

abbrev pub layouts : Table ℕ
layouts = map (λ row. (row.0.now, row.1)) LAYOUTS

abbrev pub ticks : Table ℕ
ticks = map (λ row. (row.0.now, row.1)) TICKS

-- ---- what a word is

unfoldable pub command_of : Text → Option CommandName
command_of = named commands

-- the kind of the row, in the table of kinds, that has this name
unfoldable pub kind_of : Text → Option Kind
kind_of word = option_map (λ row. row.kind) (named rows word)

unfoldable pub observer_of : Text → Option Body
observer_of = named bodies

-- a body that can be looked at: any but the barycentre of the solar system
abbrev pub as_target : Option Body → Option Body
as_target None = None
as_target (Some body.Ssb) = None
as_target (Some body) = Some body

abbrev pub target_of : Text → Option Body
target_of word = as_target (observer_of word)

unfoldable pub frame_of : Text → Option Frame
frame_of = named frames

unfoldable pub axis_of : Text → Option ℕ
axis_of = named axes

unfoldable pub dir_of : Text → Option Dir
dir_of = named dirs

unfoldable pub relation_of : Text → Option Relation
relation_of = named relations

unfoldable pub cut_of : Text → Option CutRule
cut_of = named cuts

-- the option, or the word of `gen`, that has this name
unfoldable pub option_of : Text → Option Named
option_of = named options

unfoldable pub layout_of : Text → Option ℕ
layout_of = named layouts

-- how many ticks a second has
unfoldable pub tick_of_word : Text → Option ℕ
tick_of_word = named ticks

-- ---- the names of what words stand for: each value of an enum with its place in the table of names

abbrev pub command_place : CommandName → ℕ
command_place command.Find = 0
command_place command.Cert = 1
command_place command.Verify = 2
command_place command.Check = 3
command_place command.Gen = 4
command_place command.Set = 5
command_place command.Scalar = 6

abbrev pub command_name : CommandName → Text
command_name command = name_at commands (command_place command)

abbrev pub body_name : Body → Text
body_name body = name_at bodies (body_number body)

abbrev pub frame_place : Frame → ℕ
frame_place frame.Eq = 0
frame_place frame.Ecl = 1

abbrev pub frame_name : Frame → Text
frame_name frame = name_at frames (frame_place frame)

abbrev pub dir_place : Dir → ℕ
dir_place dir.Any = 0
dir_place dir.Rise = 1
dir_place dir.Fall = 2

abbrev pub dir_name : Dir → Text
dir_name dir = name_at dirs (dir_place dir)

abbrev pub relation_place : Relation → ℕ
relation_place relation.Less = 0
relation_place relation.AtLeast = 1
relation_place relation.Within = 2
relation_place relation.Outside = 3

abbrev pub relation_name : Relation → Text
relation_name relation = name_at relations (relation_place relation)

abbrev pub cut_place : CutRule → ℕ
cut_place cut.Half = 0
cut_place cut.Third = 1

abbrev pub cut_name : CutRule → Text
cut_name cut = name_at cuts (cut_place cut)

-- the axes of a frame are x, y and z in the order of their numbers
abbrev pub axis_name : ℕ → Text
axis_name axis = name_at axes axis

abbrev pub option_place : Named → ℕ
option_place opt.Kind = 0
option_place opt.Target = 1
option_place opt.Second = 2
option_place opt.Observer = 3
option_place opt.Frame = 4
option_place opt.Axis = 5
option_place opt.Ref = 6
option_place opt.Radius1 = 7
option_place opt.Radius2 = 8
option_place opt.Relation = 9
option_place opt.Ref2 = 10
option_place opt.Dir = 11
option_place opt.Tick = 12
option_place opt.From = 13
option_place opt.To = 14
option_place opt.Width = 15
option_place opt.Depth = 16
option_place opt.Workers = 17
option_place opt.Cut = 18
option_place opt.Cert = 19
option_place opt.Layout = 20
option_place opt.Blocks = 21
option_place opt.Seed = 22
option_place opt.Quad = 23

-- the option's name, which follows two dashes, or the name of a word of `gen`
abbrev pub option_name : Named → Text
option_name option = name_at options (option_place option)
