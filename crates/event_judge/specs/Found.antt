-- What a search finds at a node, and what a judge asks of it.
use Rattle.std.specs.Prelude.{Bool, List}
use Rattle.std.specs.List.{list_all, list_any}
use Rattle.spec_intervals.specs.declared.signs.Sign.{Sign}
use Rattle.spec_intervals.specs.Enclosure.{Enclosure}
use Rattle.spec_intervals.specs.Signs.{sign_of}
use Rattle.spec_trees.specs.declared.tree.Node.{Node}
use Rattle.spec_events.specs.Soundness.{findings_of}
use Rattle.spec_events.specs.Stages.{is_turnless}
use Rattle.spec_events.specs.Verdict.{Findings, GuardFinding, is_certified, is_refuted}
use Rattle.spec_searches.specs.Search.{Search, evidence_at}
use Rattle.body_states.specs.Moments.{Moment, enclosure_in}
use Rattle.event_judge.specs.Moments.{findings_in, moment, sign_in}

abbrev pub findings_at : Search → Node → Findings
findings_at s n = findings_of (evidence_at s n)

-- the times of a node: its first, its last, and all of them
abbrev pub first_moment : Search → Node → Moment
first_moment s n = moment s.view n.a n.a

abbrev pub last_moment : Search → Node → Moment
last_moment s n = moment s.view n.b n.b

abbrev pub whole_moment : Search → Node → Moment
whole_moment s n = moment s.view n.a n.b

-- the enclosure of the function, and its sign
abbrev pub enclosure_at : Search → Moment → Enclosure
enclosure_at s m = enclosure_in m s.event.function

abbrev pub whole_enclosure : Search → Node → Enclosure
whole_enclosure s n = enclosure_at s (whole_moment s n)

abbrev pub sign_at : Search → Moment → Sign
sign_at s m = sign_in m s.event.function

-- it has one sign, or its steps lead against the direction that is wanted
abbrev pub is_turnless_by : Search → Enclosure → Bool
is_turnless_by s e = is_turnless s.event.dir (sign_of e.range) e.step

-- ---- what is found of the conditions

abbrev pub guards_at : Search → Moment → List GuardFinding
guards_at s m = findings_in m s.event.conditions

-- some condition is false, or every condition holds
abbrev pub is_refuted_at : Search → Moment → Bool
is_refuted_at s m = list_any is_refuted (guards_at s m)

abbrev pub is_certified_at : Search → Moment → Bool
is_certified_at s m = list_all is_certified (guards_at s m)
