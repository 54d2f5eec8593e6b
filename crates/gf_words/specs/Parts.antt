-- The parts of a request, read one after another in the order of the tables of options.
use Rattle.std.specs.Prelude.{ℕ, ℤ, List, Option, Some, Result, Ok, Err, if◌then◌else◌, option_and_then, unwrap_or, pos}
use Rattle.spec_text.specs.declared.decimals.Decimal.{Decimal}
use Rattle.spec_ephemeris.specs.declared.body.Body.{Body}
use Rattle.spec_ephemeris.specs.declared.body.Body.TheVariants.{Ssb}
use Rattle.spec_bodies.specs.declared.frame.Frame.{Frame}
use Rattle.spec_bodies.specs.declared.frame.Frame.TheVariants.{Eq}
use Rattle.spec_events.specs.declared.dir.Dir.{Dir}
use Rattle.spec_events.specs.declared.dir.Dir.TheVariants as dir
use Rattle.spec_trees.specs.declared.cuts.CutRule.{CutRule}
use Rattle.spec_trees.specs.declared.cuts.CutRule.TheVariants.{Half}
use Rattle.spec_kinds.specs.declared.ask.Ask.{Ask}
use Rattle.spec_kinds.specs.declared.kind.Kind.{Kind}
use Rattle.spec_kinds.specs.declared.table.Use.TheVariants.{Optional}
use Rattle.spec_kinds.specs.Table.{row_of, takes_radii}
use Rattle.spec_requests.specs.declared.request.FindAsk.{FindAsk}
use Rattle.spec_requests.specs.declared.request.Named.{Named}
use Rattle.spec_requests.specs.declared.request.Named.TheVariants as opt
use Rattle.spec_requests.specs.declared.request.Relation.{Relation}
use Rattle.spec_requests.specs.declared.request.Relation.TheVariants.{Less}
use Rattle.spec_requests.specs.declared.request.Request.{Request}
use Rattle.spec_requests.specs.declared.request.Request.TheVariants.{Gen}
use Rattle.spec_requests.specs.declared.limits.TheConstants.{DEFAULT_TICK, DEFAULT_WIDTH, DEFAULT_DEPTH, DEFAULT_WORKERS}
use Rattle.spec_requests.specs.Names.{Text, axis_of, cut_of, dir_of, frame_of, layout_of, observer_of, target_of, tick_of_word}
use Rattle.spec_requests.specs.Options.{Values, blocks_of, decimal_of, depth_of, instant_of, relation_for, relation_in, scalar_time_of, seed_of, tick_in, use_of_ref2, width_of, workers_of}
use Rattle.spec_requests.specs.Requests.{ask_of, first_number, nought, quad_in, value_or}
use Rattle.option_values.specs.declared.polynomials.Polynomial.{Polynomial}
use Rattle.option_values.specs.Polynomials.{as_polynomial, polynomial_of}
use Rattle.option_values.specs.Parts.{needed, pair, part}
use Rattle.gf_words.specs.declared.scalars.ScalarOptions.{ScalarOptions}
use Rattle.gf_words.specs.declared.sets.References.{References}
use Rattle.gf_words.specs.declared.searches.Axes.{Axes}
use Rattle.gf_words.specs.declared.searches.Bodies.{Bodies}
use Rattle.gf_words.specs.declared.searches.Ends.{Ends}
use Rattle.gf_words.specs.declared.searches.Limits.{Limits}
use Rattle.gf_words.specs.declared.searches.Numbers.{Numbers}
use Rattle.gf_words.specs.declared.searches.SearchOptions.{SearchOptions}

-- what is made of parts, where none is bad
abbrev pub made : {A B : Type 0} → (A → B) → Result A Named → Result B Named
made make (Ok x) = Ok (make x)
made make (Err option) = Err option

-- ---- the parts of a search: what each group of options stands for, and how it is read, or the first that is bad

abbrev pub bodies_by : Values → Body → Bodies
bodies_by values target = record {
  target = target;
  second = option_and_then target_of (values opt.Second);
  observer = value_or observer_of Ssb (values opt.Observer);
}

abbrev pub bodies_of : Body → Option Body × Option Body → Bodies
bodies_of target (second, observer) = record { target = target; second = second; observer = unwrap_or observer Ssb }

abbrev pub bodies_read : Values → Kind → Body → Result Bodies Named
bodies_read values kind target = made (bodies_of target)
    (pair (part target_of opt.Second (row_of kind).second (values opt.Second))
    (part observer_of opt.Observer Optional (values opt.Observer)))

abbrev pub axes_by : Values → Axes
axes_by values = record { frame = value_or frame_of Eq (values opt.Frame); axis = value_or axis_of 0 (values opt.Axis) }

abbrev pub axes_of : Option Frame × Option ℕ → Axes
axes_of (frame, axis) = record { frame = unwrap_or frame Eq; axis = unwrap_or axis 0 }

abbrev pub axes_read : Values → Kind → Result Axes Named
axes_read values kind = made axes_of (pair (part frame_of opt.Frame (row_of kind).frame (values opt.Frame))
    (part axis_of opt.Axis (row_of kind).axis (values opt.Axis)))

abbrev pub numbers_by : Values → Kind → Numbers
numbers_by values kind = record {
  value1 = value_or decimal_of nought (values (first_number kind));
  value2 = value_or decimal_of nought (values opt.Radius2);
}

abbrev pub numbers_of : Kind → Option Decimal × (Option Decimal × Option Decimal) → Numbers
numbers_of kind (reference, (radius1, radius2)) = record {
  value1 = unwrap_or (if takes_radii kind then radius1 else reference) nought;
  value2 = unwrap_or radius2 nought;
}

abbrev pub radii_read : Values → Kind → Result (Option Decimal × Option Decimal) Named
radii_read values kind = pair (part decimal_of opt.Radius1 (row_of kind).radii (values opt.Radius1))
    (part decimal_of opt.Radius2 (row_of kind).radii (values opt.Radius2))

abbrev pub numbers_read : Values → Kind → Result Numbers Named
numbers_read values kind = made (numbers_of kind)
    (pair (part decimal_of opt.Ref (row_of kind).reference (values opt.Ref)) (radii_read values kind))

-- the ask, for all turns, and what is read after its numbers
abbrev pub ask_of_parts : {X : Type 0} → Kind → (Bodies × Axes) × (Numbers × X) → Ask × X
ask_of_parts kind ((bodies, axes), (numbers, last)) = (
  record {
    kind = kind;
    target = bodies.target;
    second = bodies.second;
    observer = bodies.observer;
    frame = axes.frame;
    axis = axes.axis;
    value1 = numbers.value1;
    value2 = numbers.value2;
    dir = dir.Any;
  },
  last,
)

abbrev pub ask_read : {X : Type 0} → Result X Named → Values → Kind → Body → Result (Ask × X) Named
ask_read last values kind target = made (ask_of_parts kind)
    (pair (pair (bodies_read values kind target) (axes_read values kind)) (pair (numbers_read values kind) last))

abbrev pub ends_by : Values → Ends
ends_by values = record {
  tick = tick_in values;
  from = option_and_then (instant_of (tick_in values)) (values opt.From);
  to = option_and_then (instant_of (tick_in values)) (values opt.To);
}

abbrev pub ends_of : Option ℕ × (Option ℤ × Option ℤ) → Ends
ends_of (tick, (from, to)) = record { tick = unwrap_or tick DEFAULT_TICK; from = from; to = to }

abbrev pub span_read : Values → Result (Option ℤ × Option ℤ) Named
span_read values = pair (part (instant_of (tick_in values)) opt.From Optional (values opt.From))
    (part (instant_of (tick_in values)) opt.To Optional (values opt.To))

abbrev pub ends_read : Values → Result Ends Named
ends_read values = made ends_of (pair (part tick_of_word opt.Tick Optional (values opt.Tick)) (span_read values))

abbrev pub limits_by : Values → Limits
limits_by values = record {
  width = value_or width_of DEFAULT_WIDTH (values opt.Width);
  depth = value_or depth_of DEFAULT_DEPTH (values opt.Depth);
  workers = value_or workers_of DEFAULT_WORKERS (values opt.Workers);
  cut = value_or cut_of Half (values opt.Cut);
}

abbrev pub limits_of : (Option ℕ × Option ℕ) × (Option ℕ × Option CutRule) → Limits
limits_of ((width, depth), (workers, cut)) = record {
  width = unwrap_or width DEFAULT_WIDTH;
  depth = unwrap_or depth DEFAULT_DEPTH;
  workers = unwrap_or workers DEFAULT_WORKERS;
  cut = unwrap_or cut Half;
}

abbrev pub limits_read : Values → Result Limits Named
limits_read values = made limits_of
    (pair (pair (part width_of opt.Width Optional (values opt.Width)) (part depth_of opt.Depth Optional (values opt.Depth)))
    (pair (part workers_of opt.Workers Optional (values opt.Workers)) (part cut_of opt.Cut Optional (values opt.Cut))))

-- a search for all turns without its texts
abbrev pub search_by_options : Values → Kind → Body → SearchOptions
search_by_options values kind target =
    record { ask = record (ask_of values kind target) { dir = dir.Any }; ends = ends_by values; limits = limits_by values }

-- the search for these turns, with its texts
abbrev pub search_with_texts : SearchOptions → Dir → Text → List Text → FindAsk
search_with_texts search turns values files = record {
  ask = record search.ask { dir = turns };
  values = values;
  tick = search.ends.tick;
  from = search.ends.from;
  to = search.ends.to;
  width = pos search.limits.width;
  depth = search.limits.depth;
  workers = search.limits.workers;
  cut = search.limits.cut;
  files = files;
}

abbrev pub search_of_parts : {X : Type 0} → (Ask × X) × (Ends × Limits) → SearchOptions × X
search_of_parts ((ask, last), (ends, limits)) = (record { ask = ask; ends = ends; limits = limits }, last)

-- a search without its texts, and what is read after the numbers of its event
abbrev pub search_read : {X : Type 0} → Result X Named → Values → Kind → Body → Result (SearchOptions × X) Named
search_read last values kind target =
    made search_of_parts (pair (ask_read last values kind target) (pair (ends_read values) (limits_read values)))

-- which turns a search wants
abbrev pub turns_read : Values → Result (Option Dir) Named
turns_read values = part dir_of opt.Dir Optional (values opt.Dir)

-- ---- the parts of a set

abbrev pub references_by : Values → References
references_by values = record {
  relation = unwrap_or (relation_in values) Less;
  ref2 = option_and_then decimal_of (values opt.Ref2);
}

abbrev pub references_of : Relation → Option Decimal → References
references_of relation ref2 = record { relation = relation; ref2 = ref2 }

-- the relation, and the second reference as it uses it
abbrev pub references_after : Option Text → Result Relation Named → Result References Named
references_after given (Ok relation) =
    made (references_of relation) (part decimal_of opt.Ref2 (use_of_ref2 (Some relation)) given)
references_after given (Err option) = Err option

abbrev pub references_read : Values → Kind → Result References Named
references_read values kind =
    references_after (values opt.Ref2) (needed (relation_for kind) opt.Relation (values opt.Relation))

-- ---- the parts of a scalar

abbrev pub scalar_by_options : Values → ScalarOptions
scalar_by_options values = record {
  polynomial = as_polynomial (quad_in values);
  dir = value_or dir_of dir.Any (values opt.Dir);
  from = value_or scalar_time_of (pos 0) (values opt.From);
  to = value_or scalar_time_of (pos 0) (values opt.To);
  limits = limits_by values;
}

abbrev pub scalar_of_parts : (Polynomial × Option Dir) × ((ℤ × ℤ) × Limits) → ScalarOptions
scalar_of_parts ((polynomial, turns), ((from, to), limits)) =
    record { polynomial = polynomial; dir = unwrap_or turns dir.Any; from = from; to = to; limits = limits }

abbrev pub times_read : Values → Result (ℤ × ℤ) Named
times_read values =
    pair (needed scalar_time_of opt.From (values opt.From)) (needed scalar_time_of opt.To (values opt.To))

abbrev pub scalar_read : Values → Result ScalarOptions Named
scalar_read values = made scalar_of_parts
    (pair (pair (needed polynomial_of opt.Quad (values opt.Quad)) (turns_read values))
    (pair (times_read values) (limits_read values)))

-- ---- the parts of a generated text

abbrev pub text_of_parts : (ℕ × ℕ) × (ℕ × Option ℕ) → Request
text_of_parts ((layout, blocks), (seed, workers)) = Gen blocks seed (unwrap_or workers DEFAULT_WORKERS)

abbrev pub text_read : Values → Result Request Named
text_read values = made text_of_parts
    (pair (pair (needed layout_of opt.Layout (values opt.Layout)) (needed blocks_of opt.Blocks (values opt.Blocks)))
    (pair (needed seed_of opt.Seed (values opt.Seed)) (part workers_of opt.Workers Optional (values opt.Workers))))
