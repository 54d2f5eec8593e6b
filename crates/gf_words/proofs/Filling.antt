-- Parts that are read in the order of a table of options: the first that is bad is the first of the table that is bad.
use Rattle.std.proofs.Common.{◌≡◌, ◌∙◌, ◌||◌, pos, Bool, true, false, not, List, [], ◌∷◌, ◌++◌, drop, Option, Some, None, Result, Ok, Err, cond, find, is_some, if◌then◌else◌, option_and_then, option_map, unwrap_or, refl, sym, ap}
use Rattle.spec_ephemeris.specs.declared.body.Body.{Body}
use Rattle.spec_events.specs.declared.dir.Dir.{Dir}
use Rattle.spec_kinds.specs.declared.kind.Kind.{Kind}
use Rattle.spec_kinds.specs.declared.table.Use.{Use}
use Rattle.spec_kinds.specs.declared.table.Use.TheVariants.{Needed, Optional, Unused}
use Rattle.spec_kinds.specs.Table.{is_unused, row_of, takes_radii}
use Rattle.spec_scalars.specs.Quads.{Quadratic}
use Rattle.spec_requests.specs.declared.request.FindAsk.{FindAsk}
use Rattle.spec_requests.specs.declared.request.Named.{Named}
use Rattle.spec_requests.specs.declared.request.Named.TheVariants as opt
use Rattle.spec_requests.specs.declared.request.Relation.{Relation}
use Rattle.spec_requests.specs.declared.request.Relation.TheVariants.{Less}
use Rattle.spec_requests.specs.declared.request.Request.{Request}
use Rattle.spec_requests.specs.declared.request.Request.TheVariants.{Scalar}
use Rattle.spec_requests.specs.declared.request.WordFault.{WordFault}
use Rattle.spec_requests.specs.declared.request.WordFault.TheVariants.{BadValue}
use Rattle.spec_requests.specs.declared.tables.TheConstants.{FIND_OPTIONS, SET_OPTIONS}
use Rattle.spec_requests.specs.declared.limits.TheConstants.{DEFAULT_TICK}
use Rattle.spec_requests.specs.Names.{Text, axis_of, cut_of, dir_of, frame_of, kind_of, layout_of, observer_of, relation_of, target_of, tick_of_word}
use Rattle.spec_requests.specs.Options.{Values, bad_in_scalar, bad_in_set, bad_option, blocks_of, decimal_of, depth_of, has_relation, instant_of, is_bad, is_bad_in_scalar, is_bad_in_set, is_misread, passing, quad_of, relation_for, scalar_time_of, seed_of, set_kind_of, tick_in, use_of, use_of_ref2, width_of, workers_of}
use Rattle.spec_requests.specs.Requests.{ask_of, bad_word, checked_scalar, checked_search, checked_text, nought, nought_quad, scalar_by, scalar_of, search_by, search_of, search_of_kind, search_of_target, set_search_by, text_by, text_of, use_in_text, value_or}
use Rattle.option_values.specs.declared.polynomials.Polynomial.{Polynomial}
use Rattle.option_values.specs.Polynomials.{as_polynomial, polynomial_of}
use Rattle.option_values.specs.Parts.{needed, pair, part, required, used}
use Rattle.gf_words.specs.declared.scalars.ScalarOptions.{ScalarOptions}
use Rattle.gf_words.specs.declared.searches.SearchOptions.{SearchOptions}
use Rattle.gf_words.specs.declared.sets.References.{References}
use Rattle.gf_words.specs.Parts.{made, ask_of_parts, axes_by, axes_of, axes_read, bodies_by, bodies_of, bodies_read, ends_by, ends_of, ends_read, limits_by, limits_of, limits_read, numbers_by, numbers_of, numbers_read, references_after, references_by, references_of, references_read, scalar_by_options, scalar_of_parts, scalar_read, search_by_options, search_of_parts, search_read, text_of_parts, text_read, turns_read}

-- what is read, or the first option that is bad, where there is one
abbrev answer : {R : Type 0} → Option Named → R → Result R Named
answer None expected = Ok expected
answer (Some option) expected = Err option

-- ---- two readings, one after the other

find_before : (p : Named → Bool) (xs ys : List Named) (x : Named) → find p xs ≡ Some x → find p (xs ++ ys) ≡ Some x
find_before p [] ys x found = absurd (cc)
find_before p (y ∷ rest) ys x found = either (p y) (find_before p rest ys x) found
  where
    either : (b : Bool) → (find p rest ≡ Some x → find p (rest ++ ys) ≡ Some x) → cond b (Some y) (find p rest) ≡ Some x
        → cond b (Some y) (find p (rest ++ ys)) ≡ Some x
    either true more here = here
    either false more here = more here

find_after : (p : Named → Bool) (xs ys : List Named) → find p xs ≡ None → find p (xs ++ ys) ≡ find p ys
find_after p [] ys none = refl
find_after p (y ∷ rest) ys none = either (p y) (find_after p rest ys) none
  where
    either : (b : Bool) → (find p rest ≡ None → find p (rest ++ ys) ≡ find p ys) → cond b (Some y) (find p rest) ≡ None
        → cond b (Some y) (find p (rest ++ ys)) ≡ find p ys
    either true more here = absurd (cc)
    either false more here = more here

second_only : {A B : Type 0} (x : A) (y : B) (found : Option Named) → pair (Ok x) (answer found y) ≡ answer found (x, y)
second_only x y None = refl
second_only x y (Some option) = refl

paired : {A B : Type 0} (p : Named → Bool) (xs ys : List Named) (x : A) (y : B) (first : Result A Named) (second : Result B Named)
    → first ≡ answer (find p xs) x → second ≡ answer (find p ys) y → pair first second ≡ answer (find p (xs ++ ys)) (x, y)
paired p xs ys x y first second one other =
    (λ i. pair (one i) (other i)) ∙ by (find p xs) (find_before p xs ys) (find_after p xs ys) refl
  where
    by : (found : Option Named) → ((o : Named) → find p xs ≡ Some o → find p (xs ++ ys) ≡ Some o)
        → (find p xs ≡ None → find p (xs ++ ys) ≡ find p ys) → find p xs ≡ found
        → pair (answer found x) (answer (find p ys) y) ≡ answer (find p (xs ++ ys)) (x, y)
    by None before after is = second_only x y (find p ys) ∙ ap (λ (o : Option Named). answer o (x, y)) (sym (after is))
    by (Some option) before after is = ap (λ (o : Option Named). answer o (x, y)) (sym (before option is))

made_is : {A B : Type 0} (make : A → B) (found : Option Named) (x : A) (read : Result A Named) → read ≡ answer found x
    → made make read ≡ answer found (make x)
made_is make None x read is = ap (made make) is
made_is make (Some option) x read is = ap (made make) is

-- ---- one part

module _ {X : Type 0} (form : Text → Option X) (p : Named → Bool) (option : Named) where
  bad : (x : X) → p option ≡ true → Err option ≡ answer (find p (option ∷ [])) x
  bad x is = rw is refl

  left : (x : Option X) → p option ≡ true → Err option ≡ answer (find p (option ∷ [])) x
  left x is = rw is refl

  good : (x : X) → p option ≡ false → Ok x ≡ answer (find p (option ∷ [])) x
  good x is = rw is refl

  fine : (x : Option X) → p option ≡ false → Ok x ≡ answer (find p (option ∷ [])) x
  fine x is = rw is refl

  with_word : (usage : Use) (read : Option X) → p option ≡ (is_unused usage || not (is_some read))
      → used option usage read ≡ answer (find p (option ∷ [])) read
  with_word Needed None is = left None is
  with_word Optional None is = left None is
  with_word Unused None is = left None is
  with_word Needed (Some x) is = fine (Some x) is
  with_word Optional (Some x) is = fine (Some x) is
  with_word Unused (Some x) is = left (Some x) is

  -- a part that its usage may leave out
  pub one_part : (usage : Use) (given : Option Text) → p option ≡ is_misread form usage given
      → part form option usage given ≡ answer (find p (option ∷ [])) (option_and_then form given)
  one_part usage (Some word) is = with_word usage (form word) is
  one_part Needed None is = left None is
  one_part Optional None is = fine None is
  one_part Unused None is = fine None is

  of_word : (read : Option X) (default : X) → p option ≡ not (is_some read)
      → required option read ≡ answer (find p (option ∷ [])) (unwrap_or read default)
  of_word None default is = bad default is
  of_word (Some x) default is = good x is

  -- a part that has to be there
  pub needed_part : (given : Option Text) (default : X) → p option ≡ is_misread form Needed given
      → needed form option given ≡ answer (find p (option ∷ [])) (value_or form default given)
  needed_part (Some word) default is = of_word (form word) default is
  needed_part None default is = bad default is

-- ---- what an answer tells

none_bad : {R : Type 0} (first : Option Named) (expected read : R) → Ok read ≡ answer first expected
    → (first ≡ None) × (read ≡ expected)
none_bad None expected read is = (refl, cc)
none_bad (Some option) expected read is = absurd (cc)

one_bad : {R : Type 0} (first : Option Named) (expected : R) (option : Named) → Err option ≡ answer first expected
    → first ≡ Some option
one_bad None expected option is = absurd (cc)
one_bad (Some other) expected option is = let same : option ≡ other = cc in ap (λ (o : Named). Some o) (sym same)

-- ---- searches

first_number_is : (takes : Bool) (values : Values)
    → unwrap_or (if takes then option_and_then decimal_of (values opt.Radius1) else option_and_then decimal_of (values opt.Ref)) nought
    ≡ value_or decimal_of nought (values (if takes then opt.Radius1 else opt.Ref))
first_number_is true values = refl
first_number_is false values = refl

known_good : {X : Type 0} (form : Text → Option X) (given : Option Text) (x : X) → option_and_then form given ≡ Some x
    → is_misread form Needed given ≡ false
known_good form None x is = absurd (cc)
known_good form (Some word) x is = rw is refl

-- the options of each group, in their order

abbrev of_bodies : List Named
of_bodies = opt.Second ∷ opt.Observer ∷ []

abbrev of_axes : List Named
of_axes = opt.Frame ∷ opt.Axis ∷ []

abbrev of_numbers : List Named
of_numbers = opt.Ref ∷ opt.Radius1 ∷ opt.Radius2 ∷ []

abbrev of_ends : List Named
of_ends = opt.Tick ∷ opt.From ∷ opt.To ∷ []

abbrev of_limits : List Named
of_limits = opt.Width ∷ opt.Depth ∷ opt.Workers ∷ opt.Cut ∷ []

abbrev of_references : List Named
of_references = opt.Relation ∷ opt.Ref2 ∷ []

module _ (values : Values) where
  -- whether an option is bad that each search may leave out
  abbrev finds_any : Named → Bool
  finds_any option = is_bad (tick_in values) option Optional (values option)

  of_any : {X : Type 0} (form : Text → Option X) (option : Named) → finds_any option ≡ is_misread form Optional (values option)
      → part form option Optional (values option) ≡ answer (find finds_any (option ∷ [])) (option_and_then form (values option))
  of_any form option is = one_part form finds_any option Optional (values option) is

  ends_are : ends_read values ≡ answer (find finds_any of_ends) (ends_by values)
  ends_are =
      made_is ends_of (find finds_any of_ends) _ _ (paired finds_any (opt.Tick ∷ []) (opt.From ∷ opt.To ∷ []) _ _ _ _
      (of_any tick_of_word opt.Tick refl) (paired finds_any (opt.From ∷ []) (opt.To ∷ []) _ _ _ _
      (of_any (instant_of (tick_in values)) opt.From refl) (of_any (instant_of (tick_in values)) opt.To refl)))

  limits_are : limits_read values ≡ answer (find finds_any of_limits) (limits_by values)
  limits_are =
      made_is limits_of (find finds_any of_limits) _ _
      (paired finds_any (opt.Width ∷ opt.Depth ∷ []) (opt.Workers ∷ opt.Cut ∷ []) _ _ _ _
      (paired finds_any (opt.Width ∷ []) (opt.Depth ∷ []) _ _ _ _
      (of_any width_of opt.Width refl) (of_any depth_of opt.Depth refl))
      (paired finds_any (opt.Workers ∷ []) (opt.Cut ∷ []) _ _ _ _
      (of_any workers_of opt.Workers refl) (of_any cut_of opt.Cut refl)))

  turns_are : turns_read values ≡ answer (find finds_any (opt.Dir ∷ [])) (option_and_then dir_of (values opt.Dir))
  turns_are = of_any dir_of opt.Dir refl

module _ (values : Values) (kind : Kind) (target : Body) where
  -- whether the kind finds an option bad
  abbrev finds : Named → Bool
  finds option = is_bad (tick_in values) option (use_of option kind) (values option)

  of_one : {X : Type 0} (form : Text → Option X) (option : Named) (usage : Use)
      → finds option ≡ is_misread form usage (values option)
      → part form option usage (values option) ≡ answer (find finds (option ∷ [])) (option_and_then form (values option))
  of_one form option usage is = one_part form finds option usage (values option) is

  bodies_are : bodies_read values kind target ≡ answer (find finds of_bodies) (bodies_by values target)
  bodies_are =
      made_is (bodies_of target) (find finds of_bodies) _ _ (paired finds (opt.Second ∷ []) (opt.Observer ∷ []) _ _ _ _
      (of_one target_of opt.Second (row_of kind).second refl) (of_one observer_of opt.Observer Optional refl))

  axes_are : axes_read values kind ≡ answer (find finds of_axes) (axes_by values)
  axes_are =
      made_is axes_of (find finds of_axes) _ _ (paired finds (opt.Frame ∷ []) (opt.Axis ∷ []) _ _ _ _
      (of_one frame_of opt.Frame (row_of kind).frame refl) (of_one axis_of opt.Axis (row_of kind).axis refl))

  numbers_are : numbers_read values kind ≡ answer (find finds of_numbers) (numbers_by values kind)
  numbers_are =
      made_is (numbers_of kind) (find finds of_numbers) _ _ (paired finds (opt.Ref ∷ []) (opt.Radius1 ∷ opt.Radius2 ∷ []) _ _ _ _
      (of_one decimal_of opt.Ref (row_of kind).reference refl) (paired finds (opt.Radius1 ∷ []) (opt.Radius2 ∷ []) _ _ _ _
      (of_one decimal_of opt.Radius1 (row_of kind).radii refl) (of_one decimal_of opt.Radius2 (row_of kind).radii refl)))
      ∙ ap (answer (find finds of_numbers))
      (λ i. record { value1 = first_number_is (takes_radii kind) values i; value2 = value_or decimal_of nought (values opt.Radius2) })

  -- the options of a search, of which some are read after the numbers of its event
  options_are : {X : Type 0} (p : Named → Bool) (options : List Named) (last : Result X Named) (x : X)
      → bodies_read values kind target ≡ answer (find p of_bodies) (bodies_by values target)
      → axes_read values kind ≡ answer (find p of_axes) (axes_by values)
      → numbers_read values kind ≡ answer (find p of_numbers) (numbers_by values kind)
      → last ≡ answer (find p options) x
      → ends_read values ≡ answer (find p of_ends) (ends_by values)
      → limits_read values ≡ answer (find p of_limits) (limits_by values)
      → search_read last values kind target
      ≡ answer (find p (((of_bodies ++ of_axes) ++ (of_numbers ++ options)) ++ (of_ends ++ of_limits))) (search_by_options values kind target, x)
  unfolding ask_of
  options_are p options last x bodies axes numbers rest ends limits =
      let asked = (of_bodies ++ of_axes) ++ (of_numbers ++ options) in
      made_is search_of_parts (find p (asked ++ (of_ends ++ of_limits))) _ _ (paired p asked (of_ends ++ of_limits) _ _ _ _
      (made_is (ask_of_parts kind) (find p asked) _ _ (paired p (of_bodies ++ of_axes) (of_numbers ++ options) _ _ _ _
      (paired p of_bodies of_axes _ _ _ _ bodies axes) (paired p of_numbers options _ _ _ _ numbers rest)))
      (paired p of_ends of_limits _ _ _ _ ends limits))

-- the words give a kind, which is read so, and a target
pub record AreKnown (form : Text → Option Kind) (values : Values) (kind : Kind) (target : Body) : Type 0 where
  pub kind_is : option_and_then form (values opt.Kind) ≡ Some kind
  pub target_is : option_and_then target_of (values opt.Target) ≡ Some target

-- the first two options are good
after_two : (p : Named → Bool) (rest : List Named) → p opt.Kind ≡ false → p opt.Target ≡ false
    → find p rest ≡ find p (opt.Kind ∷ opt.Target ∷ rest)
after_two p rest kind target =
    sym (ap (λ (b : Bool). cond b (Some opt.Kind) (find p (opt.Target ∷ rest))) kind
    ∙ ap (λ (b : Bool). cond b (Some opt.Target) (find p rest)) target)

search_is_read : (values : Values) (kind : Kind) (target : Body) → AreKnown kind_of values kind target
    → search_read (turns_read values) values kind target
    ≡ answer (bad_option values kind) (search_by_options values kind target, option_and_then dir_of (values opt.Dir))
unfolding bad_option
search_is_read values kind target known =
    let p : Named → Bool = finds values kind target in
    options_are values kind target p (opt.Dir ∷ []) _ _ (bodies_are values kind target) (axes_are values kind target)
    (numbers_are values kind target) (turns_are values) (ends_are values) (limits_are values)
    ∙ ap (λ (o : Option Named). answer o (search_by_options values kind target, option_and_then dir_of (values opt.Dir)))
    (after_two p (drop 2 FIND_OPTIONS) (known_good kind_of (values opt.Kind) kind known.kind_is)
    (known_good target_of (values opt.Target) target known.target_is))

-- ---- sets

module _ (kind : Kind) (p : Named → Bool) (ref2 : Option Text) where
  one_bad_relation : (x : References) → p opt.Relation ≡ true → Err opt.Relation ≡ answer (find p of_references) x
  one_bad_relation x is = rw is refl

  good_relation : (relation : Relation) → p opt.Relation ≡ false
      → p opt.Ref2 ≡ is_misread decimal_of (use_of_ref2 (Some relation)) ref2
      → references_after ref2 (Ok relation)
      ≡ answer (find p of_references) (references_of relation (option_and_then decimal_of ref2))
  good_relation relation good second =
      made_is (references_of relation) (find p (opt.Ref2 ∷ [])) _ _
      (one_part decimal_of p opt.Ref2 (use_of_ref2 (Some relation)) ref2 second)
      ∙ ap (λ (o : Option Named). answer o (references_of relation (option_and_then decimal_of ref2)))
      (sym (ap (λ (b : Bool). cond b (Some opt.Relation) (find p (opt.Ref2 ∷ []))) good))

  of_found : (found : Option Relation) → p opt.Relation ≡ not (is_some (passing (has_relation kind) found))
      → p opt.Ref2 ≡ is_misread decimal_of (use_of_ref2 found) ref2
      → references_after ref2 (required opt.Relation (passing (has_relation kind) found))
      ≡ answer (find p of_references) (references_of (unwrap_or found Less) (option_and_then decimal_of ref2))
  of_found None first second = one_bad_relation _ first
  of_found (Some relation) first second = by (has_relation kind relation) first
    where
      by : (b : Bool) → p opt.Relation ≡ not (is_some (cond b (Some relation) None))
          → references_after ref2 (required opt.Relation (cond b (Some relation) None))
          ≡ answer (find p of_references) (references_of relation (option_and_then decimal_of ref2))
      by true is = good_relation relation is second
      by false is = one_bad_relation _ is

  of_relation : (given : Option Text) → p opt.Relation ≡ is_misread (relation_for kind) Needed given
      → p opt.Ref2 ≡ is_misread decimal_of (use_of_ref2 (option_and_then relation_of given)) ref2
      → references_after ref2 (needed (relation_for kind) opt.Relation given)
      ≡ answer (find p of_references) (references_of (unwrap_or (option_and_then relation_of given) Less) (option_and_then decimal_of ref2))
  of_relation None first second = one_bad_relation _ first
  of_relation (Some word) first second = of_found (relation_of word) first second

set_is_read : (values : Values) (kind : Kind) (target : Body) → AreKnown set_kind_of values kind target
    → search_read (references_read values kind) values kind target
    ≡ answer (bad_in_set values kind) (search_by_options values kind target, references_by values)
unfolding bad_in_set
set_is_read values kind target known =
    let p : Named → Bool = is_bad_in_set values kind in
    options_are values kind target p of_references _ _ (bodies_are values kind target) (axes_are values kind target)
    (numbers_are values kind target) (of_relation kind p (values opt.Ref2) (values opt.Relation) refl refl)
    (ends_are values) (limits_are values)
    ∙ ap (λ (o : Option Named). answer o (search_by_options values kind target, references_by values))
    (after_two p (drop 2 SET_OPTIONS) (known_good set_kind_of (values opt.Kind) kind known.kind_is)
    (known_good target_of (values opt.Target) target known.target_is))

-- ---- kinds and targets

abbrev bad_value : Named → Result FindAsk WordFault
bad_value option = Err (BadValue option)

module _ (form : Text → Option Kind) (bad : Kind → Option Named) (values : Values) (files : List Text) where
  -- the first of the two that is bad
  pub not_known : (option : Named)
      → Err option ≡ pair (needed form opt.Kind (values opt.Kind)) (needed target_of opt.Target (values opt.Target))
      → search_of_kind bad values files (option_and_then form (values opt.Kind)) ≡ Err (BadValue option)
  not_known option is = by (option_and_then form (values opt.Kind)) (option_and_then target_of (values opt.Target)) refl is
    where
      fault : (other : Named) → option ≡ other → bad_value other ≡ bad_value option
      fault other same = ap bad_value (sym same)

      by : (one : Option Kind) (other : Option Body) → option_and_then target_of (values opt.Target) ≡ other
          → Err option ≡ pair (required opt.Kind one) (required opt.Target other)
          → search_of_kind bad values files one ≡ Err (BadValue option)
      by None None second e = fault opt.Kind cc
      by None (Some y) second e = fault opt.Kind cc
      by (Some x) None second e = ap (search_of_target bad values files x) second ∙ fault opt.Target cc
      by (Some x) (Some y) second e = absurd (cc)

  -- where both are there, the first option that the kind finds bad
  of_known : (kind : Kind) (target : Body) → AreKnown form values kind target
      → search_of_kind bad values files (option_and_then form (values opt.Kind)) ≡ checked_search values kind target files (bad kind)
  of_known kind target known =
      ap (search_of_kind bad values files) known.kind_is ∙ ap (search_of_target bad values files kind) known.target_is

  all_good : {X : Type 0} (kind : Kind) (target : Body) (read : Result X Named) (x y : X) → AreKnown form values kind target
      → read ≡ answer (bad kind) y → Ok x ≡ read
      → (x ≡ y) × (search_of_kind bad values files (option_and_then form (values opt.Kind)) ≡ Ok (search_of values kind target files))
  all_good kind target read x y known is found =
      let none = none_bad (bad kind) y x (found ∙ is) in
      (none.1, of_known kind target known ∙ ap (checked_search values kind target files) none.0)

  option_bad : {X : Type 0} (kind : Kind) (target : Body) (read : Result X Named) (option : Named) (y : X)
      → AreKnown form values kind target → read ≡ answer (bad kind) y → Err option ≡ read
      → search_of_kind bad values files (option_and_then form (values opt.Kind)) ≡ Err (BadValue option)
  option_bad kind target read option y known is found =
      of_known kind target known
      ∙ ap (checked_search values kind target files) (one_bad (bad kind) y option (found ∙ is))

-- a search that was read, or the first option that is bad
pub search_found : (values : Values) (files : List Text) (kind : Kind) (target : Body) (last : Result (Option Dir) Named)
    (search : SearchOptions) (turns : Option Dir) → AreKnown kind_of values kind target → last ≡ turns_read values
    → Ok (search, turns) ≡ search_read last values kind target
    → ((search ≡ search_by_options values kind target) × (turns ≡ option_and_then dir_of (values opt.Dir)))
    × (search_by values files ≡ Ok (search_of values kind target files))
unfolding search_by
search_found values files kind target last search turns known last_is read =
    let is = ap (λ (l : Result (Option Dir) Named). search_read l values kind target) last_is ∙ search_is_read values kind target known in
    let all = all_good kind_of (bad_option values) values files kind target _ _ _ known is read in
    ((λ i. (all.0 i).0, λ i. (all.0 i).1), all.1)

pub search_bad : (values : Values) (files : List Text) (kind : Kind) (target : Body) (last : Result (Option Dir) Named)
    (option : Named) → AreKnown kind_of values kind target → last ≡ turns_read values
    → Err option ≡ search_read last values kind target → search_by values files ≡ Err (BadValue option)
unfolding search_by
search_bad values files kind target last option known last_is read =
    let is = ap (λ (l : Result (Option Dir) Named). search_read l values kind target) last_is ∙ search_is_read values kind target known in
    option_bad kind_of (bad_option values) values files kind target _ option _ known is read

-- and of a set
pub set_found : (values : Values) (files : List Text) (kind : Kind) (target : Body) (last : Result References Named)
    (search : SearchOptions) (references : References) → AreKnown set_kind_of values kind target
    → last ≡ references_read values kind → Ok (search, references) ≡ search_read last values kind target
    → ((search ≡ search_by_options values kind target) × (references ≡ references_by values))
    × (set_search_by values files ≡ Ok (search_of values kind target files))
unfolding set_search_by
set_found values files kind target last search references known last_is read =
    let is = ap (λ (l : Result References Named). search_read l values kind target) last_is ∙ set_is_read values kind target known in
    let all = all_good set_kind_of (bad_in_set values) values files kind target _ _ _ known is read in
    ((λ i. (all.0 i).0, λ i. (all.0 i).1), all.1)

pub set_bad : (values : Values) (files : List Text) (kind : Kind) (target : Body) (last : Result References Named)
    (option : Named) → AreKnown set_kind_of values kind target → last ≡ references_read values kind
    → Err option ≡ search_read last values kind target → set_search_by values files ≡ Err (BadValue option)
unfolding set_search_by
set_bad values files kind target last option known last_is read =
    let is = ap (λ (l : Result References Named). search_read l values kind target) last_is ∙ set_is_read values kind target known in
    option_bad set_kind_of (bad_in_set values) values files kind target _ option _ known is read

-- ---- scalars

mapped_some : {A B : Type 0} (f : A → B) (found : Option A) → is_some (option_map f found) ≡ is_some found
mapped_some f None = refl
mapped_some f (Some x) = refl

quad_misread : (given : Option Text) → is_misread quad_of Needed given ≡ is_misread polynomial_of Needed given
quad_misread None = refl
quad_misread (Some word) = ap not (sym (mapped_some as_polynomial (quad_of word)))

quad_value : (given : Option Text)
    → value_or polynomial_of (as_polynomial nought_quad) given ≡ as_polynomial (value_or quad_of nought_quad given)
quad_value None = refl
quad_value (Some word) = by (quad_of word)
  where
    by : (found : Option Quadratic)
        → unwrap_or (option_map as_polynomial found) (as_polynomial nought_quad) ≡ as_polynomial (unwrap_or found nought_quad)
    by None = refl
    by (Some k) = refl

scalar_is_read : (values : Values) → scalar_read values ≡ answer (bad_in_scalar values) (scalar_by_options values)
unfolding bad_in_scalar
scalar_is_read values =
    let p : Named → Bool = is_bad_in_scalar values in
    made_is scalar_of_parts (bad_in_scalar values) _ _
    (paired p (opt.Quad ∷ opt.Dir ∷ []) ((opt.From ∷ opt.To ∷ []) ++ of_limits) _ _ _ _
    (paired p (opt.Quad ∷ []) (opt.Dir ∷ []) _ _ _ _
    (needed_part polynomial_of p opt.Quad (values opt.Quad) (as_polynomial nought_quad) (quad_misread (values opt.Quad)))
    (turns_are values))
    (paired p (opt.From ∷ opt.To ∷ []) of_limits _ _ _ _
    (paired p (opt.From ∷ []) (opt.To ∷ []) _ _ _ _
    (needed_part scalar_time_of p opt.From (values opt.From) (pos 0) refl)
    (needed_part scalar_time_of p opt.To (values opt.To) (pos 0) refl))
    (limits_are values)))
    ∙ ap (λ (k : Polynomial). answer (bad_in_scalar values) (record (scalar_by_options values) { polynomial = k }))
    (quad_value (values opt.Quad))

pub scalar_found : (values : Values) (options : ScalarOptions) → Ok options ≡ scalar_read values
    → (options ≡ scalar_by_options values) × (scalar_by values ≡ Ok (Scalar (scalar_of values)))
unfolding scalar_by
scalar_found values options read =
    let found = none_bad (bad_in_scalar values) (scalar_by_options values) options (read ∙ scalar_is_read values) in
    (found.1, ap (checked_scalar values) found.0)

pub scalar_bad : (values : Values) (option : Named) → Err option ≡ scalar_read values → scalar_by values ≡ Err (BadValue option)
unfolding scalar_by
scalar_bad values option read =
    ap (checked_scalar values) (one_bad (bad_in_scalar values) (scalar_by_options values) option (read ∙ scalar_is_read values))

-- ---- generated texts

text_is_read : (values : Values) → text_read values ≡ answer (bad_word values) (text_of values)
unfolding bad_word text_of
text_is_read values =
    let p : Named → Bool = λ option. is_bad DEFAULT_TICK option (use_in_text option) (values option) in
    made_is text_of_parts (bad_word values) _ _
    (paired p (opt.Layout ∷ opt.Blocks ∷ []) (opt.Seed ∷ opt.Workers ∷ []) _ _ _ _
    (paired p (opt.Layout ∷ []) (opt.Blocks ∷ []) _ _ _ _
    (needed_part layout_of p opt.Layout (values opt.Layout) 405 refl)
    (needed_part blocks_of p opt.Blocks (values opt.Blocks) 1 refl))
    (paired p (opt.Seed ∷ []) (opt.Workers ∷ []) _ _ _ _
    (needed_part seed_of p opt.Seed (values opt.Seed) 0 refl)
    (one_part workers_of p opt.Workers Optional (values opt.Workers) refl)))

pub text_found : (values : Values) (request : Request) → Ok request ≡ text_read values → Ok request ≡ text_by values
unfolding text_by
text_found values request read =
    let found = none_bad (bad_word values) (text_of values) request (read ∙ text_is_read values) in
    ap (λ (r : Request). Ok r) found.1 ∙ sym (ap (checked_text values) found.0)

pub word_bad : (values : Values) (option : Named) → Err option ≡ text_read values → Err (BadValue option) ≡ text_by values
unfolding text_by
word_bad values option read =
    sym (ap (checked_text values) (one_bad (bad_word values) (text_of values) option (read ∙ text_is_read values)))
