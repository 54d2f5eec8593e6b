-- A search over some blocks reads the same there: the enclosures, the borders, the verdicts and the parts of nodes.
use Rattle.std.proofs.Common.{◌≡◌, ℕ, zero, suc, ◌+◌, ◌≤◌, ◌⊎◌, Bool, true, false, if◌then◌else◌, IsTrue, List, [], ◌∷◌, map, is_some, ℤ, ◌≤ℤ◌, ◌<ℤ◌, refl, ap, arith}
use Rattle.std.proofs.lemmas.Int.{ints}
use Rattle.std.proofs.lemmas.List.Elements.{All-weaker}
use Rattle.spec_intervals.specs.Enclosure.{Enclosure, constant_of, difference_of, product_of, sum_of}
use Rattle.spec_intervals.specs.Fraction.{Fraction}
use Rattle.spec_intervals.specs.Signs.{sign_of}
use Rattle.spec_expressions.specs.Term.{Leaf, Term, position, velocity, enclosure_of as term_enclosure}
use Rattle.spec_ephemeris.specs.Ephemeris.{Ephemeris, IsBorderIn, axis_series, end_of}
use Rattle.spec_ephemeris.specs.Header.{has_column}
use Rattle.spec_ephemeris.specs.Borders.{nearest_border}
use Rattle.spec_ephemeris.specs.Granules.{column_of, granule_at, series_at}
use Rattle.spec_ephemeris.proofs.GranuleAt.{granule_of_time}
use Rattle.spec_ephemeris.proofs.Granules.{nearest_once, one_granule}
use Rattle.spec_ephemeris.proofs.NearestBorders.{nearest_as, nearest_of_all}
use Rattle.spec_bodies.specs.declared.factor.Factor.{Factor}
use Rattle.spec_bodies.specs.declared.frame.Frame.{Frame}
use Rattle.spec_bodies.specs.declared.frame.Frame.TheVariants.{Eq, Ecl}
use Rattle.spec_bodies.specs.declared.quantity.Quantity.{Quantity}
use Rattle.spec_bodies.specs.declared.quantity.Quantity.TheVariants.{Position, Velocity}
use Rattle.spec_bodies.specs.Coordinates.{Coordinate, nothing, of_column, times, plus, less, displacement, in_frame}
use Rattle.spec_bodies.specs.Meanings.{enclosure_of, factor_interval}
use Rattle.spec_bodies.specs.Reading.{AllColumns, IsUsable}
use Rattle.spec_bodies.specs.Sources.{used}
use Rattle.spec_bodies.specs.Views.{column_enclosure, columns_of, coordinate_enclosure, coordinate_of, exact_state, factor_of, series_enclosure, state_enclosure, target_of}
use Rattle.spec_bodies.proofs.Formulas.{displacement_columns}
use Rattle.spec_bodies.proofs.InUse.{present_in_use, used_usable}
use Rattle.spec_trees.specs.declared.tree.Node.{Node}
use Rattle.spec_trees.specs.Cuts.{is_wide}
use Rattle.spec_events.specs.Soundness.{finding_of, findings_of}
use Rattle.spec_events.specs.Verdict.{verdict}
use Rattle.spec_searches.specs.Event.{Condition}
use Rattle.spec_searches.specs.Search.{IsSearch, Search, border_in, criteria, enclosure_over, evidence_at, guard_evidence, guards_from, parts, parts_by, verdict_of}
use Rattle.spec_spans.specs.Seams.{block_start}
use Rattle.spec_spans.specs.Searches.{over_blocks, some_blocks}
use Rattle.spec_spans.proofs.Fewer.{border_of_all, border_of_part, ends_within, granule_at_of_all, starts_later}

-- ---- formulas of columns that have the same enclosures
all_in_frame : (P : ℕ → ℕ → Type 0) (frame : Frame) (axis : ℕ) (own : ℕ → Coordinate) → ((axis : ℕ) → AllColumns P (own axis)) → AllColumns P (in_frame frame own axis)
all_in_frame P Eq axis own all = all axis
all_in_frame P Ecl zero own all = all 0
all_in_frame P Ecl (suc zero) own all = (all 1, all 2)
all_in_frame P Ecl (suc (suc axis)) own all = (all 2, all 1)

module _ (one other : ℕ → ℕ → Enclosure) (factors : Factor → Fraction) (a b : ℤ) where
  same_formula : (c : Coordinate) → AllColumns (λ number axis. one number axis ≡ other number axis) c → enclosure_of one factors a b c ≡ enclosure_of other factors a b c
  same_formula nothing all = refl
  same_formula (of_column number axis) all = all
  same_formula (times f x) all = ap (product_of a b (constant_of a b (factor_interval (factors f)))) (same_formula x all)
  same_formula (plus x y) all = λ i. sum_of a b (same_formula x all.0 i) (same_formula y all.1 i)
  same_formula (less x y) all = λ i. difference_of a b (same_formula x all.0 i) (same_formula y all.1 i)

module _ (s : Search) (is : IsSearch s) (skipped count : ℕ) (of_part : IsSearch (over_blocks skipped count s)) (there : skipped + count ≤ s.view.ephemeris.blocks)
    (last : ℤ) (next : (last <ℤ block_start s.view.ephemeris (skipped + count)) ⊎ (skipped + count ≡ s.view.ephemeris.blocks)) (ends : last ≤ℤ end_of (some_blocks skipped count s.view.ephemeris)) where
  abbrev e : Ephemeris
  e = s.view.ephemeris

  abbrev p : Ephemeris
  p = some_blocks skipped count e

  abbrev over : Search
  over = over_blocks skipped count s

  -- ---- enclosures
  same_series : (number axis : ℕ) (t : ℤ) → IsTrue (has_column e.header number) → p.start ≤ℤ t → t ≤ℤ last → series_at p number axis t ≡ series_at e number axis t
  same_series number axis t column from upto =
      let later = starts_later e skipped count is.view.checked there in
      let within = ends_within e skipped count is.view.checked there in
      ap (λ g. axis_series g (column_of e number).coefs axis)
      (one_granule e number t (granule_at p number t) (granule_at e number t) is.view.checked
      (granule_at_of_all e skipped count is.view.checked there last next number t (granule_at p number t) upto
      (granule_of_time p number t of_part.view.checked column of_part.view.block from (omega (arith, ints, upto, ends))))
      (granule_of_time e number t is.view.checked column is.view.block (omega (arith, ints, later, from)) (omega (arith, ints, upto, ends, within))))

  module _ (a b : ℤ) (from : p.start ≤ℤ a) (upto : a ≤ℤ last) where
    same_coordinate : (q : Quantity) (target axis : ℕ) → coordinate_enclosure over.view q target axis a b ≡ coordinate_enclosure s.view q target axis a b
    same_coordinate q target axis =
        let P : ℕ → ℕ → Type 0 = λ number x. column_enclosure over.view q a b number x ≡ column_enclosure s.view q a b number x in
        same_formula (column_enclosure over.view q a b) (column_enclosure s.view q a b) (factor_of s.view) a b (coordinate_of s.view target axis)
        (all_in_frame P s.view.frame axis (displacement (target_of s.view target) s.view.observer)
        (λ x. displacement_columns P x (target_of s.view target) s.view.observer
        (All-weaker (IsUsable s.view) (λ n. P n x) (λ n usable. ap (series_enclosure q a b) (same_series n x a usable.there from upto)) (used (target_of s.view target) s.view.observer) (used_usable s.view is.view target))))

    same_answer : (l : Leaf) → state_enclosure over.view l a b ≡ state_enclosure s.view l a b
    same_answer (position target axis) = same_coordinate Position target axis
    same_answer (velocity target axis) = same_coordinate Velocity target axis

    same_term : (x : Term) → enclosure_over (state_enclosure over.view) x a b ≡ enclosure_over (state_enclosure s.view) x a b
    same_term x = λ i. term_enclosure (λ l. same_answer l i) a b x

  -- ---- nodes
  module _ (n : Node) (from : p.start ≤ℤ n.a) (some : n.a <ℤ n.b) (upto : n.b ≤ℤ last) where
    same_border : border_in over n ≡ border_in s n
    same_border =
        let columns : List ℕ = columns_of s.view in
        nearest_once (IsBorderIn e columns n.a n.b) n.a n.b (nearest_border p columns n.a n.b) (nearest_border e columns n.a n.b)
        (nearest_as (IsBorderIn p columns n.a n.b) (IsBorderIn e columns n.a n.b) n.a n.b (nearest_border p columns n.a n.b)
        (λ t border. border_of_all e skipped count is.view.checked there last next columns n.a n.b t border)
        (λ t border. border_of_part e skipped count is.view.checked there last next columns n.a n.b t from upto border)
        (nearest_of_all p columns n.a n.b of_part.view.checked (present_in_use over.view of_part.view)))
        (nearest_of_all e columns n.a n.b is.view.checked (present_in_use s.view is.view))

    chosen : (wide : Bool) → (p.start ≤ℤ (if wide then n.a else n.b)) × ((if wide then n.a else n.b) ≤ℤ last)
    chosen true = (from, omega (arith, ints, some, upto))
    chosen false = (omega (arith, ints, from, some), upto)

    same_guards : (cs : List Condition) → map finding_of (map (guard_evidence (exact_state over.view) (state_enclosure over.view) n) cs)
        ≡ map finding_of (map (guard_evidence (exact_state s.view) (state_enclosure s.view) n) cs)
    same_guards [] = refl
    same_guards (c ∷ cs) =
        let at = chosen (is_wide n) in
        let one = same_term (guards_from n) n.b at.0 at.1 c.term in
        let others = same_guards cs in
        λ i. record { at_least = c.at_least; sign = sign_of (one i).range } ∷ others i

    same_findings : findings_of (evidence_at over n) ≡ findings_of (evidence_at s n)
    same_findings =
        let first = same_term n.a n.a from (omega (arith, ints, some, upto)) s.event.function in
        let final = same_term n.b n.b (omega (arith, ints, from, some)) upto s.event.function in
        let whole = same_term n.a n.b from (omega (arith, ints, some, upto)) s.event.function in
        let guards = same_guards s.event.conditions in
        λ i. record {
          crosses = is_some (same_border i);
          at_first = sign_of (first i).range;
          at_last = sign_of (final i).range;
          over = sign_of (whole i).range;
          step = (whole i).step;
          guards = guards i;
        }

    pub same_verdict : verdict_of over n ≡ verdict_of s n
    unfolding verdict_of
    same_verdict = ap (verdict (criteria s) n) same_findings

    pub same_parts : parts over n ≡ parts s n
    same_parts = ap (λ x. parts_by s.cut x n) same_border
