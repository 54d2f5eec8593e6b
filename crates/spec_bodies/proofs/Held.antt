-- The enclosures of a column over times that fit hold its position and its velocity, and so do those of a body.
use Rattle.std.proofs.Common.{◌≡◌, ℕ, ◌+◌, ◌*◌, ◌^◌, ◌<◌, ◌≤◌, ap, sym, subst, arith, ℤ, pos, negsuc, ◌+ℤ◌, ◌*ℤ◌, ◌<ℤ◌, ◌≤ℤ◌, unsigned_abs}
use Rattle.std.proofs.lemmas.Int.{ints}
use Rattle.std.proofs.lemmas.List.Elements.{All-weaker}
use Rattle.std.proofs.lemmas.Nat.{mul-le}
use Rattle.spec_intervals.specs.Fraction.{IsFraction, Holds, fraction_sub}
use Rattle.spec_ephemeris.specs.declared.limits.TheConstants.{FIRST_TICK, LAST_TICK, MAX_BLOCKS, LONGEST_TICKS}
use Rattle.spec_ephemeris.specs.Series.{Series}
use Rattle.spec_ephemeris.specs.Ephemeris.{IsBorder}
use Rattle.spec_motions.specs.Enclosures.{IsSeries, IsSpanOf}
use Rattle.spec_intervals.specs.Enclosure.{IsEnclosure, Encloses, AllFractions, AllWithin, IsSpan, change, middle}
use Rattle.spec_expressions.specs.Term.{Leaf, position as position_of, velocity as velocity_of, IsLeaf}
use Rattle.spec_intervals.proofs.Centred.{middle_between}
use Rattle.spec_intervals.proofs.Enclosed.{IsEnclosure-parts}
use Rattle.spec_bodies.specs.Sources.{used}
use Rattle.spec_bodies.specs.declared.quantity.Quantity.{Quantity}
use Rattle.spec_bodies.specs.declared.quantity.Quantity.TheVariants.{Position, Velocity}
use Rattle.spec_bodies.specs.Coordinates.{Coordinate, displacement}
use Rattle.spec_ephemeris.specs.Granules.{series_at}
use Rattle.spec_bodies.specs.Reading.{AllColumns, IsUsable, IsReadable, IsShort, column_lowest, column_highest}
use Rattle.spec_bodies.specs.Meanings.{exact_of}
use Rattle.spec_bodies.specs.Views.{View, Fits, target_of, coordinate_of, factor_of, exact_value, exact_column, exact_state, value_interval, step_interval, series_enclosure, column_enclosure, formula_enclosure, state_enclosure}
use Rattle.spec_bodies.proofs.Formulas.{IsHeld, displacement_columns, in_frame_columns, IsFraction-factor, all_columns, AllFractions-coordinate, IsEnclosure-coordinate}
use Rattle.spec_bodies.proofs.InUse.{used_usable}
use Rattle.spec_bodies.proofs.Columns.{same_series, span_of, series_of}
use Rattle.spec_intervals.proofs.EnclosureExponents.{AreBetween, enclosure-between}
use Rattle.spec_intervals.proofs.Exponents.{between-more}
use Rattle.spec_bodies.proofs.Series.{IsFraction-value, Holds-value, Holds-step, value-between, step-between, mid_span}
use Rattle.spec_bodies.proofs.Factors.{factor_is}
use Rattle.spec_bodies.proofs.Bounds.{between_of, displacement_low, in_frame_low, within_of}

-- ---- a quantity of a series, over times at which the series is the same
module _ (quantity : Quantity) (a b : ℤ) (ab : a ≤ℤ b) (series : ℤ → Series) (same : (t : ℤ) → a ≤ℤ t → t ≤ℤ b → series t ≡ series a)
    (is : IsSeries (series a)) (span : IsSpanOf (series a) a b) where
  at : (t : ℤ) → a ≤ℤ t → t ≤ℤ b → exact_value quantity (series a) t ≡ exact_value quantity (series t) t
  at t p q = ap (λ s. exact_value quantity s t) (sym (same t p q))

  fractions_of_series : AllFractions (λ t. exact_value quantity (series t) t) a b
  fractions_of_series t p q = subst IsFraction (at t p q) (IsFraction-value (series a) is quantity t)

  changes : (t : ℤ) → a ≤ℤ t → t <ℤ b → fraction_sub (exact_value quantity (series a) (t +ℤ pos 1)) (exact_value quantity (series a) t) ≡ change (λ t. exact_value quantity (series t) t) t
  changes t p q = λ i. fraction_sub (at (t +ℤ pos 1) (omega (arith, ints, p)) (omega (arith, ints, q)) i) (at t p (omega (arith, ints, q)) i)

  enclosure_of_series : IsEnclosure (λ t. exact_value quantity (series t) t) a b (series_enclosure quantity a b (series a))
  enclosure_of_series =
      let between = middle_between a b ab in
      IsEnclosure-parts (λ t. exact_value quantity (series t) t) a b fractions_of_series ab (value_interval quantity (series a) (middle a b) (middle a b)) (value_interval quantity (series a) a b) (step_interval quantity (series a) a b) (record {
        mid = subst (Holds (value_interval quantity (series a) (middle a b) (middle a b))) (at (middle a b) between.0 between.1) (Holds-value (series a) is (middle a b) (middle a b) (mid_span (series a) a b span) quantity (middle a b) (omega (arith, ints)) (omega (arith, ints)));
        plain = λ t p q. subst (Holds (value_interval quantity (series a) a b)) (at t p q) (Holds-value (series a) is a b span quantity t p q);
        step = λ t p q. subst (Holds (step_interval quantity (series a) a b)) (changes t p q) (Holds-step (series a) is a b span quantity t p q);
      })

-- ---- a quantity of a column that is usable
module _ (v : View) (a b : ℤ) (fits : Fits v a b) where
  none_of : (number : ℕ) → IsUsable v number → (t : ℤ) → IsBorder v.ephemeris number t → a <ℤ t → t ≤ℤ b → ⊥
  none_of number usable t border after upto = fits.no_border t (record { number = number; listed = usable.in_use; border = border; after = after; upto = upto })

  module _ (number axis : ℕ) (three : axis < 3) (usable : IsUsable v number) where
    pub same : (t : ℤ) → a ≤ℤ t → t ≤ℤ b → series_at v.ephemeris number axis t ≡ series_at v.ephemeris number axis a
    same = same_series v.ephemeris number fits.view.checked usable.there fits.view.block a b fits.from fits.ordered fits.upto (none_of number usable) axis

    pub own_series : IsSeries (series_at v.ephemeris number axis a)
    own_series = series_of v.ephemeris number fits.view.checked usable.there fits.view.block a b fits.from fits.ordered fits.upto (none_of number usable) axis three usable.of_body

    pub own_span : IsSpanOf (series_at v.ephemeris number axis a) a b
    own_span = span_of v.ephemeris number fits.view.checked usable.there fits.view.block a b fits.from fits.ordered fits.upto (none_of number usable) axis

    column_held : (quantity : Quantity) → IsHeld a b (exact_column v quantity) (column_enclosure v quantity a b) number axis
    column_held quantity = (
      fractions_of_series quantity a b fits.ordered (series_at v.ephemeris number axis) same own_series own_span,
      enclosure_of_series quantity a b fits.ordered (series_at v.ephemeris number axis) same own_series own_span,
    )

  -- what is true of every usable column is true of those of a coordinate
  pub coordinate_columns : (P : ℕ → ℕ → Type 0) → ((number axis : ℕ) → axis < 3 → IsUsable v number → P number axis) → (target axis : ℕ) → axis < 3 → AllColumns P (coordinate_of v target axis)
  coordinate_columns P all target axis three =
      in_frame_columns P v.frame axis (displacement (target_of v target) v.observer) three
      (λ k below. displacement_columns P k (target_of v target) v.observer (All-weaker (IsUsable v) (λ n. P n k) (λ n usable. all n k below usable) (used (target_of v target) v.observer) (used_usable v fits.view target)))

  pub readable_columns : (target axis : ℕ) → axis < 3 → AllColumns (IsReadable v) (coordinate_of v target axis)
  readable_columns = coordinate_columns (IsReadable v) (λ number axis three usable. record { usable = usable; along = three })

  -- any formula over columns that can be read
  module _ (quantity : Quantity) (c : Coordinate) (readable : AllColumns (IsReadable v) c) where
    held : AllColumns (IsHeld a b (exact_column v quantity) (column_enclosure v quantity a b)) c
    held = all_columns (IsReadable v) _ (λ number axis is. column_held number axis is.along is.usable quantity) c readable

    fractions_of_formula : AllFractions (exact_of (exact_column v quantity) (factor_of v) c) a b
    fractions_of_formula = AllFractions-coordinate a b fits.ordered _ _ (factor_of v) (IsFraction-factor v.ephemeris.header.emrat) c held

    formula_held : IsEnclosure (exact_of (exact_column v quantity) (factor_of v) c) a b (formula_enclosure v quantity a b c)
    formula_held = IsEnclosure-coordinate a b fits.ordered _ _ (factor_of v) (IsFraction-factor v.ephemeris.header.emrat) c held

    pub formula_encloses : Encloses a b (formula_enclosure v quantity a b c)
    formula_encloses = record { exact = exact_of (exact_column v quantity) (factor_of v) c; numbers = fractions_of_formula; is_enclosure = formula_held }

  pub fractions_of_states : (leaf : Leaf) → IsLeaf leaf → AllFractions (exact_state v leaf) a b
  fractions_of_states (position_of target axis) is = fractions_of_formula Position (coordinate_of v target axis) (readable_columns target axis is.1)
  fractions_of_states (velocity_of target axis) is = fractions_of_formula Velocity (coordinate_of v target axis) (readable_columns target axis is.1)

  pub states_held : (leaf : Leaf) → IsLeaf leaf → IsEnclosure (exact_state v leaf) a b (state_enclosure v leaf a b)
  states_held (position_of target axis) is = formula_held Position (coordinate_of v target axis) (readable_columns target axis is.1)
  states_held (velocity_of target axis) is = formula_held Velocity (coordinate_of v target axis) (readable_columns target axis is.1)

-- ---- exponents
far : (start a : ℤ) (blocks : ℕ) (block : ℤ) → FIRST_TICK ≤ℤ start → start ≤ℤ LAST_TICK → blocks ≤ MAX_BLOCKS → pos 1 ≤ℤ block → block ≤ℤ LONGEST_TICKS
    → start ≤ℤ a → a ≤ℤ (start +ℤ (pos blocks *ℤ block)) → unsigned_abs a ≤ 2 ^ 50
far start a blocks (pos block) first last few some long from to =
    let all : blocks * block ≤ 16384 * 5529600000 = mul-le blocks block 16384 5529600000 few (omega (arith, ints, long)) in omega (arith, ints, first, last, from, to, all)
far start a blocks (negsuc block) first last few some long from to = absurd (omega (arith, ints, some))

module _ (v : View) (a b : ℤ) (fits : Fits v a b) where
  pub times_span : IsSpan a b
  times_span =
      let checked = fits.view.checked in
      let ab = fits.ordered in
      let from = fits.from in
      let to = fits.upto in
      record {
        ordered = fits.ordered;
        first_near = far v.ephemeris.start a v.ephemeris.blocks v.ephemeris.header.block_seconds checked.start.0 checked.start.1 checked.few checked.header.shortest checked.header.longest fits.from (omega (arith, ints, ab, to));
        last_near = far v.ephemeris.start b v.ephemeris.blocks v.ephemeris.header.block_seconds checked.start.0 checked.start.1 checked.few checked.header.shortest checked.header.longest (omega (arith, ints, ab, from)) fits.upto;
      }

  column_between : (quantity : Quantity) (number axis : ℕ) → axis < 3 → IsUsable v number → AreBetween column_lowest column_highest (column_enclosure v quantity a b number axis)
  column_between quantity number axis three usable =
      let s = series_at v.ephemeris number axis a in
      let is = own_series v a b fits number axis three usable in
      let span = own_span v a b fits number axis three usable in
      enclosure-between a b times_span column_lowest column_highest _ _ _
      (value-between s is (middle a b) (middle a b) (mid_span s a b span) quantity)
      (between-more column_lowest column_highest column_lowest (column_highest + 63) _ (omega arith) (omega arith) (value-between s is a b span quantity))
      (step-between s is a b span quantity)

  pub formula_within : (quantity : Quantity) (c : Coordinate) → AllColumns (IsReadable v) c → IsShort c → AllWithin 256 (formula_enclosure v quantity a b c)
  formula_within quantity c readable short =
      within_of c _ short
      (between_of a b times_span (column_enclosure v quantity a b) (factor_of v) (factor_is v.ephemeris.header.emrat fits.view.checked.header.ratio) c
      (all_columns (IsReadable v) _ (λ number axis is. column_between quantity number axis is.along is.usable) c readable))

  short_of : (target axis : ℕ) → IsShort (coordinate_of v target axis)
  short_of target axis = in_frame_low v.frame axis (displacement (target_of v target) v.observer) (λ k. displacement_low k (target_of v target) v.observer)

  pub states_within : (leaf : Leaf) → IsLeaf leaf → AllWithin 256 (state_enclosure v leaf a b)
  states_within (position_of target axis) is = formula_within Position (coordinate_of v target axis) (readable_columns v a b fits target axis is.1) (short_of target axis)
  states_within (velocity_of target axis) is = formula_within Velocity (coordinate_of v target axis) (readable_columns v a b fits target axis is.1) (short_of target axis)
