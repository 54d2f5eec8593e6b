-- Models of sums, positions and velocities cover these.
use Rattle.std.proofs.Common.{◌≡◌, ◌∙◌, ℕ, zero, suc, ◌*◌, ◌^◌, ◌<◌, ◌≤◌, arith, refl, sym, ap, subst, List, [], ◌∷◌, length, drop, map, ℤ, pos, neg_ℤ, ◌-ℤ◌, ◌≤ℤ◌, ◌<ℤ◌, unsigned_abs, Option, None, Some}
use Rattle.std.specs.Prelude.{IfSome, All}
use Rattle.std.proofs.lemmas.Int.{ints}
use Rattle.std.proofs.lemmas.List.{drop-map}
use Rattle.spec_intervals.specs.Fraction.{Fraction, Holds, fraction, fraction_scale}
use Rattle.spec_intervals.specs.Interval.{Interval, interval}
use Rattle.spec_models.proofs.Inclusions.{holds_ordered}
use Rattle.spec_chebyshev.specs.declared.ends.Ival62.{Ival62}
use Rattle.spec_chebyshev.specs.Differences.{IsArgument}
use Rattle.spec_chebyshev.specs.Rows.{IsArguments}
use Rattle.spec_ephemeris.specs.declared.granule.Granule.{Granule}
use Rattle.spec_ephemeris.specs.declared.granule.Rounded.{Rounded}
use Rattle.spec_ephemeris.specs.Series.{Series}
use Rattle.spec_ephemeris.specs.Granules.{series_of}
use Rattle.spec_motions.specs.Enclosures.{IsSeries, IsSpanOf, arguments, coefficients_of}
use Rattle.spec_motions.proofs.GranuleSeries.{IsSeries-of, IsSpan-of}
use Rattle.spec_bodies.specs.declared.quantity.Quantity.{Quantity}
use Rattle.spec_bodies.specs.declared.quantity.Quantity.TheVariants.{Position, Velocity}
use Rattle.spec_bodies.specs.Views.{exact_value, value_interval}
use Rattle.spec_bodies.proofs.Series.{Holds-value, IsFraction-value}
use Rattle.spec_models.specs.Ends.{IsOrdered}
use Rattle.spec_models.specs.Models.{Covers, Model, bulk, sizes, widened}
use Rattle.spec_covers.specs.Series.{argument_model, middle_argument, of_entry, sums, value_sum}
use Rattle.spec_chebyshev.specs.Rows.{u_unit}
use Rattle.spec_motions.specs.Enclosures.{sum_exponent}
use Rattle.spec_covers.specs.Combining.{IsUpto, ScalesTo, scaled_loss}
use Rattle.spec_covers.proofs.Enough.{enough_alone}
use Rattle.spec_covers.proofs.Near.{near_held}
use Rattle.spec_covers.proofs.Units.{ScalesTo-product}
use Rattle.spec_covers.proofs.Values.{Covers-position, Covers-velocity, IsArguments-at}
use Rattle.span_models.specs.Near.{IsProductOf}
use Rattle.span_models.specs.Settled.{Reaches}
use Rattle.span_models.specs.Sizes.{IsSmall, IsWithin, size_limit, terms}
use Rattle.spec_motions.specs.Pairs.{term_of}
use Rattle.spec_covers.proofs.Argument.{Covers-arguments}
use Rattle.event_models.proofs.Rules.{is_argument}
use Rattle.event_models.specs.declared.row_room.RowRoom.{RowRoom}
use Rattle.event_models.specs.declared.rows.RowModel.{RowModel}
use Rattle.event_models.specs.declared.sums.Wide.{Wide}
use Rattle.event_models.specs.Covered.{argument}
use Rattle.event_models.specs.Rows.{AreEntries}
use Rattle.event_models.specs.Sums.{IsSumOf, of_sum}
use Rattle.event_models.specs.Factors.{IsFactor}
use Rattle.event_models.specs.Made.{AreMade, row_over, row_unit}
use Rattle.event_models.specs.Granules.{IsAxisModel, IsGranuleOver, IsServed, IsSumModel, IsValueOf, first_place, line_over}

-- ---- what reaches a model covers with it
reached : (m n : Model) (p q : ℤ) (x : Interval) → IsArgument p q → Reaches m n → Covers m p q x → Covers n p q x
reached m n p q x is reaches covers = record { low = reaches p q _ is covers.low; high = reaches p q _ is covers.high }

-- ---- the sum of a quantity is that of the row over the argument, from its first place on
value_sum_is : (quantity : Quantity) (s : Series) (t : ℤ)
    → sums (row_unit quantity) (row_over quantity (arguments s t t)) (first_place quantity) (drop (first_place quantity) (coefficients_of s)) ≡ value_sum quantity s t
value_sum_is Position s t = refl
value_sum_is Velocity s t = refl

-- the entries of one room serve fewer coefficients
fewer : (n : ℕ) (p q : ℤ) (row : ℕ → Ival62) (a b : ℕ) (rows : List RowModel) → a ≤ b → AreEntries n p q row b rows → AreEntries n p q row a rows
fewer n p q row a b rows few entries k below = entries k (omega (arith, few, below))

module _ (quantity : Quantity) (c d : ℤ) (g : Granule) (axis : ℕ) (later : c <ℤ d) (over : IsGranuleOver c d g) (three : axis < 3) where
  along : axis < g.comps
  along = rw over.axes three

  pub is_series : IsSeries (series_of g axis)
  is_series = IsSeries-of g over.evaluable axis along

  pub is_span : IsSpanOf (series_of g axis) c d
  is_span = IsSpan-of g over.evaluable axis along c d over.from (omega (arith, ints, later)) over.upto

  -- the ends of a value are in order
  pub value_ordered : (t : ℤ) → c ≤ℤ t → t ≤ℤ d → IsOrdered (value_interval quantity (series_of g axis) t t)
  value_ordered t after before =
      let from = is_span.from in
      let to = is_span.to in
      let own : IsSpanOf (series_of g axis) t t = record { from = omega (arith, ints, from, after); ordered = omega (arith, ints); to = omega (arith, ints, to, before) } in
      holds_ordered (value_interval quantity (series_of g axis) t t) (exact_value quantity (series_of g axis) t) (IsFraction-value (series_of g axis) is_series quantity t)
      (Holds-value (series_of g axis) is_series t t own quantity t (omega (arith, ints)) (omega (arith, ints)))

  -- where a model covers the sums, one that covers values with it is one of the values
  pub axis_made : (m : Model) (r : Option Model) → IsSumModel quantity c d (series_of g axis) m → IfSome r (IsValueOf quantity (series_of g axis) m)
      → ((t : ℤ) → c ≤ℤ t → t ≤ℤ d → IsArgument (argument c d t) (d -ℤ c)) → IsAxisModel quantity c d g axis r
  axis_made m None sums values arguments = values
  axis_made m (Some k) sums values arguments = λ t after before. record {
    ordered = value_ordered t after before;
    covers = values (argument c d t) (d -ℤ c) t (arguments t after before) (sums t after before);
  }

  -- the sum with the entries of a room covers that of the series at each time
  module _ (room : RowRoom) (served : IsServed quantity c d g room) (pairs : List Rounded) (terms_are : map term_of pairs ≡ coefficients_of (series_of g axis)) (count : length pairs ≡ g.n)
      (wide : Wide) (m : Model) (sum : IsSumOf pairs room.rows (first_place quantity) wide) (reaches : Reaches (of_sum wide) m)
      (is_argument : (t : ℤ) → c ≤ℤ t → t ≤ℤ d → IsArgument (argument c d t) (d -ℤ c))
      (are_arguments : (t : ℤ) → c ≤ℤ t → t ≤ℤ d → IsArguments (arguments (series_of g axis) t t))
      (line : (unit : ℕ) (t : ℤ) → c ≤ℤ t → t ≤ℤ d → Covers (argument_model unit (middle_argument (series_of g axis) c d) (d -ℤ c) (series_of g axis).duration) (argument c d t) (d -ℤ c) (of_entry unit (arguments (series_of g axis) t t))) where
    made : AreMade quantity (line_over c d g.start (unsigned_abs g.seconds)) room.entries room.rows
    made = subst (λ l. AreMade quantity l room.entries room.rows) served.line (subst (λ own. AreMade own room.line room.entries room.rows) served.same room.made)

    coefficients_are : map term_of (drop (first_place quantity) pairs) ≡ drop (first_place quantity) (coefficients_of (series_of g axis))
    coefficients_are = sym (drop-map term_of (first_place quantity) pairs) ∙ ap (drop (first_place quantity)) terms_are

    entries : (t : ℤ) → c ≤ℤ t → t ≤ℤ d → AreEntries (row_unit quantity) (argument c d t) (d -ℤ c) (row_over quantity (arguments (series_of g axis) t t)) (length pairs) room.rows
    entries t after before =
        let few = served.few in
        let x = arguments (series_of g axis) t t in
        fewer (row_unit quantity) (argument c d t) (d -ℤ c) (row_over quantity x) (length pairs) room.entries room.rows (omega (arith, few, count))
        (made.covers (argument c d t) (d -ℤ c) x (is_argument t after before) (are_arguments t after before) (line 60 t after before) (line 59 t after before))

    pub sum_made : IsSumModel quantity c d (series_of g axis) m
    sum_made t after before =
        let x = arguments (series_of g axis) t t in
        reached (of_sum wide) m (argument c d t) (d -ℤ c) _ (is_argument t after before) reaches
        (subst (λ s. Covers (of_sum wide) (argument c d t) (d -ℤ c) s)
        ((λ i. sums (row_unit quantity) (row_over quantity x) (first_place quantity) (coefficients_are i)) ∙ value_sum_is quantity (series_of g axis) t)
        (sum (row_unit quantity) (argument c d t) (d -ℤ c) (row_over quantity x) (is_argument t after before) (entries t after before)))

-- ---- no number near a model of the code is past 2^64 units
sizes_small : (xs : List ℤ) (n : ℕ) → length xs ≡ n → All (IsWithin size_limit) xs → sizes xs ≤ n * size_limit
sizes_small [] n count small = omega arith
sizes_small (x ∷ xs) zero count small = absurd (omega (arith, count))
sizes_small (x ∷ xs) (suc n) count small =
    let own = small 0 (pos 0) (omega arith) in
    let rest = sizes_small xs n (omega (arith, count)) (λ k e below. small (suc k) e (omega (arith, below))) in
    omega (arith, own, rest)

pub bulk_small : (m : Model) → IsSmall m → bulk m ≤ 64 * 2 ^ 58
bulk_small m is =
    let numbers = sizes_small m.coefficients terms is.coefficients.count is.coefficients.small in
    let error = is.error in
    omega (arith, numbers, error)

-- ---- values of sums
pub position_made : (m : Model) (r : Option Model) → IsSmall m → IfSome r (λ k. k ≡ widened 64 m) → (s : Series) → IfSome r (IsValueOf Position s m)
position_made m None small made s = made
position_made m (Some k) small made s = λ p q t is covers.
    subst (λ n. Covers n p q (value_interval Position s t t)) (sym made) (Covers-position 64 p q is s t m (enough_alone m 64 (bulk_small m small)) covers)

pub velocity_made : (m product : Model) (r : Option Model) (units length : ℕ) → ScalesTo length m product → IsUpto units product (scaled_loss (sum_exponent u_unit) m length)
    → IfSome r (λ k. k ≡ widened units product) → (s : Series) → IsSeries s → s.duration ≡ length → IfSome r (IsValueOf Velocity s m)
velocity_made m product None units length scales upto made s is same = made
velocity_made m product (Some k) units length scales upto made s is same = λ p q t argument covers.
    subst (λ n. Covers n p q (value_interval Velocity s t t)) (sym made)
    (Covers-velocity units p q argument s t m product is (subst (λ l. ScalesTo l m product) (sym same) scales) (subst (λ l. IsUpto units product (scaled_loss (sum_exponent u_unit) m l)) (sym same) upto) covers)

-- 2 / length times the numbers near m
pub scaled_made : (m factor : Model) (r : Option Model) (length : ℕ) → 0 < length → IsFactor length factor → IfSome r (λ k. IsProductOf k m factor) → IfSome r (ScalesTo length m)
scaled_made m factor None length positive near made = made
scaled_made m factor (Some k) length positive near made = ScalesTo-product m factor k length positive (λ p q r t is near other. made p q r t is near other) near

-- what covers an interval that holds 2 / length is a model of it
pub factor_made : (x : Interval) (r : Option Model) (length : ℕ) → 0 < length → IfSome r (λ m. (p q : ℤ) → IsArgument p q → Covers m p q x) → Holds x (fraction (pos 2) length) → IfSome r (IsFactor length)
factor_made x None length positive covers holds = covers
factor_made x (Some m) length positive covers holds = λ p q is. near_held m p q is x (fraction (pos 2) length) positive (covers p q is) holds

pub one_scaled : (x : Interval) (length : ℕ) → ((r : Fraction) → Holds (interval (pos (2 ^ 120)) (pos (2 ^ 120)) (neg_ℤ (pos 120))) r → Holds x (fraction_scale r length)) → Holds x (fraction (pos 2) length)
one_scaled x length holds =
    let same : 1 * length ≡ length = omega arith in
    subst (λ n. Holds x (fraction (pos 2) n)) same (holds (fraction (pos 1) 1) (record { low = omega (arith, ints); high = omega (arith, ints) }))

-- of what is made, if it is
pub sums_made : (quantity : Quantity) (c d : ℤ) (g : Granule) (axis : ℕ) (room : RowRoom) (later : c <ℤ d) (over : IsGranuleOver c d g) (three : axis < 3) (served : IsServed quantity c d g room)
    (pairs : List Rounded) (terms_are : map term_of pairs ≡ coefficients_of (series_of g axis)) (count : length pairs ≡ g.n)
    (wide : Wide) (sum : IsSumOf pairs room.rows (first_place quantity) wide) (r : Option Model) → IfSome r (Reaches (of_sum wide)) → IfSome r (IsSumModel quantity c d (series_of g axis))
sums_made quantity c d g axis room later over three served pairs terms_are count wide sum None reaches = reaches
sums_made quantity c d g axis room later over three served pairs terms_are count wide sum (Some m) reaches =
    let series = is_series quantity c d g axis later over three in
    let span = is_span quantity c d g axis later over three in
    sum_made quantity c d g axis later over three room served pairs terms_are count wide m sum reaches
    (λ t after before. is_argument c d t later after before)
    (λ t after before. IsArguments-at (series_of g axis) c d t series span after before)
    (λ unit t after before. Covers-arguments (series_of g axis) c d t later after before unit series.long)

pub axis_model_made : (quantity : Quantity) (c d : ℤ) (g : Granule) (axis : ℕ) (later : c <ℤ d) (over : IsGranuleOver c d g) (three : axis < 3) (m : Model) (r : Option Model)
    → IsSumModel quantity c d (series_of g axis) m → (IsSeries (series_of g axis) → IfSome r (IsValueOf quantity (series_of g axis) m)) → IsAxisModel quantity c d g axis r
axis_model_made quantity c d g axis later over three m r sums values =
    axis_made quantity c d g axis later over three m r sums (values (is_series quantity c d g axis later over three)) (λ t after before. is_argument c d t later after before)
