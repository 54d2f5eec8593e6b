-- The exponents of the intervals of a series: the sums that are narrowed are below 2^130 in size.
use Rattle.std.proofs.Common.{◌≡◌, ℕ, zero, suc, ◌+◌, ◌*◌, ◌^◌, ◌<◌, ◌≤◌, arith, List, [], ◌∷◌, length, drop, ℤ, pos, ◌+ℤ◌, ◌*ℤ◌, neg_ℤ, ◌≤ℤ◌, Bool, true, false, unsigned_abs, length-drop}
use Rattle.std.specs.Prelude.{All, if◌then◌else◌}
use Rattle.std.proofs.lemmas.Int.{ints, unsigned_abs-mul}
use Rattle.std.proofs.lemmas.Nat.{mul-le}
use Rattle.std.proofs.lemmas.List.{length-map}
use Rattle.std.proofs.lemmas.List.Elements.{All-map, All-weaker, All-head, All-tail, All-drop}
use lib.Signed.{lt_z}
use Rattle.spec_text.specs.declared.decimals.Decimal.{Decimal}
use Rattle.spec_intervals.specs.Interval.{Interval, end_limit, least4, greatest4, scale, zero_interval as no_change}
use Rattle.spec_numbers.specs.Numbers.{floor_div, ceil_div}
use Rattle.spec_numbers.proofs.Floor.{floor_div-small, ceil_div-small}
use Rattle.spec_numbers.proofs.Sizes.{sum_size, product_size, least_size, greatest_size}
use Rattle.spec_chebyshev.specs.declared.ends.Ival62.{Ival62}
use Rattle.spec_chebyshev.specs.Rows.{r_size, t_row, u_row, q_row, r_row, EndsWithin, IsArguments}
use Rattle.spec_chebyshev.proofs.Arguments.{IsArguments-argument}
use Rattle.spec_chebyshev.proofs.RowEnds.{EndsWithin-t, EndsWithin-u, EndsWithin-q, EndsWithin-r}
use Rattle.spec_ephemeris.specs.Series.{Series, argument_at}
use Rattle.spec_ephemeris.specs.Ephemeris.{IsBodyNumber}
use Rattle.spec_intervals.proofs.Exponents.{distance-within, IsBetween, narrow-between, zero-between}
use Rattle.spec_motions.specs.Sums.{coefficient, times, slope_row, slope_difference_row, sum_low, sum_high}
use Rattle.spec_motions.specs.Enclosures.{IsSeries, IsSpanOf, arguments, coefficients_of, position_over, position_step_over, velocity_over, velocity_step_over, position_interval, position_step_interval, velocity_interval, velocity_step_interval}
use Rattle.spec_bodies.specs.Reading.{column_lowest, column_highest}

-- ---- ends at most n in size
pub record AreAtMost (n : ℕ) (e : Ival62) : Type 0 where
  pub lo : unsigned_abs e.lo ≤ n
  pub hi : unsigned_abs e.hi ≤ n

of_ends : (m n : ℕ) (e : Ival62) → m ≤ n → EndsWithin m e → AreAtMost n e
of_ends m n e few is = record { lo = size e.lo is.lo.low is.lo.high; hi = size e.hi is.hi.low is.hi.high }
  where
    size : (z : ℤ) → neg_ℤ (pos m) ≤ℤ z → z ≤ℤ pos m → unsigned_abs z ≤ n
    size z low high = omega (arith, ints, low, high, few)

of_multiple : (k m n : ℕ) (e : Ival62) → k * m ≤ n → EndsWithin m e → AreAtMost n (times k e)
of_multiple k m n e few is =
    let own = of_ends m m e (omega arith) is in
    record { lo = size e.lo own.lo; hi = size e.hi own.hi }
  where
    size : (z : ℤ) → unsigned_abs z ≤ m → unsigned_abs (pos k *ℤ z) ≤ n
    size z small =
        let both : unsigned_abs (pos k *ℤ z) ≡ k * unsigned_abs z = unsigned_abs-mul (pos k) z in
        let more : k * unsigned_abs z ≤ k * m = mul-le k (unsigned_abs z) k m (omega arith) small in
        omega (arith, both, more, few)

-- ---- sums over a row
module _ (row : ℕ → Ival62) (m n : ℕ) where
  sums_size : (k : ℕ) (cs : List Ival62) → All (AreAtMost m) cs → ((j : ℕ) → k ≤ j → j < k + length cs → AreAtMost n (row j))
      → (unsigned_abs (sum_low row k cs) ≤ length cs * (m * n)) × (unsigned_abs (sum_high row k cs) ≤ length cs * (m * n))
  sums_size k [] all small = (omega arith, omega arith)
  sums_size k (c ∷ cs) all small =
      let own : AreAtMost m c = All-head (AreAtMost m) c cs all in
      let entry = small k (omega arith) (omega arith) in
      let rest = sums_size (suc k) cs (All-tail (AreAtMost m) c cs all) (λ j p q. small j (omega (arith, p)) (omega (arith, q))) in
      let ll = product_size c.lo (row k).lo m n own.lo entry.lo in
      let lh = product_size c.lo (row k).hi m n own.lo entry.hi in
      let hl = product_size c.hi (row k).lo m n own.hi entry.lo in
      let hh = product_size c.hi (row k).hi m n own.hi entry.hi in
      let low = sum_size (least4 c.lo c.hi (row k).lo (row k).hi) (sum_low row (suc k) cs) (m * n) (length cs * (m * n)) (least_size (c.lo *ℤ (row k).lo) (c.lo *ℤ (row k).hi) (c.hi *ℤ (row k).lo) (c.hi *ℤ (row k).hi) (m * n) ll lh hl hh) rest.0 in
      let high = sum_size (greatest4 c.lo c.hi (row k).lo (row k).hi) (sum_high row (suc k) cs) (m * n) (length cs * (m * n)) (greatest_size (c.lo *ℤ (row k).lo) (c.lo *ℤ (row k).hi) (c.hi *ℤ (row k).lo) (c.hi *ℤ (row k).hi) (m * n) ll lh hl hh) rest.1 in
      let one : (length cs + 1) * (m * n) ≡ m * n + length cs * (m * n) = next (length cs) (m * n) in
      (omega (arith, low, one), omega (arith, high, one))
    where
      next : (k n : ℕ) → (k + 1) * n ≡ n + k * n
      next k n = omega arith

-- ---- entries of the rows that are summed, up to the degree 31
module _ (x : Ival62) (is : IsArguments x) where
  t_small : (k : ℕ) → k < 32 → AreAtMost (2 ^ 63) (t_row x k)
  t_small k few = of_ends (1 * 2 ^ 60) (2 ^ 63) (t_row x k) (omega arith) (EndsWithin-t x is k)

  q_small : (k : ℕ) → k < 32 → AreAtMost (2 ^ 63) (q_row x k)
  q_small k few =
      let square : k * k ≤ 31 * 31 = mul-le k k 31 31 (omega (arith, few)) (omega (arith, few)) in
      of_ends (k * k * 2 ^ 46) (2 ^ 63) (q_row x k) (omega (arith, square)) (EndsWithin-q x is k)

  slope_small : (k : ℕ) → 1 ≤ k → k < 32 → AreAtMost (2 ^ 63) (slope_row x k)
  slope_small zero some few = absurd (omega (arith, some))
  slope_small (suc k) some few =
      let square : suc k * (suc k * 2 ^ 50) ≤ 31 * (31 * 2 ^ 50) = mul-le (suc k) (suc k * 2 ^ 50) 31 (31 * 2 ^ 50) (omega (arith, few)) (omega (arith, few)) in
      of_multiple (suc k) (suc k * 2 ^ 50) (2 ^ 63) (u_row x k) (omega (arith, square)) (EndsWithin-u x is k)

  slope_difference_small : (k : ℕ) → 1 ≤ k → k < 32 → AreAtMost (2 ^ 63) (slope_difference_row x k)
  slope_difference_small zero some few = absurd (omega (arith, some))
  slope_difference_small (suc k) some few =
      let size : r_size k ≤ 9920 = third k (omega (arith, few)) in
      let product : suc k * (r_size k * 2 ^ 44) ≤ 31 * (9920 * 2 ^ 44) = mul-le (suc k) (r_size k * 2 ^ 44) 31 (9920 * 2 ^ 44) (omega (arith, few)) (omega (arith, size)) in
      of_multiple (suc k) (r_size k * 2 ^ 44) (2 ^ 63) (r_row x k) (omega (arith, product)) (EndsWithin-r x is k)
    where
      third : (k : ℕ) → k < 31 → r_size k ≤ 9920
      third k few =
          let first : k * suc k ≤ 30 * 31 = mul-le k (suc k) 30 31 (omega (arith, few)) (omega (arith, few)) in
          let all : k * suc k * suc (suc k) ≤ 30 * 31 * 32 = mul-le (k * suc k) (suc (suc k)) (30 * 31) 32 first (omega (arith, few)) in
          omega (arith, all)

-- ---- the intervals
of_quotients : (m : ℕ) (lo hi s : ℤ) (length : ℕ) → 1 ≤ length → unsigned_abs lo ≤ end_limit * 2 ^ m → unsigned_abs hi ≤ end_limit * 2 ^ m → (unsigned_abs (floor_div (pos 2 *ℤ lo) length) ≤ end_limit * 2 ^ m * 2) × (unsigned_abs (ceil_div (pos 2 *ℤ hi) length) ≤ end_limit * 2 ^ m * 2)
of_quotients m lo hi s length some p q =
    (floor_div-small (pos 2 *ℤ lo) length (end_limit * 2 ^ m * 2) some (shared lo p), ceil_div-small (pos 2 *ℤ hi) length (end_limit * 2 ^ m * 2) some (shared hi q))
  where
    shared : (z : ℤ) → unsigned_abs z ≤ end_limit * 2 ^ m → unsigned_abs (pos 2 *ℤ z) ≤ end_limit * 2 ^ m * 2 * length
    shared z small =
        let twice : unsigned_abs (pos 2 *ℤ z) ≡ 2 * unsigned_abs z = unsigned_abs-mul (pos 2) z in
        let many : end_limit * 2 ^ m * 2 * 1 ≤ end_limit * 2 ^ m * 2 * length = mul-le (end_limit * 2 ^ m * 2) 1 (end_limit * 2 ^ m * 2) length (omega arith) some in
        omega (arith, twice, many, small)

scaled-between : (m : ℕ) (lo hi s : ℤ) (length : ℕ) → 1 ≤ length → unsigned_abs lo ≤ end_limit * 2 ^ m → unsigned_abs hi ≤ end_limit * 2 ^ m → end_limit * 2 ^ m * 2 ≤ end_limit * 2 ^ (m + 1)
    → neg_ℤ (pos column_lowest) ≤ℤ s → (s +ℤ pos (m + 1)) ≤ℤ pos column_highest → IsBetween column_lowest column_highest (scale lo hi s length)
unfolding scale
scaled-between m lo hi s length some p q twice low high =
    let shared = of_quotients m lo hi s length some p q in
    narrow-between (m + 1) column_lowest column_highest (floor_div (pos 2 *ℤ lo) length) (ceil_div (pos 2 *ℤ hi) length) s (omega (arith, shared.0, twice)) (omega (arith, shared.1, twice)) low high

module _ (s : Series) (is : IsSeries s) where
  coefficients_small : All (AreAtMost (2 ^ 62)) (coefficients_of s)
  coefficients_small =
      All-map (AreAtMost (2 ^ 62)) coefficient s.coefficients (All-weaker IsBodyNumber (λ d. AreAtMost (2 ^ 62) (coefficient d)) one s.coefficients is.bodies)
    where
      one : (d : Decimal) → IsBodyNumber d → AreAtMost (2 ^ 62) (coefficient d)
      one d body = let within = distance-within d.mant d.exp body.small in record { lo = within.lo_small; hi = within.hi_small }

  count : length (coefficients_of s) ≤ 32
  count = let same = length-map s.coefficients coefficient in let few = is.few in omega (arith, same, few)

  module _ (row : ℕ → Ival62) (small : (k : ℕ) → 1 ≤ k → k < 32 → AreAtMost (2 ^ 63) (row k)) where
    from_first : (AreAtMost (2 ^ 63) (row 0)) → (unsigned_abs (sum_low row 0 (coefficients_of s)) ≤ end_limit * 2 ^ 68) × (unsigned_abs (sum_high row 0 (coefficients_of s)) ≤ end_limit * 2 ^ 68)
    from_first first =
        let size = sums_size row (2 ^ 62) (2 ^ 63) 0 (coefficients_of s) coefficients_small (λ j p q. each j (omega (arith, q, count))) in
        let all : length (coefficients_of s) * (2 ^ 62 * 2 ^ 63) ≤ 32 * (2 ^ 62 * 2 ^ 63) = mul-le (length (coefficients_of s)) (2 ^ 62 * 2 ^ 63) 32 (2 ^ 62 * 2 ^ 63) count (omega arith) in
        (omega (arith, size.0, all), omega (arith, size.1, all))
      where
        each : (k : ℕ) → k < 32 → AreAtMost (2 ^ 63) (row k)
        each zero few = first
        each (suc k) few = small (suc k) (omega arith) few

    from_second : (unsigned_abs (sum_low row 1 (drop 1 (coefficients_of s))) ≤ end_limit * 2 ^ 68) × (unsigned_abs (sum_high row 1 (drop 1 (coefficients_of s))) ≤ end_limit * 2 ^ 68)
    from_second =
        let left = length-drop 1 (coefficients_of s) in
        let some : 1 ≤ length (coefficients_of s) = let same = length-map s.coefficients coefficient in let few = is.some in omega (arith, same, few) in
        let size = sums_size row (2 ^ 62) (2 ^ 63) 1 (drop 1 (coefficients_of s)) (All-drop (AreAtMost (2 ^ 62)) 1 (coefficients_of s) coefficients_small) (λ j p q. small j p (omega (arith, q, left, count, some))) in
        let all : length (drop 1 (coefficients_of s)) * (2 ^ 62 * 2 ^ 63) ≤ 32 * (2 ^ 62 * 2 ^ 63) = mul-le (length (drop 1 (coefficients_of s))) (2 ^ 62 * 2 ^ 63) 32 (2 ^ 62 * 2 ^ 63) (omega (arith, left, count)) (omega arith) in
        (omega (arith, size.0, all), omega (arith, size.1, all))

  module _ (a b : ℤ) (span : IsSpanOf s a b) where
    arguments_are : IsArguments (arguments s a b)
    arguments_are =
        let long = is.long in
        let from = span.from in
        let ordered = span.ordered in
        let to = span.to in
        IsArguments-argument (argument_at s a) (argument_at s b) (pos s.duration) (omega (arith, ints, long)) (omega (arith, ints, from)) (omega (arith, ints, ordered)) (omega (arith, ints, to))

    pub position-between : IsBetween column_lowest column_highest (position_interval s a b)
    unfolding position_over
    position-between =
        let sizes = from_first (t_row (arguments s a b)) (λ k p q. t_small (arguments s a b) arguments_are k q) (t_small (arguments s a b) arguments_are 0 (omega arith)) in
        narrow-between 68 column_lowest column_highest _ _ (neg_ℤ (pos 84)) sizes.0 sizes.1 (omega (arith, ints)) (omega (arith, ints))

    pub velocity-between : IsBetween column_lowest column_highest (velocity_interval s a b)
    unfolding velocity_over
    velocity-between =
        let sizes = from_second (slope_row (arguments s a b)) (slope_small (arguments s a b) arguments_are) in
        scaled-between 68 _ _ (neg_ℤ (pos 74)) s.duration is.long sizes.0 sizes.1 (omega arith) (omega (arith, ints)) (omega (arith, ints))

    -- a change over one time is 0
    or_no_change : (c : Bool) (x : Interval) → IsBetween column_lowest column_highest x → IsBetween column_lowest column_highest (if c then x else no_change)
    or_no_change true x is = is
    or_no_change false x is = zero-between column_lowest column_highest

    wide_position_step : IsBetween column_lowest column_highest (position_step_over (coefficients_of s) (arguments s a b) s.duration)
    unfolding position_step_over
    wide_position_step =
        let sizes = from_first (q_row (arguments s a b)) (λ k p q. q_small (arguments s a b) arguments_are k q) (q_small (arguments s a b) arguments_are 0 (omega arith)) in
        scaled-between 68 _ _ (neg_ℤ (pos 70)) s.duration is.long sizes.0 sizes.1 (omega arith) (omega (arith, ints)) (omega (arith, ints))

    pub position_step-between : IsBetween column_lowest column_highest (position_step_interval s a b)
    position_step-between = or_no_change (lt_z a b) _ wide_position_step

    wide_velocity_step : IsBetween column_lowest column_highest (velocity_step_over (coefficients_of s) (arguments s a b) s.duration)
    unfolding velocity_step_over
    wide_velocity_step =
        let sizes = from_second (slope_difference_row (arguments s a b)) (slope_difference_small (arguments s a b) arguments_are) in
        let once = of_quotients 68 (sum_low (slope_difference_row (arguments s a b)) 1 (drop 1 (coefficients_of s))) (sum_high (slope_difference_row (arguments s a b)) 1 (drop 1 (coefficients_of s))) (neg_ℤ (pos 68)) s.duration is.long sizes.0 sizes.1 in
        scaled-between 69 _ _ (neg_ℤ (pos 68)) s.duration is.long (omega (arith, once.0)) (omega (arith, once.1)) (omega arith) (omega (arith, ints)) (omega (arith, ints))

    pub velocity_step-between : IsBetween column_lowest column_highest (velocity_step_interval s a b)
    velocity_step-between = or_no_change (lt_z a b) _ wide_velocity_step
