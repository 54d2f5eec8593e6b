-- Between which limits the rules on enclosures keep the exponents.
use Rattle.std.proofs.Common.{ℕ, ◌+◌, ◌≤◌, arith, ℤ, Bool, true, false}
use Rattle.std.specs.Prelude.{if◌then◌else◌}
use lib.Signed.{lt_z}
use Rattle.spec_intervals.specs.Interval.{Interval, zero_interval, sum, product, meet, signed_square}
use Rattle.spec_intervals.specs.Enclosure.{Enclosure, IsSpan, IsWithin, AllWithin, offsets, centred, enclosure, twice_size, constant_of, sum_of, difference_of, product_of, signed_square_of}
use Rattle.spec_intervals.proofs.Exponents.{IsBetween, between-more, between-within, within-between, zero-between, factors-between, sum-between, difference-between, meet-between, signed_square-between, twice_size-between}
use Rattle.spec_intervals.proofs.Offsets.{offsets-within}

-- mid and step rise by at most h, and the range, which steps reach from the middle, by 63 more
pub record AreBetween (l h : ℕ) (e : Enclosure) : Type 0 where
  pub mid : IsBetween l h e.mid
  pub range : IsBetween l (h + 63) e.range
  pub step : IsBetween l h e.step

pub all-more : (l h m n : ℕ) (e : Enclosure) → l ≤ m → h ≤ n → AreBetween l h e → AreBetween m n e
all-more l h m n e p q is = record { mid = between-more l h m n e.mid p q is.mid; range = between-more l (h + 63) m (n + 63) e.range p (omega (arith, q)) is.range; step = between-more l h m n e.step p q is.step }

pub between-all_within : (l h n : ℕ) (e : Enclosure) → l ≤ n → h + 63 ≤ n → AreBetween l h e → AllWithin n e
between-all_within l h n e p q is = record { mid = between-within l h n e.mid p (omega (arith, q)) is.mid; range = between-within l (h + 63) n e.range p q is.range; step = between-within l h n e.step p (omega (arith, q)) is.step }

pub all_within-between : (n : ℕ) (e : Enclosure) → AllWithin n e → AreBetween n n e
all_within-between n e is = record { mid = within-between n e.mid is.mid; range = between-more n n n (n + 63) e.range (omega arith) (omega arith) (within-between n e.range is.range); step = within-between n e.step is.step }

module _ (a b : ℤ) (span : IsSpan a b) where
  pub centred-between : (l h : ℕ) (mid step : Interval) → IsBetween l h mid → IsBetween l h step → IsBetween l (h + 63) (centred a b mid step)
  unfolding centred
  centred-between l h mid step p q =
      let away = within-between 0 (offsets a b) (offsets-within a b span) in
      let far = factors-between step (offsets a b) l h 0 0 q away in
      between-more l (h + 62 + 1) l (h + 63) _ (omega arith) (omega arith) (sum-between mid (product step (offsets a b)) l (h + 62) (between-more l h l (h + 62) mid (omega arith) (omega arith) p) (between-more (l + 0) (h + 0 + 62) l (h + 62) _ (omega arith) (omega arith) far))

  pub centred-within : (n : ℕ) (mid step : Interval) → IsWithin n mid → IsWithin n step → IsWithin (n + 63) (centred a b mid step)
  centred-within n mid step p q =
      between-within n (n + 63) (n + 63) _ (omega arith) (omega arith) (centred-between n n mid step (within-between n mid p) (within-between n step q))

pub enclosure-between : (a b : ℤ) → IsSpan a b → (l h : ℕ) (mid plain step : Interval) → IsBetween l h mid → IsBetween l (h + 63) plain → IsBetween l h step → AreBetween l h (enclosure a b mid plain step)
unfolding enclosure
enclosure-between a b span l h mid plain step p q r = by (lt_z a b)
  where
    by : (c : Bool) → AreBetween l h (if c then record { mid = mid; range = meet plain (centred a b mid step); step = step } else record { mid = mid; range = mid; step = zero_interval })
    by true = record { mid = p; range = meet-between plain (centred a b mid step) l (h + 63) q (centred-between a b span l h mid step p r); step = r }
    by false = record { mid = p; range = between-more l h l (h + 63) mid (omega arith) (omega arith) p; step = zero-between l h }

module _ (a b : ℤ) (span : IsSpan a b) where
  pub constant_of-between : (l h : ℕ) (c : Interval) → IsBetween l h c → AreBetween l h (constant_of a b c)
  unfolding constant_of
  constant_of-between l h c p = enclosure-between a b span l h c c zero_interval p (between-more l h l (h + 63) c (omega arith) (omega arith) p) (zero-between l h)

  pub nothing-between : AreBetween 0 0 (constant_of a b zero_interval)
  nothing-between = constant_of-between 0 0 zero_interval (zero-between 0 0)

  module _ (l h : ℕ) (x y : Enclosure) (p : AreBetween l h x) (q : AreBetween l h y) where
    one_more-between : (mid range step : Interval) → IsBetween l (h + 1) mid → IsBetween l (h + 63 + 1) range → IsBetween l (h + 1) step → AreBetween l (h + 1) (enclosure a b mid range step)
    one_more-between mid range step m r s = enclosure-between a b span l (h + 1) mid range step m (between-more l (h + 63 + 1) l (h + 1 + 63) _ (omega arith) (omega arith) r) s

    pub sum_of-between : AreBetween l (h + 1) (sum_of a b x y)
    unfolding sum_of
    sum_of-between = one_more-between _ _ _ (sum-between x.mid y.mid l h p.mid q.mid) (sum-between x.range y.range l (h + 63) p.range q.range) (sum-between x.step y.step l h p.step q.step)

    pub difference_of-between : AreBetween l (h + 1) (difference_of a b x y)
    unfolding difference_of
    difference_of-between =
        one_more-between _ _ _ (difference-between x.mid y.mid l h p.mid q.mid) (difference-between x.range y.range l (h + 63) p.range q.range) (difference-between x.step y.step l h p.step q.step)

  module _ (l h m n : ℕ) (x y : Enclosure) (p : AreBetween l h x) (q : AreBetween m n y) where
    product_step : IsBetween (l + m) (h + n + 126) (sum (product x.range y.step) (product y.range x.step))
    product_step =
        let s = between-more (l + m) (h + 63 + n + 62) (l + m) (h + n + 125) (product x.range y.step) (omega arith) (omega arith) (factors-between x.range y.step l (h + 63) m n p.range q.step) in
        let t = between-more (m + l) (n + 63 + h + 62) (l + m) (h + n + 125) (product y.range x.step) (omega arith) (omega arith) (factors-between y.range x.step m (n + 63) l h q.range p.step) in
        between-more (l + m) (h + n + 125 + 1) (l + m) (h + n + 126) _ (omega arith) (omega arith) (sum-between (product x.range y.step) (product y.range x.step) (l + m) (h + n + 125) s t)

    pub product_of-between : AreBetween (l + m) (h + n + 126) (product_of a b x y)
    unfolding product_of
    product_of-between =
        enclosure-between a b span (l + m) (h + n + 126) (product x.mid y.mid) (product x.range y.range) (sum (product x.range y.step) (product y.range x.step))
        (between-more (l + m) (h + n + 62) (l + m) (h + n + 126) _ (omega arith) (omega arith) (factors-between x.mid y.mid l h m n p.mid q.mid))
        (between-more (l + m) (h + 63 + (n + 63) + 62) (l + m) (h + n + 126 + 63) _ (omega arith) (omega arith) (factors-between x.range y.range l (h + 63) m (n + 63) p.range q.range))
        product_step

  pub signed_square_of-between : (l h : ℕ) (x : Enclosure) → AreBetween l h x → AreBetween (l + l) (h + h + 126) (signed_square_of a b x)
  unfolding signed_square_of
  signed_square_of-between l h x p =
      enclosure-between a b span (l + l) (h + h + 126) (signed_square x.mid) (signed_square x.range) (product (twice_size x.range) x.step)
      (between-more (l + l) (h + h + 62) (l + l) (h + h + 126) _ (omega arith) (omega arith) (signed_square-between x.mid l h p.mid))
      (between-more (l + l) (h + 63 + (h + 63) + 62) (l + l) (h + h + 126 + 63) _ (omega arith) (omega arith) (signed_square-between x.range l (h + 63) p.range))
      (between-more (l + l) (h + 63 + 1 + h + 62) (l + l) (h + h + 126) _ (omega arith) (omega arith) (factors-between (twice_size x.range) x.step l (h + 63 + 1) l h (twice_size-between x.range l (h + 63) p.range) p.step))
