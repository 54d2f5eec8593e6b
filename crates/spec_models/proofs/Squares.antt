-- Signed squares, sizes, and the times of a span as seen from its middle.
use Rattle.std.proofs.Common.{◌≡◌, ℕ, ◌+◌, ◌*◌, ◌^◌, max, ◌≤◌, arith, refl, ap, sym, ◌∙◌, ℤ, pos, ◌+ℤ◌, ◌-ℤ◌, ◌*ℤ◌, ◌≤ℤ◌, ◌<ℤ◌, unsigned_abs, inl, inr}
use Rattle.std.proofs.lemmas.Int.{ints}
use Rattle.std.proofs.lemmas.Nat.{pow-add}
use Rattle.std.proofs.Math.Nat.{mul_assoc}
use Rattle.spec_numbers.proofs.Order.{lin}
use Rattle.spec_numbers.proofs.Floor.{floor_div-le, floor_div-lt}
use Rattle.spec_numbers.proofs.Sizes.{size_between}
use Rattle.spec_intervals.specs.Interval.{Interval, interval, signed_sq, signed_square}
use Rattle.spec_intervals.specs.Enclosure.{middle, offsets, twice_size}
use Rattle.spec_intervals.proofs.Squares.{signed_sq-le, signed_sq-scaled}
use Rattle.spec_intervals.proofs.Narrow.{zero_ends}
use Rattle.spec_models.specs.Inclusion.{Includes}
use Rattle.spec_models.proofs.Spans.{Spans-refl, Spans-wider}
use Rattle.spec_models.proofs.NarrowedInclusions.{zero_alone, Includes-narrow}

-- ---- signed squares
-- both ends squared, not yet narrowed
abbrev squares : Interval → Interval
squares x = interval (signed_sq x.lo) (signed_sq x.hi) (x.s +ℤ x.s)

scaled_square : (z : ℤ) (g : ℕ) → signed_sq (z *ℤ pos (2 ^ g)) ≡ signed_sq z *ℤ pos (2 ^ (g + g))
scaled_square z g = signed_sq-scaled z (2 ^ g) ∙ ap (λ n. signed_sq z *ℤ pos n) (sym (pow-add 2 g g))

squares_included : (y x : Interval) → Includes y x → Includes (squares y) (squares x)
squares_included y x (inl s) =
    let e = s.exponent in
    let low = signed_sq-le (y.lo *ℤ pos (2 ^ s.gap)) x.lo s.low in
    let high = signed_sq-le x.hi (y.hi *ℤ pos (2 ^ s.gap)) s.high in
    let a = scaled_square y.lo s.gap in
    let b = scaled_square y.hi s.gap in
    inl (record { gap = s.gap + s.gap; exponent = omega (arith, lin); low = omega (arith, lin); high = omega (arith, lin) })
squares_included y x (inr h) =
    let e = zero_ends x.lo x.hi h.zero in
    inr (record {
      zero = zero_alone _ _ (ap signed_sq e.0) (ap signed_sq e.1);
      low = signed_sq-le y.lo (pos 0) h.low;
      high = signed_sq-le (pos 0) y.hi h.high;
    })

pub Includes-signed_square : (y x : Interval) → x.lo ≤ℤ x.hi → Includes y x → Includes (signed_square y) (signed_square x)
unfolding signed_square
Includes-signed_square y x o h = Includes-narrow (squares y) (squares x) (signed_sq-le x.lo x.hi o) (squares_included y x h)

-- ---- twice the greatest size
abbrev greatest_size : Interval → ℕ
greatest_size x = max (unsigned_abs x.lo) (unsigned_abs x.hi)

abbrev sizes : Interval → Interval
sizes x = interval (pos 0) (pos (2 * greatest_size x)) x.s

doubled_size : (a b m d : ℕ) → a ≤ m * d → b ≤ m * d → pos (2 * max a b) ≤ℤ (pos (2 * m) *ℤ pos d)
doubled_size a b m d p q =
    let e : 2 * m * d ≡ 2 * (m * d) = mul_assoc 2 m d in
    omega (arith, lin)

sizes_included : (y x : Interval) → x.lo ≤ℤ x.hi → Includes y x → Includes (sizes y) (sizes x)
sizes_included y x o (inl s) =
    let low = s.low in
    let high = s.high in
    let size = λ (z : ℤ). size_between y.lo y.hi z (greatest_size y) (2 ^ s.gap) (omega arith) (omega arith) in
    let a = size x.lo s.low (omega (arith, lin)) in
    let b = size x.hi (omega (arith, lin)) s.high in
    inl (record {
      gap = s.gap;
      exponent = s.exponent;
      low = omega (arith, ints);
      high = doubled_size _ _ (greatest_size y) (2 ^ s.gap) a b;
    })
sizes_included y x o (inr h) =
    let e = zero_ends x.lo x.hi h.zero in
    inr (record { zero = rw (e.0, e.1) refl; low = omega (arith, lin); high = omega (arith, lin) })

pub Includes-twice_size : (y x : Interval) → x.lo ≤ℤ x.hi → Includes y x → Includes (twice_size y) (twice_size x)
unfolding twice_size
Includes-twice_size y x o h = Includes-narrow (sizes y) (sizes x) (omega (arith, lin)) (sizes_included y x o h)

-- ---- times seen from the middle
-- half of a longer span is no shorter, rounded down or up
module _ (a b c d m n : ℤ) (p : c ≤ℤ a) (q : b ≤ℤ d)
    (e : (m *ℤ pos 2) ≤ℤ (a +ℤ b)) (f : (a +ℤ b) <ℤ (m *ℤ pos 2 +ℤ pos 2))
    (g : (n *ℤ pos 2) ≤ℤ (c +ℤ d)) (h : (c +ℤ d) <ℤ (n *ℤ pos 2 +ℤ pos 2)) where
  half_before : (c -ℤ n) ≤ℤ (a -ℤ m)
  half_before = omega (arith, ints)

  half_after : (b -ℤ m) ≤ℤ (d -ℤ n)
  half_after = omega (arith, ints)

pub Includes-offsets : (a b c d : ℤ) → c ≤ℤ a → a ≤ℤ b → b ≤ℤ d → Includes (offsets c d) (offsets a b)
Includes-offsets a b c d p q r =
    let e = floor_div-le (a +ℤ b) 2 (omega arith) in
    let f = floor_div-lt (a +ℤ b) 2 (omega arith) in
    let g = floor_div-le (c +ℤ d) 2 (omega arith) in
    let h = floor_div-lt (c +ℤ d) 2 (omega arith) in
    let before = half_before a b c d (middle a b) (middle c d) p r e f g h in
    let after = half_after a b c d (middle a b) (middle c d) p r e f g h in
    inl (Spans-wider (offsets c d).lo (offsets c d).hi (offsets a b) (offsets a b) before after (Spans-refl (offsets a b)))
