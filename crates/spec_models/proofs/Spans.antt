-- What lies in an interval lies in it still where either is rounded outward, as long as the outer unit stays no finer.
use Rattle.std.proofs.Common.{◌≡◌, ℕ, ◌+◌, ◌-◌, ◌^◌, ◌<◌, ◌≤◌, arith, sym, ap, ◌∙◌, [], ◌∷◌, ℤ, pos, ◌+ℤ◌, ◌*ℤ◌, ◌≤ℤ◌, ◌<ℤ◌}
use Rattle.std.proofs.lemmas.Nat.{pow-add, pow_pos}
use Rattle.spec_numbers.specs.Numbers.{floor_div, ceil_div}
use Rattle.spec_numbers.proofs.Ring.{v, k as lit, ◌⊕◌, ◌⊗◌, ring}
use Rattle.spec_numbers.proofs.Order.{lin, le-mul, lt-mul_cancel}
use Rattle.spec_numbers.proofs.Floor.{floor_div-le, floor_div-lt, ceil_div-ge, ceil_div-lt}
use Rattle.spec_intervals.specs.Interval.{Interval, interval, raised, lowered}
use Rattle.spec_models.specs.Inclusion.{Spans}

-- ---- quotients and powers of 2
next : (z : ℤ) (d : ℕ) → (z +ℤ pos 1) *ℤ pos d ≡ z *ℤ pos d +ℤ pos d
next z d = ring (z ∷ pos d ∷ []) ((v 0 ⊕ lit (pos 1)) ⊗ v 1) (v 0 ⊗ v 1 ⊕ v 1) tt

-- the quotient rounded down is the greatest number whose product is not past what was divided
pub floor_div-greatest : (m z : ℤ) (d : ℕ) → 0 < d → (m *ℤ pos d) ≤ℤ z → m ≤ℤ floor_div z d
floor_div-greatest m z d p h =
    let a : z <ℤ (floor_div z d *ℤ pos d +ℤ pos d) = floor_div-lt z d p in
    let e = next (floor_div z d) d in
    let b : m <ℤ (floor_div z d +ℤ pos 1) = lt-mul_cancel m (floor_div z d +ℤ pos 1) d (omega (arith, lin)) in
    omega (arith, lin)

-- and that rounded up is the least
pub ceil_div-least : (m z : ℤ) (d : ℕ) → 0 < d → z ≤ℤ (m *ℤ pos d) → ceil_div z d ≤ℤ m
ceil_div-least m z d p h =
    let a : (ceil_div z d *ℤ pos d) <ℤ (z +ℤ pos d) = ceil_div-lt z d p in
    let e = next m d in
    let b : ceil_div z d <ℤ (m +ℤ pos 1) = lt-mul_cancel (ceil_div z d) (m +ℤ pos 1) d (omega (arith, lin)) in
    omega (arith, lin)

-- a factor of two powers
pub joined : (z : ℤ) (a b : ℕ) → z *ℤ pos (2 ^ a) *ℤ pos (2 ^ b) ≡ z *ℤ pos (2 ^ (a + b))
joined z a b =
    ring (z ∷ pos (2 ^ a) ∷ pos (2 ^ b) ∷ []) (v 0 ⊗ v 1 ⊗ v 2) (v 0 ⊗ (v 1 ⊗ v 2)) tt ∙ ap (λ n. z *ℤ pos n) (sym (pow-add 2 a b))

pub scaled_le : (w z : ℤ) (g : ℕ) → w ≤ℤ z → (w *ℤ pos (2 ^ g)) ≤ℤ (z *ℤ pos (2 ^ g))
scaled_le w z g h = le-mul w z (pos (2 ^ g)) (omega (arith, lin)) h

-- ---- ends: w is in units that are 2^g times those of z
module _ (w z : ℤ) (g k : ℕ) where
  pub low-outer : (w *ℤ pos (2 ^ g)) ≤ℤ z → (floor_div w (2 ^ k) *ℤ pos (2 ^ (k + g))) ≤ℤ z
  low-outer h =
      let a = scaled_le (floor_div w (2 ^ k) *ℤ pos (2 ^ k)) w g (floor_div-le w (2 ^ k) (pow_pos k)) in
      let e = joined (floor_div w (2 ^ k)) k g in
      omega (arith, lin)

  pub high-outer : z ≤ℤ (w *ℤ pos (2 ^ g)) → z ≤ℤ (ceil_div w (2 ^ k) *ℤ pos (2 ^ (k + g)))
  high-outer h =
      let a = scaled_le w (ceil_div w (2 ^ k) *ℤ pos (2 ^ k)) g (ceil_div-ge w (2 ^ k) (pow_pos k)) in
      let e = joined (ceil_div w (2 ^ k)) k g in
      omega (arith, lin)

module _ (w z : ℤ) (e k g : ℕ) (same : g ≡ e + k) where
  pub low-inner : (w *ℤ pos (2 ^ g)) ≤ℤ z → (w *ℤ pos (2 ^ e)) ≤ℤ floor_div z (2 ^ k)
  low-inner h =
      let j : w *ℤ pos (2 ^ e) *ℤ pos (2 ^ k) ≡ w *ℤ pos (2 ^ g) = joined w e k ∙ ap (λ n. w *ℤ pos (2 ^ n)) (sym same) in
      floor_div-greatest (w *ℤ pos (2 ^ e)) z (2 ^ k) (pow_pos k) (omega (arith, lin))

  pub high-inner : z ≤ℤ (w *ℤ pos (2 ^ g)) → ceil_div z (2 ^ k) ≤ℤ (w *ℤ pos (2 ^ e))
  high-inner h =
      let j : w *ℤ pos (2 ^ e) *ℤ pos (2 ^ k) ≡ w *ℤ pos (2 ^ g) = joined w e k ∙ ap (λ n. w *ℤ pos (2 ^ n)) (sym same) in
      ceil_div-least (w *ℤ pos (2 ^ e)) z (2 ^ k) (pow_pos k) (omega (arith, lin))

-- ---- intervals
pub Spans-refl : (x : Interval) → Spans x x
Spans-refl x = record { gap = 0; exponent = omega (arith, lin); low = unscaled_low x.lo; high = unscaled_high x.hi }
  where
    once : (z : ℤ) → z *ℤ pos (2 ^ 0) ≡ z
    once z = ring (z ∷ []) (v 0 ⊗ lit (pos 1)) (v 0) tt

    unscaled_low : (z : ℤ) → (z *ℤ pos (2 ^ 0)) ≤ℤ z
    unscaled_low z = let e = once z in omega (arith, lin)

    unscaled_high : (z : ℤ) → z ≤ℤ (z *ℤ pos (2 ^ 0))
    unscaled_high z = let e = once z in omega (arith, lin)

-- the outer one is rounded outward
pub Spans-outer : (k : ℕ) (y x : Interval) → Spans y x → Spans (raised k y) x
Spans-outer k y x s =
    let e = s.exponent in
    record {
      gap = k + s.gap;
      exponent = omega (arith, lin);
      low = low-outer y.lo x.lo s.gap k s.low;
      high = high-outer y.hi x.hi s.gap k s.high;
    }

-- both are rounded outward
pub Spans-raised : (l k : ℕ) (y x : Interval) (s : Spans y x) → k ≤ l + s.gap → Spans (raised l y) (raised k x)
Spans-raised l k y x s h =
    let e = s.exponent in
    let same : l + s.gap ≡ ((l + s.gap) - k) + k = omega arith in
    let low = low-outer y.lo x.lo s.gap l s.low in
    let high = high-outer y.hi x.hi s.gap l s.high in
    record {
      gap = (l + s.gap) - k;
      exponent = omega (arith, lin);
      low = low-inner (floor_div y.lo (2 ^ l)) x.lo ((l + s.gap) - k) k (l + s.gap) same low;
      high = high-inner (ceil_div y.hi (2 ^ l)) x.hi ((l + s.gap) - k) k (l + s.gap) same high;
    }

-- the inner one in a finer unit
pub Spans-lowered : (m : ℕ) (y x : Interval) → Spans y x → Spans y (lowered m x)
Spans-lowered m y x s =
    let e = s.exponent in
    let a = scaled_le (y.lo *ℤ pos (2 ^ s.gap)) x.lo m s.low in
    let b = scaled_le x.hi (y.hi *ℤ pos (2 ^ s.gap)) m s.high in
    let c = joined y.lo s.gap m in
    let d = joined y.hi s.gap m in
    record { gap = s.gap + m; exponent = omega (arith, lin); low = omega (arith, lin); high = omega (arith, lin) }

-- an outer one that reaches further, and an inner one that reaches less far
pub Spans-wider : (lo hi : ℤ) (y x : Interval) → lo ≤ℤ y.lo → y.hi ≤ℤ hi → Spans y x → Spans (interval lo hi y.s) x
Spans-wider lo hi y x p q s =
    let a = scaled_le lo y.lo s.gap p in
    let b = scaled_le y.hi hi s.gap q in
    let c = s.low in
    let d = s.high in
    record { gap = s.gap; exponent = s.exponent; low = omega (arith, lin); high = omega (arith, lin) }

pub Spans-within : (lo hi : ℤ) (y x : Interval) → x.lo ≤ℤ lo → hi ≤ℤ x.hi → Spans y x → Spans y (interval lo hi x.s)
Spans-within lo hi y x p q s =
    let c = s.low in
    let d = s.high in
    record { gap = s.gap; exponent = s.exponent; low = omega (arith, lin); high = omega (arith, lin) }
