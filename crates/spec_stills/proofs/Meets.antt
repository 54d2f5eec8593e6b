-- What an interval shares with others keeps its sign: a low end that is not negative, and a high end that is below 0 by more
-- than the unit of what is shared.
use Rattle.std.proofs.Common.{◌≡◌, ◌⊎◌, inl, inr, ℕ, zero, suc, ◌+◌, ◌^◌, arith, refl, [], ◌∷◌, ℤ, pos, negsuc, ◌+ℤ◌, ◌*ℤ◌, ◌≤ℤ◌, ◌<ℤ◌, Bool, true, false}
use Rattle.std.specs.Prelude.{if◌then◌else◌}
use Rattle.std.proofs.lemmas.Int.{ints, clamps}
use Rattle.std.proofs.lemmas.Nat.{pow-add, pow_pos}
use lib.Signed.{le_z}
use Rattle.spec_numbers.specs.Numbers.{floor_div, ceil_div}
use Rattle.spec_numbers.proofs.Ring.{v, k as lit, ◌⊕◌, ◌⊗◌, ring}
use Rattle.spec_numbers.proofs.Order.{lin, le-mul, min_first, min_second}
use Rattle.spec_numbers.proofs.Floor.{ceil_div-lt}
use Rattle.spec_intervals.specs.Interval.{Interval, is_zero, lift, surplus, meet, meet_up, narrow, narrow_by, narrow_shift, settled}
use Rattle.spec_intervals.proofs.Sums.{meets}
use Rattle.spec_models.proofs.Spans.{floor_div-greatest}

-- ---- narrowing
-- the quotient of a number that is not negative is not negative
not_negative_down : (z : ℤ) (k : ℕ) → pos 0 ≤ℤ z → pos 0 ≤ℤ floor_div z (2 ^ k)
not_negative_down z k h =
    let e = ring (pos (2 ^ k) ∷ []) (lit (pos 0) ⊗ v 0) (lit (pos 0)) tt in
    floor_div-greatest (pos 0) z (2 ^ k) (pow_pos k) (omega (arith, lin))

settled_low : (lo hi s : ℤ) → pos 0 ≤ℤ lo → pos 0 ≤ℤ (settled lo hi s).lo
unfolding settled
settled_low (pos zero) (pos zero) s h = h
settled_low (pos zero) (pos (suc n)) s h = h
settled_low (pos zero) (negsuc n) s h = h
settled_low (pos (suc n)) hi s h = h
settled_low (negsuc n) hi s h = h

narrow_low : (lo hi s : ℤ) → pos 0 ≤ℤ lo → pos 0 ≤ℤ (narrow lo hi s).lo
unfolding narrow narrow_by
narrow_low lo hi s h = settled_low _ _ _ (not_negative_down lo (narrow_shift lo hi) h)

-- the high end and the exponent, after j halvings
record IsHalved (hi s : ℤ) (x : Interval) : Type 0 where
  times : ℕ
  high : x.hi ≡ ceil_div hi (2 ^ times)
  exponent : x.s ≡ s +ℤ pos times

settled_high : (lo hi s : ℤ) → (is_zero (settled lo hi s) ≡ true) ⊎ (((settled lo hi s).hi ≡ hi) × ((settled lo hi s).s ≡ s))
unfolding settled
settled_high (pos zero) (pos zero) s = inl refl
settled_high (pos zero) (pos (suc n)) s = inr (refl, refl)
settled_high (pos zero) (negsuc n) s = inr (refl, refl)
settled_high (pos (suc n)) hi s = inr (refl, refl)
settled_high (negsuc n) hi s = inr (refl, refl)

narrow_high : (lo hi s : ℤ) → (is_zero (narrow lo hi s) ≡ true) ⊎ IsHalved hi s (narrow lo hi s)
unfolding narrow narrow_by
narrow_high lo hi s =
    by _ (settled_high (floor_div lo (2 ^ narrow_shift lo hi)) (ceil_div hi (2 ^ narrow_shift lo hi))
    (s +ℤ pos (narrow_shift lo hi)))
  where
    by : (x : Interval) → (is_zero x ≡ true) ⊎ ((x.hi ≡ ceil_div hi (2 ^ narrow_shift lo hi)) ×
        (x.s ≡ s +ℤ pos (narrow_shift lo hi)))
        → (is_zero x ≡ true) ⊎ IsHalved hi s x
    by x (inl z) = inl z
    by x (inr h) = inr (record { times = narrow_shift lo hi; high = h.0; exponent = h.1 })

-- ---- what is shared with c
-- its high end is past that of c by less than its unit: both at the exponent `base`
pub record IsRoundedUp (c x : Interval) : Type 0 where
  pub base : ℤ
  pub lift_of : ℕ
  pub rise : ℕ
  pub from : c.s ≡ base +ℤ pos lift_of
  pub to : x.s ≡ base +ℤ pos rise
  pub near : (x.hi *ℤ pos (2 ^ rise)) <ℤ (c.hi *ℤ pos (2 ^ lift_of) +ℤ pos (2 ^ rise))

-- 0 alone, or rounded up
abbrev pub IsKeptUp : Interval → Interval → Type 0
IsKeptUp c x = (is_zero x ≡ true) ⊎ IsRoundedUp c x

-- the quotient of a number of at most z, rounded up
quotient_near : (w z : ℤ) (j : ℕ) → w ≤ℤ z → (ceil_div w (2 ^ j) *ℤ pos (2 ^ j)) <ℤ (z +ℤ pos (2 ^ j))
quotient_near w z j h = let l = ceil_div-lt w (2 ^ j) (pow_pos j) in omega (arith, lin)

-- c is the one in coarser units
upper_given : (p c x : Interval) (h : ℤ) → p.s ≤ℤ c.s → h ≤ℤ (c.hi *ℤ pos (2 ^ lift p c))
    → (is_zero x ≡ true) ⊎ IsHalved h (p.s +ℤ pos (surplus p c)) x → IsKeptUp c x
upper_given p c x h o l (inl z) = inl z
upper_given p c x h o l (inr is) =
    inr (record {
      base = p.s +ℤ pos (surplus p c);
      lift_of = lift p c;
      rise = is.times;
      from = meets p.s c.s o;
      to = is.exponent;
      near = rw is.high (quotient_near h (c.hi *ℤ pos (2 ^ lift p c)) is.times l);
    })

-- c is the one in finer units: both quotients
twice_near : (z h : ℤ) (k j : ℕ) → h ≤ℤ ceil_div z (2 ^ k)
    → (ceil_div h (2 ^ j) *ℤ pos (2 ^ (k + j))) <ℤ (z *ℤ pos (2 ^ 0) +ℤ pos (2 ^ (k + j)))
twice_near z h k j o =
    let a = quotient_near h (ceil_div z (2 ^ k)) j o in
    let b = ceil_div-lt z (2 ^ k) (pow_pos k) in
    let l = le-mul (ceil_div h (2 ^ j) *ℤ pos (2 ^ j) +ℤ pos 1) (ceil_div z (2 ^ k) +ℤ pos (2 ^ j)) (pos (2 ^ k))
    (omega (arith, lin)) (omega (arith, lin)) in
    let e = ring (ceil_div h (2 ^ j) ∷ pos (2 ^ j) ∷ pos (2 ^ k) ∷ []) ((v 0 ⊗ v 1 ⊕ lit (pos 1)) ⊗ v 2)
    (v 0 ⊗ (v 2 ⊗ v 1) ⊕ v 2) tt in
    let f = ring (ceil_div z (2 ^ k) ∷ pos (2 ^ j) ∷ pos (2 ^ k) ∷ []) ((v 0 ⊕ v 1) ⊗ v 2) (v 0 ⊗ v 2 ⊕ v 2 ⊗ v 1) tt in
    let g = ring (z ∷ []) (v 0 ⊗ lit (pos 1)) (v 0) tt in
    rw (pow-add 2 k j) (omega (arith, lin))

lower_given : (c x : Interval) (h : ℤ) (k : ℕ) → h ≤ℤ ceil_div c.hi (2 ^ k)
    → (is_zero x ≡ true) ⊎ IsHalved h (c.s +ℤ pos k) x → IsKeptUp c x
lower_given c x h k l (inl z) = inl z
lower_given c x h k l (inr is) =
    let e = is.exponent in
    inr (record {
      base = c.s;
      lift_of = 0;
      rise = k + is.times;
      from = omega (arith, lin);
      to = omega (arith, lin);
      near = rw is.high (twice_near c.hi h k is.times l);
    })

upper_kept : (p c : Interval) → p.s ≤ℤ c.s → IsKeptUp c (meet_up p c)
unfolding meet_up
upper_kept p c o = upper_given p c _ _ o (min_second _ _) (narrow_high _ _ _)

lower_kept : (c p : Interval) → IsKeptUp c (meet_up c p)
unfolding meet_up
lower_kept c p = lower_given c _ _ (surplus c p) (min_first _ _) (narrow_high _ _ _)

pub shared_high : (p c : Interval) → IsKeptUp c (meet p c)
unfolding meet
shared_high p c = by (le_z p.s c.s) refl
  where
    by : (t : Bool) → le_z p.s c.s ≡ t → IsKeptUp c (if t then meet_up p c else meet_up c p)
    by true e = upper_kept p c (omega (arith, lin))
    by false e = lower_kept c p

pub shared_low : (p c : Interval) → pos 0 ≤ℤ c.lo → pos 0 ≤ℤ (meet p c).lo
unfolding meet meet_up
shared_low p c h = by (le_z p.s c.s)
  where
    by : (t : Bool) → pos 0 ≤ℤ (if t then meet_up p c else meet_up c p).lo
    by true =
        let l = le-mul (pos 0) c.lo (pos (2 ^ lift p c)) (omega (arith, lin)) h in
        let e = ring (pos (2 ^ lift p c) ∷ []) (lit (pos 0) ⊗ v 0) (lit (pos 0)) tt in
        narrow_low _ _ _ (omega (arith, ints, clamps, l, e))
    by false = narrow_low _ _ _ (let l = not_negative_down c.lo (surplus c p) h in omega (arith, ints, clamps, l))
