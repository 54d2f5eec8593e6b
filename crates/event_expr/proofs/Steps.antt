-- What the rules' calls owe each other, over plain intervals.
use Rattle.std.proofs.Common.{◌≡◌, ◌+◌, arith, ◌∙◌, ℤ, ◌≤ℤ◌, ◌-ℤ◌, pos, true, false, unsigned_abs, max, ◌*◌}
use lib.Signed.{lt_z}
use Rattle.spec_numbers.proofs.Order.{lin}
use Rattle.spec_intervals.specs.Interval.{Interval, IsExponent, narrow, sum, difference, product, meet, signed_square, zero_interval}
use Rattle.spec_intervals.specs.Fraction.{Overlaps, fraction_add, fraction_sub, fraction_mul, fraction_signed_square}
use Rattle.spec_intervals.specs.Enclosure.{Enclosure, IsSpan, IsWithin, AllWithin, Encloses, middle, offsets, centred, enclosure, twice_size}
use Rattle.spec_expressions.specs.Term.{part_exponent}
use Rattle.spec_intervals.proofs.Exponents.{IsWithin-more, sum-within, difference-within, product-within, signed_square-within, twice_size-within}
use Rattle.spec_intervals.proofs.Offsets.{offsets-within, offsets-narrow}
use Rattle.spec_intervals.proofs.EnclosureExponents.{centred-within}
use Rattle.spec_intervals.proofs.Enclosed.{AllFractions-two, Overlaps-parts, PartsHold-sum, PartsHold-difference, PartsHold-product, PartsHold-signed_square}
use Rattle.event_expr.specs.States.{Times, wide_exponent}

pub ordered : (a b : ℤ) → lt_z a b ≡ true → a ≤ℤ b
ordered a b h = omega (arith, lin)

-- ---- exponents
module _ (s t : Interval) (p : IsWithin part_exponent s) (q : IsWithin part_exponent t) where
  pub sum-wide : IsWithin wide_exponent (sum s t)
  sum-wide = IsWithin-more (part_exponent + 1) wide_exponent (sum s t) (omega arith) (sum-within s t part_exponent p q)

  pub difference-wide : IsWithin wide_exponent (difference s t)
  difference-wide = IsWithin-more (part_exponent + 1) wide_exponent (difference s t) (omega arith) (difference-within s t part_exponent p q)

  pub product-part : IsWithin 48062 (product s t)
  product-part = product-within s t part_exponent part_exponent p q

  pub product-wide : IsWithin wide_exponent (product s t)
  product-wide = IsWithin-more 48062 wide_exponent (product s t) (omega arith) product-part

  pub product-exponent : IsExponent (product s t).s
  product-exponent = let e = product-part.exponent in omega arith

  pub square_step-wide : IsWithin wide_exponent (product (twice_size s) t)
  square_step-wide =
      IsWithin-more (part_exponent + 1 + part_exponent + 62) wide_exponent (product (twice_size s) t) (omega arith) (product-within (twice_size s) t (part_exponent + 1) part_exponent (twice_size-within s part_exponent p) q)

pub sums-wide : (s t : Interval) → IsWithin 48062 s → IsWithin 48062 t → IsWithin wide_exponent (sum s t)
sums-wide s t p q = IsWithin-more (48062 + 1) wide_exponent (sum s t) (omega arith) (sum-within s t 48062 p q)

pub signed_square-wide : (s : Interval) → IsWithin part_exponent s → IsWithin wide_exponent (signed_square s)
signed_square-wide s p = IsWithin-more (part_exponent + part_exponent + 62) wide_exponent (signed_square s) (omega arith) (signed_square-within s part_exponent p)

pub twice_size-exponent : (s : Interval) → IsWithin part_exponent s → IsExponent (twice_size s).s
twice_size-exponent s p = let e = (twice_size-within s part_exponent p).exponent in omega arith

-- ---- the centred range, over times whose distances are at hand
module _ (t : Times) (first last : ℤ) (d mid step p : Interval) (view : record { first = first; last = last } ≡ t) (span : IsSpan first last) (e : d ≡ offsets first last) (f : p ≡ product step d) (h : IsWithin wide_exponent mid) (g : IsWithin wide_exponent step) where
  pub product-fits : IsExponent p.s
  product-fits =
      let w = (product-within step (offsets first last) wide_exponent 0 g (offsets-within first last span)).exponent in
      rw (f, e) (omega arith)

  pub centred-is : (r : Interval) → r ≡ sum mid p → r ≡ centred t.first t.last mid step
  unfolding centred
  centred-is r q = rw (q, f, e, ← view)

  pub centred-fits : (r : Interval) → r ≡ sum mid p → IsExponent r.s
  centred-fits r q =
      let w = (centred-within first last span wide_exponent mid step h g).exponent in
      rw (centred-is r q, ← view) (omega arith)

-- ---- an enclosure from its parts
pub enclosure-single : (a b : ℤ) → lt_z a b ≡ false → (mid plain step z : Interval) → z ≡ zero_interval → record { mid = mid; range = mid; step = z } ≡ enclosure a b mid plain step
unfolding enclosure
enclosure-single a b h mid plain step z e = rw (h, e)

pub enclosure-wide : (a b : ℤ) → lt_z a b ≡ true → (mid plain step r c : Interval) → c ≡ centred a b mid step → r ≡ meet plain c → record { mid = mid; range = r; step = step } ≡ enclosure a b mid plain step
unfolding enclosure
enclosure-wide a b h mid plain step r c e f = rw (h, f, e)

-- ---- what is enclosed lies in both ranges of a result
module _ (a b : ℤ) (w : lt_z a b ≡ true) (x y : Enclosure) (h : Encloses a b x) (g : Encloses a b y) where
  shared-sum : Overlaps (sum x.range y.range) (centred a b (sum x.mid y.mid) (sum x.step y.step))
  shared-sum =
      Overlaps-parts (λ t. fraction_add (h.exact t) (g.exact t)) a b (AllFractions-two a b (ordered a b w) h.exact g.exact h.numbers g.numbers) (ordered a b w) (sum x.mid y.mid) (sum x.range y.range) (sum x.step y.step) (PartsHold-sum a b (ordered a b w) h.exact g.exact h.numbers g.numbers x y h.is_enclosure g.is_enclosure)

  shared-difference : Overlaps (difference x.range y.range) (centred a b (difference x.mid y.mid) (difference x.step y.step))
  shared-difference =
      Overlaps-parts (λ t. fraction_sub (h.exact t) (g.exact t)) a b (AllFractions-two a b (ordered a b w) h.exact g.exact h.numbers g.numbers) (ordered a b w) (difference x.mid y.mid) (difference x.range y.range) (difference x.step y.step) (PartsHold-difference a b (ordered a b w) h.exact g.exact h.numbers g.numbers x y h.is_enclosure g.is_enclosure)

  pub shared-product : Overlaps (product x.range y.range) (centred a b (product x.mid y.mid) (sum (product x.range y.step) (product y.range x.step)))
  shared-product =
      Overlaps-parts (λ t. fraction_mul (h.exact t) (g.exact t)) a b (AllFractions-two a b (ordered a b w) h.exact g.exact h.numbers g.numbers) (ordered a b w) (product x.mid y.mid) (product x.range y.range) (sum (product x.range y.step) (product y.range x.step)) (PartsHold-product a b (ordered a b w) h.exact g.exact h.numbers g.numbers x y h.is_enclosure g.is_enclosure)

-- what a range and a step owe, over more than one time
module _ (a b : ℤ) (w : lt_z a b ≡ true) (x y : Enclosure) (u : AllWithin part_exponent x) (v : AllWithin part_exponent y) (h : Encloses a b x) (g : Encloses a b y) where
  pub sum-owes : record { several : lt_z a b ≡ true; mid_within : IsWithin wide_exponent (sum x.mid y.mid); plain_within : IsWithin wide_exponent (sum x.range y.range); step_within : IsWithin wide_exponent (sum x.step y.step); shared : Overlaps (sum x.range y.range) (centred a b (sum x.mid y.mid) (sum x.step y.step)) }
  sum-owes =
      record { several = w; mid_within = sum-wide x.mid y.mid u.mid v.mid; plain_within = sum-wide x.range y.range u.range v.range; step_within = sum-wide x.step y.step u.step v.step; shared = shared-sum a b w x y h g }

  pub difference-owes : record { several : lt_z a b ≡ true; mid_within : IsWithin wide_exponent (difference x.mid y.mid); plain_within : IsWithin wide_exponent (difference x.range y.range); step_within : IsWithin wide_exponent (difference x.step y.step); shared : Overlaps (difference x.range y.range) (centred a b (difference x.mid y.mid) (difference x.step y.step)) }
  difference-owes =
      record { several = w; mid_within = difference-wide x.mid y.mid u.mid v.mid; plain_within = difference-wide x.range y.range u.range v.range; step_within = difference-wide x.step y.step u.step v.step; shared = shared-difference a b w x y h g }

pub shared-signed_square : (a b : ℤ) → lt_z a b ≡ true → (x : Enclosure) → Encloses a b x → Overlaps (signed_square x.range) (centred a b (signed_square x.mid) (product (twice_size x.range) x.step))
shared-signed_square a b w x h =
    Overlaps-parts (λ t. fraction_signed_square (h.exact t)) a b (AllFractions-two a b (ordered a b w) h.exact h.exact h.numbers h.numbers) (ordered a b w) (signed_square x.mid) (signed_square x.range) (product (twice_size x.range) x.step) (PartsHold-signed_square a b (ordered a b w) h.exact h.numbers x h.is_enclosure)

pub offsets-made : (a b : ℤ) → IsSpan a b → (m lo hi : ℤ) (r : Interval) → m ≡ middle a b → lo ≡ a -ℤ m → hi ≡ b -ℤ m → r ≡ narrow lo hi (pos 0) → r ≡ offsets a b
offsets-made a b s m lo hi r e f g h = h ∙ rw (f, g, e) (offsets-narrow a b s)

pub twice_size-made : (t : Interval) (lo hi s size : ℤ) (r : Interval) → lo ≡ t.lo → hi ≡ t.hi → s ≡ t.s → size ≡ pos (2 * max (unsigned_abs lo) (unsigned_abs hi)) → r ≡ narrow (pos 0) size s → r ≡ twice_size t
unfolding twice_size
twice_size-made t lo hi s size r e f g h k = k ∙ rw (h, e, f, g)
