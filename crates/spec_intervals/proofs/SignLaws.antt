-- What the sign of an interval tells of the numbers that it holds.
use Rattle.std.proofs.Common.{◌≡◌, ℕ, ◌*◌, ◌^◌, ◌<◌, arith, refl, ℤ, pos, negsuc, neg_ℤ, ◌*ℤ◌, ◌≤ℤ◌, ◌<ℤ◌, Bool, true, false}
use Rattle.std.specs.Prelude.{if◌then◌else◌}
use Rattle.std.proofs.lemmas.Int.{ints}
use Rattle.std.proofs.lemmas.Nat.{pow_pos}
use borrow.Author.Differences.{up, down}
use lib.Signed.{le_z, lt_z}
use Rattle.spec_intervals.specs.declared.signs.Sign.TheVariants.{Yes, No, Open}
use Rattle.spec_intervals.specs.Interval.{Interval}
use Rattle.spec_intervals.specs.Fraction.{Fraction, IsFraction, Holds}
use Rattle.spec_intervals.specs.Signs.{sign_of}
use Rattle.spec_numbers.proofs.Naturals.{positive_product}
use Rattle.spec_numbers.proofs.Order.{lin, le-mul, le-mul_cancel}

pub yes-low : (x : Interval) → sign_of x ≡ Yes → pos 0 ≤ℤ x.lo
yes-low x e = by (le_z (pos 0) x.lo) (lt_z x.hi (pos 0)) refl refl e
  where
    by : (a b : Bool) → le_z (pos 0) x.lo ≡ a → lt_z x.hi (pos 0) ≡ b → (if a then Yes else (if b then No else Open)) ≡ Yes → pos 0 ≤ℤ x.lo
    by true b p q r = omega (arith, lin)
    by false true p q r = cc
    by false false p q r = cc

pub no-high : (x : Interval) → sign_of x ≡ No → x.hi <ℤ pos 0
no-high x e = by (le_z (pos 0) x.lo) (lt_z x.hi (pos 0)) refl refl e
  where
    by : (a b : Bool) → le_z (pos 0) x.lo ≡ a → lt_z x.hi (pos 0) ≡ b → (if a then Yes else (if b then No else Open)) ≡ No → x.hi <ℤ pos 0
    by true b p q r = cc
    by false true p q r = omega (arith, lin)
    by false false p q r = cc

pub yes-not_negative : (x : Interval) (r : Fraction) → sign_of x ≡ Yes → Holds x r → pos 0 ≤ℤ r.numerator
yes-not_negative x r e h =
    let a : pos 0 ≤ℤ x.lo = yes-low x e in
    let b : (pos 0 *ℤ pos (2 ^ up x.s * r.denominator)) ≤ℤ (x.lo *ℤ pos (2 ^ up x.s * r.denominator)) = le-mul (pos 0) x.lo (pos (2 ^ up x.s * r.denominator)) (omega (arith, lin)) a in
    le-mul_cancel (pos 0) r.numerator (2 ^ down x.s) (pow_pos (down x.s)) (omega (arith, ints, h.low))

-- z * n is below 0 where z is and n is not 0
below : (z : ℤ) (n : ℕ) → z <ℤ pos 0 → 0 < n → (z *ℤ pos n) <ℤ pos 0
below z n h p =
    let b : (z *ℤ pos n) ≤ℤ (neg_ℤ (pos 1) *ℤ pos n) = le-mul z (neg_ℤ (pos 1)) (pos n) (omega (arith, lin)) (omega (arith, lin)) in
    omega (arith, ints)

pub no-negative : (x : Interval) (r : Fraction) → sign_of x ≡ No → IsFraction r → Holds x r → r.numerator <ℤ pos 0
no-negative x r e d h =
    let a : (x.hi *ℤ pos (2 ^ up x.s * r.denominator)) <ℤ pos 0 = below x.hi (2 ^ up x.s * r.denominator) (no-high x e) (positive_product (2 ^ up x.s) r.denominator (pow_pos (up x.s)) d) in
    by (r.numerator) h.high a
  where
    by : (n : ℤ) → (n *ℤ pos (2 ^ down x.s)) ≤ℤ (x.hi *ℤ pos (2 ^ up x.s * r.denominator)) → (x.hi *ℤ pos (2 ^ up x.s * r.denominator)) <ℤ pos 0 → n <ℤ pos 0
    by (pos n) p q = let t : pos 0 ≤ℤ (pos n *ℤ pos (2 ^ down x.s)) = omega (arith, ints) in absurd (omega (arith, lin))
    by (negsuc n) p q = omega (arith, ints)
