-- What an interval shares with one that includes it: its sign, where that is known, and the way in which steps lead.
use Rattle.std.proofs.Common.{◌≡◌, ◌⊎◌, inl, inr, Bool, true, false, not, ℤ, pos, ◌≤ℤ◌, ◌<ℤ◌, refl, arith}
use Rattle.std.specs.Prelude.{if◌then◌else◌}
use Rattle.std.proofs.lemmas.Bool.{or_cases, false≢true}
use Rattle.std.proofs.Math.Bool.{or-true}
use lib.Signed.{le_z, lt_z}
use Rattle.spec_numbers.proofs.Order.{lin}
use Rattle.spec_intervals.specs.declared.signs.Sign.{Sign}
use Rattle.spec_intervals.specs.declared.signs.Sign.TheVariants.{Yes, No, Open}
use Rattle.spec_intervals.specs.Interval.{Interval}
use Rattle.spec_intervals.specs.Signs.{sign_of}
use Rattle.spec_intervals.proofs.SignLaws.{yes-low, no-high}
use Rattle.spec_events.specs.Verdict.{certifies, is_one_way, rises, falls}
use Rattle.spec_models.specs.Inclusion.{Includes}
use Rattle.spec_models.proofs.Inclusions.{Includes-not_negative, Includes-not_positive, Includes-negative}

tested : (p q : ℤ) → p ≤ℤ q → le_z p q ≡ true
tested p q h = by (le_z p q) refl
  where
    by : (c : Bool) → le_z p q ≡ c → c ≡ true
    by true e = refl
    by false e = absurd (omega (arith, lin))

-- ---- signs
pub sign_above : (x : Interval) → pos 0 ≤ℤ x.lo → sign_of x ≡ Yes
sign_above x low = rw (tested (pos 0) x.lo low) refl

pub sign_below : (x : Interval) → x.lo ≤ℤ x.hi → x.hi <ℤ pos 0 → sign_of x ≡ No
sign_below x in_order high = by (le_z (pos 0) x.lo) (lt_z x.hi (pos 0)) refl refl
  where
    by : (p q : Bool) → le_z (pos 0) x.lo ≡ p → lt_z x.hi (pos 0) ≡ q → (if p then Yes else (if q then No else Open)) ≡ No
    by true q h g = absurd (omega (arith, lin))
    by false true h g = refl
    by false false h g = absurd (omega (arith, lin))

-- what includes it certifies, and so it does
pub certified_included : (at_least : Bool) (y x : Interval) → x.lo ≤ℤ x.hi → Includes y x → certifies at_least (sign_of y) ≡ true → certifies at_least (sign_of x) ≡ true
certified_included at_least y x in_order includes certified = by at_least (sign_of y) refl certified
  where
    by : (at_least : Bool) (sign : Sign) → sign_of y ≡ sign → certifies at_least sign ≡ true → certifies at_least (sign_of x) ≡ true
    by true Yes e is = rw (sign_above x (Includes-not_negative y x includes (yes-low y e))) refl
    by true No e is = absurd (false≢true is)
    by true Open e is = absurd (false≢true is)
    by false Yes e is = absurd (false≢true is)
    by false No e is = rw (sign_below x in_order (Includes-negative y x includes (no-high y e))) refl
    by false Open e is = absurd (false≢true is)

-- and then the opposite is not certified
pub not_refuted : (at_least : Bool) (sign : Sign) → certifies at_least sign ≡ true → certifies (not at_least) sign ≡ false
not_refuted true Yes is = refl
not_refuted true No is = absurd (false≢true is)
not_refuted true Open is = absurd (false≢true is)
not_refuted false Yes is = absurd (false≢true is)
not_refuted false No is = refl
not_refuted false Open is = absurd (false≢true is)

-- ---- steps
pub one_way_included : (y x : Interval) → Includes y x → is_one_way y ≡ true → is_one_way x ≡ true
one_way_included y x includes one_way = by (or_cases (rises y) (falls y) one_way)
  where
    by : (rises y ≡ true) ⊎ (falls y ≡ true) → is_one_way x ≡ true
    by (inl up) = rw (tested (pos 0) x.lo (Includes-not_negative y x includes (omega (arith, lin)))) refl
    by (inr down) = rw (tested x.hi (pos 0) (Includes-not_positive y x includes (omega (arith, lin)))) (or-true (rises x))
