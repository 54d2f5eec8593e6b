-- What constants owe: they are within the limits of the rules, and are numbers.
use Rattle.std.proofs.Common.{◌≡◌, arith, ℤ, to_z, of_z, w64}
use Rattle.std.proofs.lemmas.Int.{to_z-of_z}
use mir.Syntax.{w16}
use mir.Val.{SFits}
use Rattle.spec_text.specs.declared.decimals.Decimal.{Decimal}
use Rattle.spec_intervals.specs.Interval.{Interval, IsDistance, IsCosine, from_decimal, distance_exponent, cosine_exponent}
use Rattle.spec_intervals.specs.Fraction.{Holds, Overlaps, decimal}
use Rattle.spec_intervals.specs.Enclosure.{IsWithin}
use Rattle.spec_expressions.specs.Term.{part_exponent}
use Rattle.spec_intervals.proofs.Exponents.{IsWithin-more, distance-within, cosine-within}
use Rattle.spec_expressions.proofs.Induction.{IsFraction-decimal}

pub decimal_kept : (d : Decimal) (s : ℤ) (r : Interval) → SFits w64 d.mant → SFits w16 d.exp → r ≡ from_decimal (to_z w64 (of_z w64 d.mant)) (to_z w16 (of_z w16 d.exp)) s → r ≡ from_decimal d.mant d.exp s
decimal_kept d s r f g e = rw (to_z-of_z w64 d.mant f, to_z-of_z w16 d.exp g) at e

pub length-within : (d : Decimal) (r : Interval) → r ≡ from_decimal d.mant d.exp distance_exponent → IsDistance d.mant d.exp → IsWithin part_exponent r
length-within d r e h =
    rw e (IsWithin-more 24 part_exponent (from_decimal d.mant d.exp distance_exponent) (omega arith) (distance-within d.mant d.exp h))

pub cosine-part : (d : Decimal) (r : Interval) → r ≡ from_decimal d.mant d.exp cosine_exponent → IsCosine d.mant d.exp → IsWithin part_exponent r
cosine-part d r e h =
    rw e (IsWithin-more 60 part_exponent (from_decimal d.mant d.exp cosine_exponent) (omega arith) (cosine-within d.mant d.exp h))

pub holds-number : (d : Decimal) (r : Interval) → Holds r (decimal d.mant d.exp) → Overlaps r r
holds-number d r h = record { common = decimal d.mant d.exp; is_fraction = IsFraction-decimal d.mant d.exp; in_first = h; in_second = h }
