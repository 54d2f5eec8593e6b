-- A word that is a decimal is printed, without blanks, and has at most 40 bytes.
use Rattle.std.proofs.Common.{◌≡◌, ℕ, ◌≤◌, List, ◌++◌, Option, None, Some, Ok, sym, subst, arith, inl, inr, lit≤}
use Rattle.std.specs.Prelude.{IfSome}
use Rattle.spec_text.specs.Decimals.{AreDigits, Exponent, IsExponent, IsMark, IsNumeral, Numeral, Sign, unsigned, plus, minus, after_point, exponent_text, fraction_text, sign_text, text}
use Rattle.spec_text.specs.Reading.{Reads, reading}
use Rattle.spec_text.specs.declared.decimals.Decimal.{Decimal}
use Rattle.spec_text.proofs.Answering.{reads_reading}
use Rattle.spec_text.specs.Printed.{AreFrom, IsPlain}
use Rattle.spec_text.proofs.Printed.{digits_from, from_append}

sign_plain : (s : Sign) → AreFrom 33 (sign_text s)
sign_plain unsigned = tt
sign_plain plus = (lit≤ tt, tt)
sign_plain minus = (lit≤ tt, tt)

fraction_plain : (f : Option (List ℕ)) → AreDigits (after_point f) → AreFrom 33 (fraction_text f)
fraction_plain None are = tt
fraction_plain (Some ds) are = (lit≤ tt, digits_from ds are)

mark_plain : (b : ℕ) → IsMark b → 33 ≤ b
mark_plain b (inl e) = omega (arith, e)
mark_plain b (inr (inl e)) = omega (arith, e)
mark_plain b (inr (inr (inl e))) = omega (arith, e)
mark_plain b (inr (inr (inr e))) = omega (arith, e)

exponent_plain : (e : Option Exponent) → IfSome e IsExponent → AreFrom 33 (exponent_text e)
exponent_plain None is = tt
exponent_plain (Some e) is = (mark_plain e.mark is.mark, from_append 33 (sign_text e.sign) e.digits (sign_plain e.sign) (digits_from e.digits is.digits))

numeral_plain : (n : Numeral) → IsNumeral n → AreFrom 33 (text n)
numeral_plain n is =
    from_append 33 (sign_text n.sign) (n.whole ++ (fraction_text n.fraction ++ exponent_text n.exponent)) (sign_plain n.sign)
    (from_append 33 n.whole (fraction_text n.fraction ++ exponent_text n.exponent) (digits_from n.whole is.whole)
    (from_append 33 (fraction_text n.fraction) (exponent_text n.exponent) (fraction_plain n.fraction is.fraction) (exponent_plain n.exponent is.exponent)))

read_plain : (word : List ℕ) (d : Decimal) → Reads word (Ok d) → IsPlain word
read_plain word d reads =
    let spells = reads.1.spells in
    record { bytes = subst (AreFrom 33) (sym spells.bytes) (numeral_plain reads.0 spells.form); short = spells.short }

pub decimal_plain : (word : List ℕ) (d : Decimal) → reading word ≡ Ok d → IsPlain word
decimal_plain word d e = read_plain word d (subst (Reads word) e (reads_reading word))
