-- A word that was split, and what is read of it.
use Rattle.std.proofs.Common.{◌≡◌, ℕ, ◌≤◌, List, Option, None, Some, Result, Err, length, refl, ap, arith}
use Rattle.std.proofs.lemmas.Bool.{le-ltb}
use Rattle.spec_text.specs.declared.decimals.Decimal.{Decimal}
use Rattle.spec_text.specs.declared.decimals.NumberFault.{NumberFault}
use Rattle.spec_text.specs.declared.decimals.NumberFault.TheVariants.{NotNumber}
use Rattle.spec_text.specs.Decimals.{Numeral, AreDigits, digits}
use Rattle.spec_text.specs.Reading.{reading_of, reading}
use Rattle.spec_text.specs.Splitting.{numeral_of}
use Rattle.spec_text.proofs.Assembly.{digits_append}
use Rattle.spec_text.proofs.Sound.{numeral_of_is}
use Rattle.spec_text.proofs.Answering.{fraction_short}
use Rattle.de_text.specs.declared.parts.Parts.{Parts}
use Rattle.de_text.specs.Parts.{Shows, Splits, IsOfShortWord}

fits_found : (word : List ℕ) (found : Option Numeral) (parts : Parts) → numeral_of word ≡ found → length word ≤ 40 → Splits found (Some parts) → IsOfShortWord parts
fits_found word None parts is short splits = absurd splits
fits_found word (Some n) parts is short shows = record {
  mantissa = omega (arith, shows.mantissa);
  places = omega (arith, shows.places, fraction_short n, ap length (numeral_of_is word n is).bytes);
  exponent = omega (arith, shows.exponent);
}

pub fits : (word : List ℕ) (parts : Parts) → length word ≤ 40 → Splits (numeral_of word) (Some parts) → IsOfShortWord parts
fits word parts short splits = fits_found word (numeral_of word) parts refl short splits

found_is : (word : List ℕ) (found : Option Numeral) (parts : Parts) (answer : Result Decimal NumberFault) → numeral_of word ≡ found → Splits found (Some parts)
    → ((n : Numeral) → AreDigits (digits n) → Shows n parts → answer ≡ reading_of (Some n)) → answer ≡ reading_of found
found_is word None parts answer is splits reads = absurd splits
found_is word (Some n) parts answer is shows reads =
    let form = (numeral_of_is word n is).form in
    reads n (digits_append _ _ form.whole form.fraction) shows

pub some_is : (word : List ℕ) (parts : Parts) (answer : Result Decimal NumberFault) → length word ≤ 40 → Splits (numeral_of word) (Some parts)
    → ((n : Numeral) → AreDigits (digits n) → Shows n parts → answer ≡ reading_of (Some n)) → answer ≡ reading word
some_is word parts answer short splits reads = rw (le-ltb 40 (length word) short) (found_is word (numeral_of word) parts answer refl splits reads)

none_found : (found : Option Numeral) → Splits found None → Err NotNumber ≡ reading_of found
none_found None splits = refl
none_found (Some n) splits = absurd splits

pub none_is : (word : List ℕ) → length word ≤ 40 → Splits (numeral_of word) None → Err NotNumber ≡ reading word
none_is word short splits = rw (le-ltb 40 (length word) short) (none_found (numeral_of word) splits)
