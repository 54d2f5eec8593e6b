-- A word has one answer, which `reading` computes, and a decimal that is read keeps its bounds.
use Rattle.std.proofs.Common.{◌≡◌, ℕ, ◌≤◌, List, ◌++◌, Option, None, Some, Result, Ok, Err, pos, neg_ℤ, ◌≤ℤ◌, length, length-append, eq-eqb, ne_eqb, refl, sym, ap, ◌∙◌, subst, inl, inr, arith}
use Rattle.std.proofs.lemmas.Bool.{cases_lt, cases_eq, lt-ltb, le-ltb}
use Rattle.std.proofs.lemmas.Int.{ints}
use Rattle.spec_text.specs.declared.decimals.Decimal.{Decimal}
use Rattle.spec_text.specs.declared.decimals.NumberFault.{NumberFault}
use Rattle.spec_text.specs.declared.decimals.NumberFault.TheVariants.{NotNumber, TooManyDigits, ExponentRange}
use Rattle.spec_text.specs.Decimals.{Sign, unsigned, plus, minus, Exponent, Numeral, Spells, AreDigits, sign_text, fraction_text, exponent_text, text, after_point, digits, exponent_size, significant, value}
use Rattle.spec_text.specs.Reading.{signed, exponent_value, decimal_of, SpellsShort, Reads, reading_of, reading, IsWithinBounds}
use Rattle.spec_text.specs.Splitting.{numeral_of}
use Rattle.spec_text.proofs.Sound.{numeral_of_is}
use Rattle.spec_text.proofs.Complete.{numeral_again}
use Rattle.spec_text.proofs.Significant.{few_digits}
use Rattle.spec_text.proofs.Assembly.{digits_append}

-- the numeral that a word spells is found
numeral_is : (word : List ℕ) (n : Numeral) → Spells word n → numeral_of word ≡ Some n
numeral_is word n spells = ap numeral_of spells.bytes ∙ numeral_again n spells.form

reads_numeral : (word : List ℕ) (n : Numeral) → Spells word n → Reads word (reading_of (Some n))
reads_numeral word n spells = elim (cases_lt 18 (length (significant (digits n)))) [
  | inl many ↦ rw (lt-ltb 18 (length (significant (digits n))) many) (n, spells, many)
  | inr few ↦
      let short : SpellsShort word n = record { spells = spells; few = few } in
      rw (le-ltb 18 (length (significant (digits n))) few) (elim (cases_lt 99 (exponent_size n.exponent)) [
        | inl far ↦ rw (lt-ltb 99 (exponent_size n.exponent) far) (n, short, far)
        | inr near ↦ rw (le-ltb 99 (exponent_size n.exponent) near) (n, short, near, refl)
      ])
]

reads_found : (word : List ℕ) (found : Option Numeral) → numeral_of word ≡ found → length word ≤ 40 → Reads word (reading_of found)
reads_found word None is short = λ n spells. let again = numeral_is word n spells in absurd (cc)
reads_found word (Some n) is short =
    let of = numeral_of_is word n is in
    reads_numeral word n (record { form = of.form; bytes = of.bytes; short = short })

-- the answer that is computed is an answer
pub reads_reading : (word : List ℕ) → Reads word (reading word)
reads_reading word = elim (cases_lt 40 (length word)) [
  | inl long ↦ rw (lt-ltb 40 (length word) long) (λ n spells. absurd (omega (arith, long, spells.short)))
  | inr short ↦ rw (le-ltb 40 (length word) short) (reads_found word (numeral_of word) refl short)
]

-- and so is any that equals it
pub reads_by : (word : List ℕ) (answer : Result Decimal NumberFault) → answer ≡ reading word → Reads word answer
reads_by word answer is = subst (Reads word) (sym is) (reads_reading word)

not_found : (word : List ℕ) (found : Option Numeral) → numeral_of word ≡ found → length word ≤ 40
    → ((n : Numeral) → Spells word n → ⊥) → Err NotNumber ≡ reading_of found
not_found word None is short none = refl
not_found word (Some n) is short none =
    let of = numeral_of_is word n is in
    absurd (none n (record { form = of.form; bytes = of.bytes; short = short }))

-- an answer is the one that is computed
pub reads_is : (word : List ℕ) (answer : Result Decimal NumberFault) → Reads word answer → answer ≡ reading word
reads_is word (Ok d) (n, short, near, is) =
    rw (
      le-ltb 40 (length word) short.spells.short,
      numeral_is word n short.spells,
      le-ltb 18 (length (significant (digits n))) short.few,
      le-ltb 99 (exponent_size n.exponent) near,
    ) (ap (λ (x : Decimal). Ok x) is)
reads_is word (Err NotNumber) none = elim (cases_lt 40 (length word)) [
  | inl long ↦ rw (lt-ltb 40 (length word) long) refl
  | inr short ↦ rw (le-ltb 40 (length word) short) (not_found word (numeral_of word) refl short none)
]
reads_is word (Err TooManyDigits) (n, spells, many) =
    rw (
      le-ltb 40 (length word) spells.short,
      numeral_is word n spells,
      lt-ltb 18 (length (significant (digits n))) many,
    ) refl
reads_is word (Err ExponentRange) (n, short, far) =
    rw (
      le-ltb 40 (length word) short.spells.short,
      numeral_is word n short.spells,
      le-ltb 18 (length (significant (digits n))) short.few,
      lt-ltb 99 (exponent_size n.exponent) far,
    ) refl

pub one_answer : (word : List ℕ) (a b : Result Decimal NumberFault) → Reads word a → Reads word b → a ≡ b
one_answer word a b first second = reads_is word a first ∙ sym (reads_is word b second)

signed_low : (sign : Sign) (n : ℕ) → neg_ℤ (pos n) ≤ℤ signed sign n
signed_low unsigned n = omega (arith, ints)
signed_low plus n = omega (arith, ints)
signed_low minus n = omega (arith, ints)

signed_high : (sign : Sign) (n : ℕ) → signed sign n ≤ℤ pos n
signed_high unsigned n = omega (arith, ints)
signed_high plus n = omega (arith, ints)
signed_high minus n = omega (arith, ints)

exponent_low : (e : Option Exponent) → neg_ℤ (pos (exponent_size e)) ≤ℤ exponent_value e
exponent_low None = omega (arith, ints)
exponent_low (Some e) = signed_low e.sign (value e.digits)

exponent_high : (e : Option Exponent) → exponent_value e ≤ℤ pos (exponent_size e)
exponent_high None = omega (arith, ints)
exponent_high (Some e) = signed_high e.sign (value e.digits)

fraction_text_longer : (f : Option (List ℕ)) → length (after_point f) ≤ length (fraction_text f)
fraction_text_longer None = omega arith
fraction_text_longer (Some ds) = omega arith

-- the digits after the point are a part of the word
pub fraction_short : (n : Numeral) → length (after_point n.fraction) ≤ length (text n)
fraction_short n = omega (
  arith,
  fraction_text_longer n.fraction,
  length-append (sign_text n.sign) (n.whole ++ (fraction_text n.fraction ++ exponent_text n.exponent)),
  length-append n.whole (fraction_text n.fraction ++ exponent_text n.exponent),
  length-append (fraction_text n.fraction) (exponent_text n.exponent),
)

numeral_bounds : (n : Numeral) → AreDigits (digits n) → length (significant (digits n)) ≤ 18 → exponent_size n.exponent ≤ 99 → length (after_point n.fraction) ≤ 40
    → IsWithinBounds (decimal_of n)
numeral_bounds n are few near short = elim (cases_eq (value (digits n)) 0) [
  | inl none ↦ rw (eq-eqb _ _ none) (record {
    mant_low = omega (arith, ints);
    mant_high = omega (arith, ints);
    exp_low = omega (arith, ints);
    exp_high = omega (arith, ints);
  })
  | inr some ↦
      let small = few_digits (digits n) are few in
      rw (ne_eqb _ _ some) (record {
        mant_low = omega (arith, ints, small, signed_low n.sign (value (digits n)));
        mant_high = omega (arith, ints, small, signed_high n.sign (value (digits n)));
        exp_low = omega (arith, ints, near, short, exponent_low n.exponent);
        exp_high = omega (arith, ints, near, exponent_high n.exponent);
      })
]

pub bounds : (word : List ℕ) (d : Decimal) → Reads word (Ok d) → IsWithinBounds d
bounds word d (n, spelled, near, is) =
    let form = spelled.spells.form in
    let short : length (after_point n.fraction) ≤ 40 = omega (arith, fraction_short n, ap length spelled.spells.bytes, spelled.spells.short) in
    subst IsWithinBounds (sym is) (numeral_bounds n (digits_append _ _ form.whole form.fraction) spelled.few near short)
