-- The parts of a word, from what its pieces give one after the other.
use Rattle.std.proofs.Common.{◌≡◌, ◌≢◌, ℕ, ◌+◌, ◌^◌, ◌<◌, min, List, ◌++◌, Option, None, Some, length, length-append, ne_eqb, ap, ◌∙◌, subst, arith}
use Rattle.spec_text.specs.Decimals.{Sign, Exponent, after_point, value, value_after}
use Rattle.spec_text.specs.Splitting.{sign_at, digits_at, fraction_at, exponent_at, numeral_from, numeral_of}
use Rattle.de_text.specs.declared.parts.Parts.{Parts}
use Rattle.de_text.specs.Parts.{is_minus, ShowsExponent, Splits}
use Rattle.de_text.proofs.Values.{capped_both}

parted : (sign : Sign) (whole : List ℕ) (fraction : Option (List ℕ)) (exponent : Option (Option Exponent)) (parts : Parts)
    → parts.negative ≡ is_minus sign → parts.mantissa ≡ min (value (whole ++ after_point fraction)) (10 ^ 18) → parts.places ≡ length (after_point fraction)
    → ShowsExponent exponent (Some (parts.exponent_negative, parts.exponent)) → length (whole ++ after_point fraction) ≢ 0
    → Splits (numeral_from sign whole fraction exponent) (Some parts)
parted sign whole fraction None parts negative mantissa places exponent some = absurd exponent
parted sign whole fraction (Some e) parts negative mantissa places exponent some =
    rw (ne_eqb _ 0 some) (record { negative = negative; mantissa = mantissa; places = places; exponent_negative = exponent.0; exponent = exponent.1 })

-- after the sign, after the digits before the point, and after those after it
pub split_is : (word signless pointed last : List ℕ) (number count : ℕ) (parts : Parts)
    → parts.negative ≡ is_minus (sign_at word).0 → signless ≡ (sign_at word).1
    → number ≡ min (value (digits_at signless).0) (10 ^ 18) → count ≡ length (digits_at signless).0 → pointed ≡ (digits_at signless).1
    → parts.mantissa ≡ min (value_after number (after_point (fraction_at pointed).0)) (10 ^ 18) → parts.places ≡ length (after_point (fraction_at pointed).0)
    → last ≡ (fraction_at pointed).1 → ShowsExponent (exponent_at last) (Some (parts.exponent_negative, parts.exponent)) → 0 < count + parts.places
    → Splits (numeral_of word) (Some parts)
split_is word signless pointed last number count parts negative signless_is number_is count_is pointed_is mantissa places last_is exponent some =
    let sign = sign_at word in
    let whole = digits_at sign.1 in
    let fraction = fraction_at whole.1 in
    let rest_whole : pointed ≡ whole.1 = pointed_is ∙ ap (λ (l : List ℕ). (digits_at l).1) signless_is in
    let rest_all : last ≡ fraction.1 = last_is ∙ ap (λ (l : List ℕ). (fraction_at l).1) rest_whole in
    let whole_number : number ≡ min (value whole.0) (10 ^ 18) = number_is ∙ ap (λ (l : List ℕ). min (value (digits_at l).0) (10 ^ 18)) signless_is in
    let whole_count : count ≡ length whole.0 = count_is ∙ ap (λ (l : List ℕ). length (digits_at l).0) signless_is in
    let both : parts.mantissa ≡ min (value_after number (after_point fraction.0)) (10 ^ 18) =
    mantissa ∙ ap (λ (l : List ℕ). min (value_after number (after_point (fraction_at l).0)) (10 ^ 18)) rest_whole in
    let after : parts.places ≡ length (after_point fraction.0) = places ∙ ap (λ (l : List ℕ). length (after_point (fraction_at l).0)) rest_whole in
    parted sign.0 whole.0 fraction.0 (exponent_at fraction.1) parts negative
    (capped_both number parts.mantissa whole.0 (after_point fraction.0) whole_number both) after
    (subst (λ (l : List ℕ). ShowsExponent (exponent_at l) (Some (parts.exponent_negative, parts.exponent))) rest_all exponent)
    (λ e. absurd (omega (arith, some, whole_count, after, length-append whole.0 (after_point fraction.0), e)))
