-- Numbers below 10^18 in 18 digits.
use Rattle.std.proofs.Common.{◌≡◌, ◌-◌, ◌^◌, ◌<◌, ◌≤◌, ℕ, zero, suc, List, [], ◌∷◌, ◌++◌, length, replicate, refl, ap, ◌∙◌, arith, lit<, lit≤, inl, inr, eq-eqb, ne_eqb}
use Rattle.std.specs.Fmt.{decimal}
use Rattle.std.proofs.lemmas.Bool.{cases_eq}
use Rattle.std.proofs.lemmas.Fmt.{digits_value-decimal, length-decimal-le}
use Rattle.std.proofs.lemmas.List.{length-append}
use Rattle.spec_text.specs.Decimals.{AreDigits, significant, value}
use Rattle.spec_text.proofs.Assembly.{digits_append}
use Rattle.spec_text.proofs.Printed.{decimal_digits, numerals}
use Rattle.spec_generated.specs.Words.{padded_digits}

zeros_are : (k : ℕ) → AreDigits (replicate k 48)
zeros_are zero = tt
zeros_are (suc k) = ((lit≤ tt, lit≤ tt), zeros_are k)

zeros_value : (k : ℕ) (ds : List ℕ) → value (replicate k 48 ++ ds) ≡ value ds
zeros_value zero ds = refl
zeros_value (suc k) ds = zeros_value k ds

length_zeros : (k : ℕ) → length {A = ℕ} (replicate k 48) ≡ k
length_zeros zero = refl
length_zeros (suc k) = ap suc (length_zeros k)

pub fewer_significant : (ds : List ℕ) → length (significant ds) ≤ length ds
fewer_significant [] = omega arith
fewer_significant (d ∷ ds) = elim (cases_eq d 48) [
  | inl none ↦ rw (eq-eqb d 48 none) (omega (arith, fewer_significant ds))
  | inr some ↦ rw (ne_eqb d 48 some) (omega arith)
]

-- a number in 18 digits
pub record IsPadded (n : ℕ) : Type 0 where
  pub digits : AreDigits (padded_digits n)
  pub count : length (padded_digits n) ≡ 18
  pub value : value (padded_digits n) ≡ n

pub is_padded : (n : ℕ) → n < 10 ^ 18 → IsPadded n
is_padded n small =
    let fits : n < 2 ^ 64 = omega (arith, small) in
    let zeros = 18 - length (decimal n) in
    let few : length (decimal n) ≤ 18 = length-decimal-le 18 n (lit< tt) small fits in
    record {
      digits = digits_append (replicate zeros 48) (decimal n) (zeros_are zeros) (decimal_digits n fits);
      count = omega (arith, few, length-append (replicate zeros 48) (decimal n), length_zeros zeros);
      value = zeros_value zeros (decimal n) ∙ digits_value-decimal numerals n fits;
    }
