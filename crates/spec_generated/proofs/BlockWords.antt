-- The words of a block: what they are made of, and what they are read as.
use Rattle.std.proofs.Common.{◌≡◌, ◌+◌, ◌-◌, ◌*◌, ◌/◌, ◌^◌, ◌<◌, ◌≤◌, ℕ, suc, false, List, [], ◌∷◌, length, Ok, refl, sym, ap, ◌∙◌, arith, lit<, lit≤, rules, subst, inl, inr, ℤ, pos, negsuc}
use Rattle.std.specs.Prelude.{unsigned_abs}
use Rattle.std.specs.Fmt.{decimal}
use Rattle.std.proofs.Math.Nat.{div-lt_iff_lt-mul, mod-lt}
use Rattle.std.proofs.lemmas.Bool.{cases_lt, le-ltb, lt-ltb}
use Rattle.std.proofs.lemmas.Fmt.{decimal_nonempty, length-decimal-le}
use Rattle.std.proofs.lemmas.List.{length-append}
use Rattle.spec_text.specs.Printed.{AreFrom}
use Rattle.spec_text.proofs.Printed.{decimal_digits, digits_from, from_append}
use Rattle.spec_text.specs.Reading.{reading}
use Rattle.spec_text.specs.declared.decimals.Decimal.{Decimal}
use Rattle.spec_files.specs.BlockRules.{is_too_large}
use Rattle.spec_generated.specs.Draws.{drawn, draws_upto, state_after}
use Rattle.spec_generated.specs.Words.{block_number, block_word, coefficient_at, coefficient_number, coefficient_word, date_number, date_of, date_word, fraction_word, padded_digits, zero_word}
use Rattle.spec_generated.proofs.Digits.{is_padded}
use Rattle.spec_generated.proofs.Readings.{coefficient_reads, date_reads}
use Rattle.spec_generated.proofs.Sizes.{millionths_small, not_large}

-- a word of printed bytes without blanks
pub record IsWord (word : List ℕ) : Type 0 where
  pub bytes : AreFrom 33 word
  pub some : 0 < length word
  pub short : length word ≤ 40

pub decimal_word : (n : ℕ) → n < 10 ^ 9 → IsWord (decimal n)
decimal_word n small =
    let fits : n < 2 ^ 64 = omega (arith, small) in
    record {
      bytes = digits_from (decimal n) (decimal_digits n fits);
      some = decimal_nonempty n fits;
      short = omega (arith, length-decimal-le 9 n (lit< tt) small fits);
    }

fraction_is : (n e f : ℕ) → n < 10 ^ 18 → 33 ≤ e → 33 ≤ f → IsWord (fraction_word n (68 ∷ 43 ∷ e ∷ f ∷ []))
fraction_is n e f small tens ones =
    let padded = is_padded n small in
    let end : AreFrom 33 (68 ∷ 43 ∷ e ∷ f ∷ []) = (lit≤ tt, (lit≤ tt, (tens, (ones, tt)))) in
    record {
      bytes = (lit≤ tt, (lit≤ tt, from_append 33 (padded_digits n) (68 ∷ 43 ∷ e ∷ f ∷ []) (digits_from (padded_digits n) padded.digits) end));
      some = omega arith;
      short = omega (arith, length-append (padded_digits n) (68 ∷ 43 ∷ e ∷ f ∷ []), padded.count);
    }

negative_is : (n e f : ℕ) → n < 10 ^ 18 → 33 ≤ e → 33 ≤ f → IsWord (45 ∷ fraction_word n (68 ∷ 43 ∷ e ∷ f ∷ []))
negative_is n e f small tens ones =
    let padded = is_padded n small in
    let inner = fraction_is n e f small tens ones in
    record {
      bytes = (lit≤ tt, inner.bytes);
      some = omega arith;
      short = omega (arith, length-append (padded_digits n) (68 ∷ 43 ∷ e ∷ f ∷ []), padded.count);
    }

coefficient_is : (z : ℤ) → unsigned_abs z < 10 ^ 18 → IsWord (coefficient_word z)
coefficient_is (pos n) small = rw (le-ltb n 0 (omega arith)) (fraction_is n 49 50 small (lit≤ tt) (lit≤ tt))
coefficient_is (negsuc n) small = negative_is (suc n) 49 50 small (lit≤ tt) (lit≤ tt)

date_is : (block : ℕ) → block ≤ 41 → IsWord (date_word block)
date_is block few = fraction_is (date_of block) 48 55 (omega (arith, few)) (lit≤ tt) (lit≤ tt)

zero_is : IsWord zero_word
zero_is = record { bytes = search rules; some = lit< tt; short = lit≤ tt }

-- what is drawn is below 2^32
draw_small : (state place : ℕ) → 3 ≤ place → place ≤ 1018 → drawn (state_after state (draws_upto place)) < 2 ^ 32
unfolding state_after
draw_small state place low high =
    let one : draws_upto place ≡ suc (place - 3) = omega (arith, low, high) in
    let below : state_after state (suc (place - 3)) < 2 ^ 64 = mod-lt _ (lit< tt) in
    let half : state_after state (suc (place - 3)) / 2 ^ 32 < 2 ^ 32 = (div-lt_iff_lt-mul {k = 2 ^ 32} (lit< tt)).1 below in
    subst (λ (n : ℕ). drawn (state_after state n) < 2 ^ 32) (sym one) half

pub coefficient_small : (state place : ℕ) → 3 ≤ place → place ≤ 1018 → unsigned_abs (coefficient_at state place) ≤ 2 ^ 31 * 2700000
coefficient_small state place low high = millionths_small place (drawn (state_after state (draws_upto place))) (draw_small state place low high)

-- the words at the places of dates, of coefficients and after the last number
pub record IsAt (state block place : ℕ) (text : List ℕ) (value : Decimal) : Type 0 where
  pub word : block_word state block place ≡ text
  pub number : block_number state block place ≡ value

pub date_at : (state block place : ℕ) → place < 3 → IsAt state block place (date_word (block + (place - 1))) (date_number (block + (place - 1)))
unfolding block_word block_number
date_at state block place low = record { word = rw (lt-ltb place 3 low) refl; number = rw (lt-ltb place 3 low) refl }

pub number_at : (state block place : ℕ) → 3 ≤ place → place ≤ 1018
    → IsAt state block place (coefficient_word (coefficient_at state place)) (coefficient_number (coefficient_at state place))
unfolding block_word block_number
number_at state block place low high =
    record { word = rw (le-ltb place 3 low, le-ltb 1018 place high) refl; number = rw (le-ltb place 3 low) refl }

pub zero_at : (state block place : ℕ) → 1018 < place → block_word state block place ≡ zero_word
unfolding block_word
zero_at state block place high = rw (le-ltb place 3 (omega (arith, high)), lt-ltb 1018 place high) refl

pub block_word_is : (state block place : ℕ) → block ≤ 40 → IsWord (block_word state block place)
block_word_is state block place few = elim (cases_lt place 3) [
  | inl low ↦ rw (date_at state block place low).word (date_is (block + (place - 1)) (omega (arith, few, low)))
  | inr low ↦ elim (cases_lt 1018 place) [
    | inl high ↦ rw (zero_at state block place high) zero_is
    | inr high ↦ rw (number_at state block place low high).word (coefficient_is (coefficient_at state place) (omega (arith, coefficient_small state place low high)))
  ]
]

pub block_word_reads : (state block place : ℕ) → block ≤ 40 → place ≤ 1018 → reading (block_word state block place) ≡ Ok (block_number state block place)
block_word_reads state block place few high = elim (cases_lt place 3) [
  | inl low ↦
      let at = date_at state block place low in
      ap reading at.word ∙ date_reads (block + (place - 1)) (omega (arith, few, low)) ∙ ap (λ (d : Decimal). Ok d) (sym at.number)
  | inr low ↦
      let at = number_at state block place low high in
      ap reading at.word ∙ coefficient_reads (coefficient_at state place) (omega (arith, coefficient_small state place low high)) ∙ ap (λ (d : Decimal). Ok d) (sym at.number)
]

pub block_number_small : (state block place : ℕ) → 3 ≤ place → place ≤ 1018 → is_too_large (block_number state block place) ≡ false
block_number_small state block place low high =
    ap is_too_large (number_at state block place low high).number ∙ not_large (coefficient_at state place) (coefficient_small state place low high)
