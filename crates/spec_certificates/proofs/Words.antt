-- The words of the lines of leaves and of the end, and what they say.
use Rattle.std.proofs.Common.{◌≡◌, ◌^◌, ◌<◌, ◌≤◌, ℕ, suc, List, [], ◌∷◌, ◌++◌, length, Some, ℤ, pos, negsuc, neg_ℤ, option_map, refl, sym, ap, ◌∙◌, subst, arith, lit<, lit≤, rules, ne_eqb, append_assoc}
use Rattle.std.specs.Prelude.{unsigned_abs}
use Rattle.std.specs.Fmt.{decimal, signed_decimal}
use Rattle.std.proofs.lemmas.Bool.{lt-ltb, le-leb}
use Rattle.std.proofs.lemmas.Fmt.{decimal_nonempty, digits_value-decimal, length-decimal-le}
use Rattle.std.proofs.lemmas.List.{length-append}
use Rattle.spec_text.specs.Decimals.{AreDigits}
use Rattle.spec_text.specs.Lines.{tokens}
use Rattle.spec_text.specs.Printed.{AreFrom, IsLine}
use Rattle.spec_text.proofs.Printed.{decimal_digits, digits_from, digits_pass, from_append, from_less, no_separators, numerals, printed}
use Rattle.spec_text.proofs.TokenLemmas.{first_token, last_token}
use Rattle.spec_trees.specs.declared.tree.Leaf.{Leaf}
use Rattle.spec_trees.specs.declared.tree.Mark.{Mark}
use Rattle.spec_trees.specs.declared.tree.Mark.TheVariants.{Clear, One, Undecided}
use Rattle.spec_trees.specs.declared.tree.Turn.TheVariants.{Rise, Fall}
use Rattle.spec_certificates.specs.declared.entry.Entry.TheVariants as entry
use Rattle.spec_certificates.specs.Entries.{count_of, entry_of, leaf_from, mark_of_word, time_of}
use Rattle.spec_certificates.specs.Texts.{end_text, leaf_text, mark_word}
use Rattle.spec_certificates.specs.Shapes.{FitsLine}

-- a word of printed bytes without blanks
record IsWord (most : ℕ) (word : List ℕ) : Type 0 where
  bytes : AreFrom 33 word
  some : 0 < length word
  short : length word ≤ most

-- ---- numbers
module _ (most n : ℕ) (some : 0 < most) (few : n < 10 ^ most) (fits : n < 2 ^ 64) where
  number_word : IsWord most (decimal n)
  number_word = record {
    bytes = digits_from (decimal n) (decimal_digits n fits);
    some = decimal_nonempty n fits;
    short = length-decimal-le most n some few fits;
  }

  counted : count_of most (decimal n) ≡ Some n
  counted =
      let all = digits_pass (decimal n) (decimal_digits n fits) in
      let is = lt-ltb 0 (length (decimal n)) (decimal_nonempty n fits) in
      let within = le-leb (length (decimal n)) most (length-decimal-le most n some few fits) in
      rw (all, is, within) (ap (λ (k : ℕ). Some k) (digits_value-decimal numerals n fits))

-- ---- times
plain_time : (word : List ℕ) (n : ℕ) → AreDigits word → 0 < length word → count_of 15 word ≡ Some n
    → time_of word ≡ Some (pos n)
plain_time [] n are some e = absurd (omega (arith, some))
plain_time (b ∷ word) n are some e = rw (ne_eqb b 45 (λ same. omega (arith, same, are.0.0)), e) refl

timed : (z : ℤ) → unsigned_abs z < 10 ^ 15 → time_of (signed_decimal z) ≡ Some z
timed (pos n) few =
    let fits : n < 2 ^ 64 = omega (arith, few) in
    plain_time (decimal n) n (decimal_digits n fits) (decimal_nonempty n fits) (counted 15 n (lit< tt) few fits)
timed (negsuc n) few = ap (option_map (λ k. neg_ℤ (pos k))) (counted 15 (suc n) (lit< tt) few (omega (arith, few)))

time_word : (z : ℤ) → unsigned_abs z < 10 ^ 15 → IsWord 16 (signed_decimal z)
time_word (pos n) few =
    let word = number_word 15 n (lit< tt) few (omega (arith, few)) in
    record { bytes = word.bytes; some = word.some; short = omega (arith, word.short) }
time_word (negsuc n) few =
    let word = number_word 15 (suc n) (lit< tt) few (omega (arith, few)) in
    record { bytes = (lit≤ tt, word.bytes); some = omega arith; short = omega (arith, word.short) }

-- ---- marks
marked : (m : Mark) → mark_of_word (mark_word m) ≡ Some m
marked Clear = refl
marked (One Rise) = refl
marked (One Fall) = refl
marked Undecided = refl

mark_is_word : (m : Mark) → IsWord 1 (mark_word m)
mark_is_word Clear = record { bytes = (lit≤ tt, tt); some = lit< tt; short = lit≤ tt }
mark_is_word (One Rise) = record { bytes = (lit≤ tt, tt); some = lit< tt; short = lit≤ tt }
mark_is_word (One Fall) = record { bytes = (lit≤ tt, tt); some = lit< tt; short = lit≤ tt }
mark_is_word Undecided = record { bytes = (lit≤ tt, tt); some = lit< tt; short = lit≤ tt }

-- ---- the line of a leaf
-- words with a blank between each two
nested : (w a b d m : List ℕ)
    → (w ++ 32 ∷ a) ++ (32 ∷ b) ++ (32 ∷ d) ++ (32 ∷ m) ≡ w ++ 32 ∷ (a ++ 32 ∷ (b ++ 32 ∷ (d ++ 32 ∷ m)))
nested w a b d m =
    append_assoc ((w ++ 32 ∷ a) ++ (32 ∷ b)) (32 ∷ d) (32 ∷ m)
    ∙ append_assoc (w ++ 32 ∷ a) (32 ∷ b) (32 ∷ (d ++ 32 ∷ m))
    ∙ append_assoc w (32 ∷ a) (32 ∷ (b ++ 32 ∷ (d ++ 32 ∷ m)))

five_words : (most k j : ℕ) (w a b d m : List ℕ) → IsWord 1 w → IsWord most a → IsWord most b → IsWord k d → IsWord j m
    → tokens (w ++ 32 ∷ (a ++ 32 ∷ (b ++ 32 ∷ (d ++ 32 ∷ m)))) ≡ w ∷ a ∷ b ∷ d ∷ m ∷ []
five_words most k j w a b d m w_is a_is b_is d_is m_is =
    first_token w 32 (a ++ 32 ∷ (b ++ 32 ∷ (d ++ 32 ∷ m))) (no_separators w w_is.bytes) w_is.some refl
    ∙ ap (λ (ts : List (List ℕ)). w ∷ ts) (first_token a 32 (b ++ 32 ∷ (d ++ 32 ∷ m)) (no_separators a a_is.bytes) a_is.some refl
    ∙ ap (λ (ts : List (List ℕ)). a ∷ ts) (first_token b 32 (d ++ 32 ∷ m) (no_separators b b_is.bytes) b_is.some refl
    ∙ ap (λ (ts : List (List ℕ)). b ∷ ts) (first_token d 32 m (no_separators d d_is.bytes) d_is.some refl
    ∙ ap (λ (ts : List (List ℕ)). d ∷ ts) (last_token m (no_separators m m_is.bytes) m_is.some))))

letter : IsWord 1 (76 ∷ [])
letter = record { bytes = (lit≤ tt, tt); some = lit< tt; short = lit≤ tt }

module _ (l : Leaf) (fits : FitsLine l) where
  a_word : IsWord 16 (signed_decimal l.node.a)
  a_word = time_word l.node.a fits.a

  b_word : IsWord 16 (signed_decimal l.node.b)
  b_word = time_word l.node.b fits.b

  d_word : IsWord 2 (decimal l.node.depth)
  d_word = number_word 2 l.node.depth (lit< tt) fits.depth (omega (arith, fits.depth))

  leaf_nested : leaf_text l ≡ (76 ∷ []) ++ 32 ∷ (signed_decimal l.node.a ++ 32 ∷ (signed_decimal l.node.b ++ 32 ∷ (decimal l.node.depth ++ 32 ∷ mark_word l.mark)))
  leaf_nested =
      nested (76 ∷ []) (signed_decimal l.node.a) (signed_decimal l.node.b) (decimal l.node.depth) (mark_word l.mark)

  leaf_tokens : tokens (leaf_text l) ≡ (76 ∷ []) ∷ signed_decimal l.node.a ∷ signed_decimal l.node.b ∷ decimal l.node.depth ∷ mark_word l.mark ∷ []
  leaf_tokens =
      ap tokens leaf_nested
      ∙ five_words 16 2 1 (76 ∷ []) (signed_decimal l.node.a) (signed_decimal l.node.b) (decimal l.node.depth) (mark_word l.mark) letter a_word b_word d_word (mark_is_word l.mark)

  pub leaf_said : entry_of (tokens (leaf_text l)) ≡ Some (entry.Leaf l)
  leaf_said =
      ap entry_of leaf_tokens
      ∙ (λ i. leaf_from (timed l.node.a fits.a i) (timed l.node.b fits.b i) (counted 2 l.node.depth (lit< tt) fits.depth (omega (arith, fits.depth)) i) (marked l.mark i))

  pub leaf_short : length (leaf_text l) ≤ 40
  leaf_short =
      let one = length-append (signed_decimal l.node.a) (32 ∷ (signed_decimal l.node.b ++ 32 ∷ (decimal l.node.depth ++ 32 ∷ mark_word l.mark))) in
      let two = length-append (signed_decimal l.node.b) (32 ∷ (decimal l.node.depth ++ 32 ∷ mark_word l.mark)) in
      let three = length-append (decimal l.node.depth) (32 ∷ mark_word l.mark) in
      omega (arith, ap length leaf_nested, one, two, three, a_word.short, b_word.short, d_word.short, (mark_is_word l.mark).short)

  leaf_bytes : AreFrom 32 (leaf_text l)
  leaf_bytes = subst (AreFrom 32) (sym leaf_nested) (
    lit≤ tt,
    (
      lit≤ tt,
      from_append 32 (signed_decimal l.node.a) (32 ∷ (signed_decimal l.node.b ++ 32 ∷ (decimal l.node.depth ++ 32 ∷ mark_word l.mark))) (from_less 33 32 (signed_decimal l.node.a) (lit≤ tt) a_word.bytes) (
        lit≤ tt,
        from_append 32 (signed_decimal l.node.b) (32 ∷ (decimal l.node.depth ++ 32 ∷ mark_word l.mark)) (from_less 33 32 (signed_decimal l.node.b) (lit≤ tt) b_word.bytes) (
          lit≤ tt,
          from_append 32 (decimal l.node.depth) (32 ∷ mark_word l.mark) (from_less 33 32 (decimal l.node.depth) (lit≤ tt) d_word.bytes) (lit≤ tt, from_less 33 32 (mark_word l.mark) (lit≤ tt) (mark_is_word l.mark).bytes),
        ),
      ),
    ),
  )

  pub leaf_is_line : IsLine (leaf_text l)
  leaf_is_line = printed (leaf_text l) leaf_bytes (omega (arith, leaf_short)) (omega (arith, ap length leaf_tokens))

-- ---- the line of the end
end_word : AreFrom 33 (69 ∷ 78 ∷ 68 ∷ [])
end_word = search rules

leaves_word : AreFrom 33 (108 ∷ 101 ∷ 97 ∷ 118 ∷ 101 ∷ 115 ∷ [])
leaves_word = search rules

module _ (n : ℕ) (few : n < 10 ^ 8) where
  n_word : IsWord 8 (decimal n)
  n_word = number_word 8 n (lit< tt) few (omega (arith, few))

  end_tokens : tokens (end_text n) ≡ (69 ∷ 78 ∷ 68 ∷ []) ∷ (108 ∷ 101 ∷ 97 ∷ 118 ∷ 101 ∷ 115 ∷ []) ∷ decimal n ∷ []
  end_tokens =
      first_token (69 ∷ 78 ∷ 68 ∷ []) 32 (108 ∷ 101 ∷ 97 ∷ 118 ∷ 101 ∷ 115 ∷ 32 ∷ decimal n) (no_separators (69 ∷ 78 ∷ 68 ∷ []) end_word) (lit< tt) refl
      ∙ ap (λ (ts : List (List ℕ)). (69 ∷ 78 ∷ 68 ∷ []) ∷ ts) (first_token (108 ∷ 101 ∷ 97 ∷ 118 ∷ 101 ∷ 115 ∷ []) 32 (decimal n) (no_separators (108 ∷ 101 ∷ 97 ∷ 118 ∷ 101 ∷ 115 ∷ []) leaves_word) (lit< tt) refl
      ∙ ap (λ (ts : List (List ℕ)). (108 ∷ 101 ∷ 97 ∷ 118 ∷ 101 ∷ 115 ∷ []) ∷ ts) (last_token (decimal n) (no_separators (decimal n) n_word.bytes) n_word.some))

  pub end_said : entry_of (tokens (end_text n)) ≡ Some (entry.End n)
  end_said =
      ap entry_of end_tokens ∙ ap (option_map (λ k. entry.End k)) (counted 8 n (lit< tt) few (omega (arith, few)))

  pub end_is_line : IsLine (end_text n)
  end_is_line = printed (end_text n)
      (from_append 32 (69 ∷ 78 ∷ 68 ∷ 32 ∷ 108 ∷ 101 ∷ 97 ∷ 118 ∷ 101 ∷ 115 ∷ 32 ∷ []) (decimal n) (search rules) (from_less 33 32 (decimal n) (lit≤ tt) n_word.bytes))
      (omega (arith, length-append (69 ∷ 78 ∷ 68 ∷ 32 ∷ 108 ∷ 101 ∷ 97 ∷ 118 ∷ 101 ∷ 115 ∷ 32 ∷ []) (decimal n), n_word.short))
      (omega (arith, ap length end_tokens))

  pub end_short : length (end_text n) ≤ 19
  end_short =
      omega (arith, length-append (69 ∷ 78 ∷ 68 ∷ 32 ∷ 108 ∷ 101 ∷ 97 ∷ 118 ∷ 101 ∷ 115 ∷ 32 ∷ []) (decimal n), n_word.short)
