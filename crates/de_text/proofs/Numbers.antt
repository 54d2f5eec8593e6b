-- Numbers in the form in which JPL writes them.
use Rattle.std.proofs.Common.{◌≡◌, ℕ, zero, suc, ◌+◌, ◌-◌, ◌<◌, ◌≤◌, true, false, List, [], ◌∷◌, Option, None, Some, Ok, IfSome, length, length-drop, length-take, get_or, take, drop, refl, sym, ap, ◌∙◌, subst, inl, inr, arith}
use Rattle.std.specs.List.{All}
use Rattle.std.proofs.lemmas.Bool.{cases_lt}
use Rattle.std.proofs.lemmas.Bool.Decides.{nat_tests}
use Rattle.std.proofs.lemmas.List.{drop-drop, get_or-drop, get_or-take}
use Rattle.std.proofs.lemmas.List.Elements.{All-append}
use Rattle.spec_text.specs.declared.decimals.Decimal.{Decimal}
use Rattle.spec_text.specs.Decimals.{Sign, unsigned, plus, minus, Exponent, AreDigits, IsMark, IsExponent, sign_text, fraction_text, exponent_text, after_point}
use Rattle.spec_text.specs.Lines.{is_line_feed, is_separator, tokens}
use Rattle.spec_text.specs.Reading.{reading}
use Rattle.spec_text.proofs.Answering.{reads_by}
use Rattle.de_text.proofs.TokenPlaces.{token_after}

-- greater than a blank
abbrev IsInner : ℕ → Type 0
IsInner b = 32 < b

no_separator : (b : ℕ) → IsInner b → is_separator b ≡ false
no_separator b above = grind (arith, nat_tests)

no_feed : (b : ℕ) → IsInner b → is_line_feed b ≡ false
no_feed b above = grind (arith, nat_tests)

separator_feedless : (b : ℕ) → is_separator b ≡ true → is_line_feed b ≡ false
separator_feedless b is = grind (arith, nat_tests)

one_inner : (b : ℕ) (bs : List ℕ) → IsInner b → All IsInner bs → All IsInner (b ∷ bs)
one_inner b bs first rest zero d below = first
one_inner b bs first rest (suc k) d below = rest k d (omega (arith, below))

none_inner : All IsInner []
none_inner k d below = absurd (omega (arith, below))

digits_inner : (bs : List ℕ) → AreDigits bs → All IsInner bs
digits_inner [] are = none_inner
digits_inner (b ∷ bs) are = one_inner b bs (omega (arith, are.0.0)) (digits_inner bs are.1)

sign_inner : (sign : Sign) → All IsInner (sign_text sign)
sign_inner unsigned = none_inner
sign_inner plus = one_inner 43 [] (omega arith) none_inner
sign_inner minus = one_inner 45 [] (omega arith) none_inner

fraction_inner : (fraction : Option (List ℕ)) → AreDigits (after_point fraction) → All IsInner (fraction_text fraction)
fraction_inner None are = none_inner
fraction_inner (Some digits) are = one_inner 46 digits (omega arith) (digits_inner digits are)

mark_inner : (b : ℕ) → IsMark b → IsInner b
mark_inner b is = elim is [
  | inl e ↦ omega (arith, e)
  | inr more ↦ elim more [
    | inl e ↦ omega (arith, e)
    | inr last ↦ elim last [
      | inl e ↦ omega (arith, e)
      | inr e ↦ omega (arith, e)
    ]
  ]
]

exponent_inner : (exponent : Option Exponent) → IfSome exponent IsExponent → All IsInner (exponent_text exponent)
exponent_inner None is = none_inner
exponent_inner (Some e) is =
    one_inner e.mark _ (mark_inner e.mark is.mark)
    (All-append IsInner (sign_text e.sign) e.digits (sign_inner e.sign) (digits_inner e.digits is.digits))

-- a word that is read as a decimal has no blank, and no control character
pub read_inner : (word : List ℕ) (d : Decimal) → Ok d ≡ reading word → All IsInner word
read_inner word d is =
    let reads = reads_by word (Ok d) is in
    let n = reads.0 in
    let spells = reads.1.spells in
    let form = spells.form in
    subst (All IsInner) (sym spells.bytes)
    (All-append IsInner (sign_text n.sign) _ (sign_inner n.sign)
    (All-append IsInner n.whole _ (digits_inner n.whole form.whole)
    (All-append IsInner (fraction_text n.fraction) _ (fraction_inner n.fraction form.fraction)
    (exponent_inner n.exponent form.exponent))))

-- the bytes of a word that begins at a place of a field and goes up to its end
word_inner : (line : List ℕ) (start : ℕ) (d : Decimal) → start ≤ 2 → 26 ≤ length line → Ok d ≡ reading (take (26 - start) (drop start line))
    → (k : ℕ) → k < 26 - start → IsInner (get_or (drop start line) k 0)
word_inner line start d few long is k below =
    let n = 26 - start in
    let rest = drop start line in
    let within : n ≤ length rest = omega (arith, length-drop start line, few, long) in
    subst IsInner (get_or-take n rest k 0 below) (read_inner (take n rest) d is k 0 (omega (arith, length-take n rest, within, below)))

-- the tokens of a line that begins with separators and a word that is read as a decimal
pub number_first : (line : List ℕ) (start : ℕ) (d : Decimal) → start ≤ 2 → 26 ≤ length line
    → ((k : ℕ) → k < start → is_separator (get_or line k 0) ≡ true) → (26 < length line → is_separator (get_or line 26 0) ≡ true)
    → Ok d ≡ reading (take (26 - start) (drop start line))
    → tokens line ≡ take (26 - start) (drop start line) ∷ tokens (drop 26 line)
number_first line start d few long before at is =
    let rest = drop start line in
    let n = 26 - start in
    let sum : start + n ≡ 26 = omega (arith, few) in
    let same : start + 0 ≡ start = omega arith in
    let size : length rest ≡ length line - start = length-drop start line in
    let within : n ≤ length rest = omega (arith, size, few, long) in
    let inner : (k : ℕ) → k < n → is_separator (get_or rest k 0) ≡ false =
    λ k h. no_separator (get_or rest k 0) (word_inner line start d few long is k h) in
    let here : is_separator (get_or line start 0) ≡ false =
    ap is_separator (sym (get_or-drop start line 0 0 ∙ ap (λ (k : ℕ). get_or line k 0) same)) ∙ inner 0 (omega (arith, few)) in
    let last : n < length rest → is_separator (get_or rest n 0) ≡ true =
    λ h. ap is_separator (get_or-drop start line n 0 ∙ ap (λ (k : ℕ). get_or line k 0) sum) ∙ at (omega (arith, size, h, few)) in
    token_after line rest start n refl (omega (arith, few, long)) before here within inner last
    ∙ ap (λ (l : List ℕ). take n rest ∷ tokens l) (drop-drop n start line ∙ ap (λ (k : ℕ). drop k line) sum)

-- no line feed stands in a field that begins with separators and goes on with such a word
pub field_feedless : (line : List ℕ) (start : ℕ) (d : Decimal) → start ≤ 2 → 26 ≤ length line
    → ((k : ℕ) → k < start → is_separator (get_or line k 0) ≡ true) → Ok d ≡ reading (take (26 - start) (drop start line))
    → (k : ℕ) → k < 26 → is_line_feed (get_or line k 0) ≡ false
field_feedless line start d few long before is k below = elim (cases_lt k start) [
  | inl front ↦ separator_feedless (get_or line k 0) (before k front)
  | inr past ↦
      let place : start + (k - start) ≡ k = omega (arith, past) in
      let here : get_or (drop start line) (k - start) 0 ≡ get_or line k 0 =
      get_or-drop start line (k - start) 0 ∙ ap (λ (j : ℕ). get_or line j 0) place in
      let inner : IsInner (get_or (drop start line) (k - start) 0) = word_inner line start d few long is (k - start) (omega (arith, past, below, few)) in
      no_feed (get_or line k 0) (subst IsInner here inner)
]
