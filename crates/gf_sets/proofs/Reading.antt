-- Spans as code reads them.
use Rattle.std.proofs.Common.{◌≡◌, ℕ, ◌+◌, ◌<◌, List, ◌∷◌, ℤ, pos, ◌+ℤ◌, ◌-ℤ◌, ◌≤ℤ◌, length, drop, get_or, refl, ap, ◌∙◌, to_z, of_z, w64, add-one, drop-cons, arith}
use Rattle.std.proofs.lemmas.Int.{fits_signed_from_abs, ints, to_z-of_z}
use mir.Val.{SFits}
use Rattle.spec_sets.specs.Spans.{AreSpansFrom, Span, earliest}

-- the one at a place, and those after it
pub split_at : {A : Type 0} (xs : List A) (i : ℕ) (d : A) → i < length xs → drop i xs ≡ get_or xs i d ∷ drop (i + 1) xs
split_at xs i d h = rw (add-one, drop-cons xs i d) refl

-- its ends, and the times next to it
pub ends_fit : (low : ℤ) (s : Span) (rest : List Span) → earliest ≤ℤ low → AreSpansFrom low (s ∷ rest)
    → SFits w64 s.0 × SFits w64 s.1 × SFits w64 (s.0 -ℤ pos 1) × SFits w64 (s.1 +ℤ pos 1)
ends_fit low s rest early is =
    let a = is.0 in
    let b = is.1 in
    let d = is.2 in (
      fits_signed_from_abs w64 s.0 (omega (arith, ints, early, a, b, d)),
      fits_signed_from_abs w64 s.1 (omega (arith, ints, early, a, b, d)),
      fits_signed_from_abs w64 (s.0 -ℤ pos 1) (omega (arith, ints, early, a, b, d)),
      fits_signed_from_abs w64 (s.1 +ℤ pos 1) (omega (arith, ints, early, a, b, d)),
    )

-- the time before one, and the time after one
pub read_less : (z : ℤ) → SFits w64 z → SFits w64 (z -ℤ pos 1) → to_z w64 (of_z w64 (to_z w64 (of_z w64 z) -ℤ pos 1)) ≡ z -ℤ pos 1
read_less z own less = ap (λ (y : ℤ). to_z w64 (of_z w64 (y -ℤ pos 1))) (to_z-of_z w64 z own) ∙ to_z-of_z w64 (z -ℤ pos 1) less

pub read_more : (z : ℤ) → SFits w64 z → SFits w64 (z +ℤ pos 1) → to_z w64 (of_z w64 (to_z w64 (of_z w64 z) +ℤ pos 1)) ≡ z +ℤ pos 1
read_more z own more = ap (λ (y : ℤ). to_z w64 (of_z w64 (y +ℤ pos 1))) (to_z-of_z w64 z own) ∙ to_z-of_z w64 (z +ℤ pos 1) more

-- orders of numbers by other names
pub le_by : (a b c d : ℤ) → a ≡ c → b ≡ d → a ≤ℤ b → c ≤ℤ d
le_by a b c d e f h = omega (arith, ints, e, f, h)
