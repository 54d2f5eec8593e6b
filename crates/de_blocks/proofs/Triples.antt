-- Three numbers of a line.
use Rattle.std.proofs.Common.{◌≡◌, ℕ, zero, suc, ◌+◌, ◌<◌, List, [], ◌∷◌, get_or, drop, Ok, refl, ap, ◌∙◌, arith}
use Rattle.spec_text.specs.declared.decimals.Decimal.{Decimal}
use Rattle.spec_text.specs.Reading.{reading}
use Rattle.de_text.specs.Triples.{AreTriple}
use Rattle.de_text.specs.declared.triple.Triple.{Triple}

-- the word at a place, and its number
pub record IsAt (words : List (List ℕ)) (i : ℕ) (number : Decimal) : Type 0 where
  pub word : List ℕ
  pub here : drop i words ≡ word ∷ drop (i + 1) words
  pub reads : Ok number ≡ reading word

pub at_place : (words : List (List ℕ)) (t : Triple) (a b c : Decimal) (i : ℕ) (default : Decimal) → AreTriple words t → i < 3
    → a ≡ t.first → b ≡ t.second → c ≡ t.third → IsAt words i (get_or (a ∷ b ∷ c ∷ []) i default)
at_place words t a b c zero default are below one two three =
    record { word = are.first; here = rw are.are refl; reads = ap (λ (d : Decimal). Ok d) one ∙ are.first_reads }
at_place words t a b c (suc zero) default are below one two three =
    record { word = are.second; here = rw are.are refl; reads = ap (λ (d : Decimal). Ok d) two ∙ are.second_reads }
at_place words t a b c (suc (suc zero)) default are below one two three =
    record { word = are.third; here = rw are.are refl; reads = ap (λ (d : Decimal). Ok d) three ∙ are.third_reads }
at_place words t a b c (suc (suc (suc i))) default are below one two three = absurd (omega (arith, below))
