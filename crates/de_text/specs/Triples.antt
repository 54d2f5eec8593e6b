-- A line of three numbers.
use Rattle.std.specs.Prelude.{◌≡◌, ℕ, List, [], ◌∷◌, Ok}
use Rattle.spec_text.specs.Reading.{reading}
use Rattle.de_text.specs.declared.triple.Triple.{Triple}

-- these words are three, and they read as these numbers
pub record AreTriple (words : List (List ℕ)) (triple : Triple) : Type 0 where
  pub first : List ℕ
  pub second : List ℕ
  pub third : List ℕ
  pub are : words ≡ first ∷ second ∷ third ∷ []
  pub first_reads : Ok triple.first ≡ reading first
  pub second_reads : Ok triple.second ≡ reading second
  pub third_reads : Ok triple.third ≡ reading third
