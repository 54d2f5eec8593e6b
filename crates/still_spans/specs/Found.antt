-- Still spans that are found one after the other.
use Rattle.std.specs.Prelude.{◌≡◌, ℕ, List, [], ◌∷◌, All, ℤ, ◌≤ℤ◌, ◌<ℤ◌, ⊤}
use Rattle.spec_intervals.specs.declared.signs.Sign.{Sign}
use Rattle.spec_searches.specs.Search.{Search}
use Rattle.spec_stills.specs.declared.still.StillSpan.{StillSpan}
use Rattle.spec_stills.specs.Still.{IsStill}

-- from a time on each span has several times, and begins where the one before it ends or later
abbrev pub AreInOrder : ℤ → List StillSpan → Type 0
AreInOrder from [] = ⊤
AreInOrder from (x ∷ xs) = (from ≤ℤ x.from) × (x.from <ℤ x.upto) × AreInOrder x.upto xs

-- the same, and none ends after another time
abbrev pub Follow : ℤ → List StillSpan → ℤ → Type 0
Follow from [] upto = from ≤ℤ upto
Follow from (x ∷ xs) upto = (from ≤ℤ x.from) × (x.from <ℤ x.upto) × Follow x.upto xs upto

-- still spans that follow one another between two times
pub record AreFound (s : Search) (from : ℤ) (xs : List StillSpan) (upto : ℤ) : Type 0 where
  pub still : All (IsStill s) xs
  pub follow : Follow from xs upto

-- a span from one time to another
abbrev pub still : ℤ → ℤ → ℕ → ℕ → Sign → StillSpan
still a b widest halvings sign = record { from = a; upto = b; widest = widest; halvings = halvings; sign = sign }

-- a still span from one time to another
pub record IsStillOver (s : Search) (a b : ℤ) (x : StillSpan) : Type 0 where
  pub still : IsStill s x
  pub from : x.from ≡ a
  pub upto : x.upto ≡ b
