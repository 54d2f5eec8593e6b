-- What a judge remembers of a search, in words: the sign of the function at a time.
use Rattle.std.specs.Prelude.{◌≡◌, ℕ, ◌^◌, ℤ, pos, neg_ℤ, ◌+ℤ◌, ◌*ℤ◌, ◌≤ℤ◌}
use Rattle.spec_intervals.specs.declared.signs.Sign.{Sign}
use Rattle.spec_intervals.specs.declared.signs.Sign.TheVariants.{Yes, No, Open}
use Rattle.spec_searches.specs.Search.{Search}
use Rattle.spec_bounds.specs.Steady.{sign_at}

-- a time within 2^50 of J2000
pub record IsNear (t : ℤ) : Type 0 where
  pub low : neg_ℤ (pos (2 ^ 50)) ≤ℤ t
  pub high : t ≤ℤ pos (2 ^ 50)

-- ---- signs
abbrev pub code_of : Sign → ℕ
code_of Yes = 1
code_of No = 2
code_of Open = 3

-- the word for a sign at a time; 0 is none
abbrev pub sign_word : ℤ → Sign → ℤ
sign_word t sign = ((t +ℤ pos (2 ^ 51)) *ℤ pos 4) +ℤ pos (code_of sign)

-- if it is the word for a sign at a time, the function has that sign then
abbrev pub KeepsSign : Search → ℕ → Type 0
KeepsSign s word = (t : ℤ) (sign : Sign) → pos word ≡ sign_word t sign → sign_at s t ≡ sign
