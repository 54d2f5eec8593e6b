-- A polynomial near an argument: its value there, how much it changes over a width, and how far it is from that line.
use Rattle.std.specs.Prelude.{◌≡◌, ℕ, ◌+◌, ◌*◌, ◌/◌, ◌^◌, ◌<◌, ◌≤◌, true, false, neg_ℤ, List, [], ◌∷◌, ℤ, pos, ◌+ℤ◌, ◌-ℤ◌, ◌*ℤ◌, ◌≤ℤ◌, ◌<ℤ◌, unsigned_abs}
use Rattle.spec_numbers.specs.Numbers.{floor_div}
use Rattle.spec_chebyshev.specs.Differences.{Within}
use Rattle.span_models.specs.declared.tangents.Line.{Line}
use Rattle.span_models.specs.declared.tangents.Tangent.{Tangent}
use Rattle.span_models.specs.declared.margin.Margin.{Margin}

-- arguments from o - w to o + w, over q, hold those from first to last
pub record IsPlace (first last q o w : ℤ) : Type 0 where
  pub inside : Within o q
  pub positive : pos 0 <ℤ w
  pub small : w ≤ℤ q
  pub low : (o -ℤ w) ≤ℤ first
  pub high : last ≤ℤ (o +ℤ w)

-- o / q and w / q, in units of 2^-56
abbrev pub ratio : ℤ → ℤ → ℤ
ratio z q = floor_div (z *ℤ pos (2 ^ 56)) (unsigned_abs q)

abbrev pub line : ℤ → ℤ → ℤ → Line
line o w q = record { centre = ratio o q; width = ratio w q }

pub record IsLine (l : Line) : Type 0 where
  pub centre : unsigned_abs l.centre ≤ 2 ^ 56
  pub width : unsigned_abs l.width ≤ 2 ^ 56

-- the tangent of a + u times a polynomial, for that of the polynomial
abbrev pub next_error : Line → Tangent → ℕ
next_error l t = ((unsigned_abs l.centre + unsigned_abs l.width) * t.error + (unsigned_abs t.value + unsigned_abs t.slope) * 2 + 2 * t.error + unsigned_abs (l.width *ℤ t.slope)) / 2 ^ 56 + 3

abbrev pub next : Line → Tangent → ℤ → Tangent
next l t a = record {
  value = a +ℤ floor_div (l.centre *ℤ t.value) (2 ^ 56);
  slope = floor_div (l.centre *ℤ t.slope +ℤ l.width *ℤ t.value) (2 ^ 56);
  error = next_error l t;
}

abbrev pub tangent : Line → List ℤ → Tangent
tangent l [] = record { value = pos 0; slope = pos 0; error = 0 }
tangent l (x ∷ xs) = next l (tangent l xs) x

-- which the code takes
pub record IsSmallTangent (t : Tangent) : Type 0 where
  pub value : unsigned_abs t.value < 2 ^ 62
  pub slope : unsigned_abs t.slope < 2 ^ 62
  pub error : t.error ≤ 2 ^ 62

-- how far numbers up to a spread from a value keep from 0
pub record IsMarginOf (value : ℤ) (spread : ℕ) (exponent : ℤ) (g : Margin) : Type 0 where
  pub some : 0 < g.size
  pub unit : g.exponent ≡ exponent
  pub above : g.is_above ≡ true → pos g.size ≡ value -ℤ pos spread
  pub below : g.is_above ≡ false → neg_ℤ (pos g.size) ≡ value +ℤ pos spread
