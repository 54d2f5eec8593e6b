-- How large coefficients are.
use Rattle.std.proofs.Common.{◌≡◌, ◌*◌, ◌^◌, ◌<◌, ◌≤◌, ℕ, suc, false, List, [], ◌∷◌, refl, arith, lit≤, inl, inr, ℤ, pos, eq-eqb, ne_eqb}
use Rattle.std.specs.Prelude.{◌-ℤ◌, ◌*ℤ◌, unsigned_abs}
use Rattle.std.proofs.lemmas.Bool.{cases_Bool, cases_eq, lt-leb}
use Rattle.std.proofs.lemmas.Int.{ints}
use Rattle.spec_numbers.proofs.Sizes.{product_size}
use Rattle.spec_generated.proofs.Numbers.{quotient_small}
use Rattle.spec_files.specs.BlockRules.{is_place, is_too_large}
use Rattle.spec_generated.specs.Coefficients.{ScaledColumn, millionths, scaled_columns, term_among, term_at}
use Rattle.spec_generated.specs.Words.{coefficient_number}

drawn_small : (draw : ℕ) → draw < 2 ^ 32 → unsigned_abs (pos draw -ℤ pos (2 ^ 31)) ≤ 2 ^ 31
drawn_small draw below = omega (arith, ints, below)

-- the scales of these columns are at most this one
abbrev AreScaled : ℕ → List ScaledColumn → Type 0
AreScaled most [] = Unit {0}
AreScaled most (c ∷ cs) = (c.scale ≤ most) × AreScaled most cs

term_scale : (most number : ℕ) (cs : List ScaledColumn) (place : ℕ) → AreScaled most cs → (term_among number cs place).scale ≤ most
term_scale most number [] place are = omega arith
term_scale most number (c ∷ cs) place are = elim (cases_Bool (is_place number c.column place)) [
  | inl here ↦ rw here are.0
  | inr other ↦ rw other (term_scale most (suc number) cs place are.1)
]

scale_small : (place : ℕ) → (term_at place).scale ≤ 2700000
unfolding term_at
scale_small place = term_scale 2700000 1 scaled_columns place (lit≤ tt, (lit≤ tt, (lit≤ tt, (lit≤ tt, (lit≤ tt, (lit≤ tt, (lit≤ tt, (lit≤ tt, (lit≤ tt, (lit≤ tt, (lit≤ tt, (lit≤ tt, (lit≤ tt, tt)))))))))))))

pub millionths_small : (place draw : ℕ) → draw < 2 ^ 32 → unsigned_abs (millionths (term_at place) draw) ≤ 2 ^ 31 * 2700000
millionths_small place draw below =
    let term = term_at place in
    let scaled = (pos draw -ℤ pos (2 ^ 31)) *ℤ pos term.scale in
    let product : unsigned_abs scaled ≤ 2 ^ 31 * 2700000 = product_size (pos draw -ℤ pos (2 ^ 31)) (pos term.scale) (2 ^ 31) 2700000 (drawn_small draw below) (scale_small place) in
    omega (arith, product, quotient_small scaled (4 ^ term.degree))

-- a coefficient that is below 2^36 km in size
pub not_large : (z : ℤ) → unsigned_abs z ≤ 2 ^ 31 * 2700000 → is_too_large (coefficient_number z) ≡ false
not_large z small = elim (cases_eq (unsigned_abs z) 0) [
  | inl none ↦ rw (eq-eqb (unsigned_abs z) 0 none) refl
  | inr some ↦ rw (ne_eqb (unsigned_abs z) 0 some) (lt-leb _ _ (omega (arith, small)))
]
