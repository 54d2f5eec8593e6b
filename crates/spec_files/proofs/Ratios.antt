-- A decimal that is accepted as EMRAT is a ratio of masses.
use Rattle.std.proofs.Common.{◌≡◌, ℕ, ◌*◌, ◌^◌, ◌≤◌, ◌&&◌, nat_le, true, arith, ℤ, pos, ◌≤ℤ◌, ◌*ℤ◌}
use Rattle.std.specs.Prelude.{negsuc, int_lt, unsigned_abs}
use Rattle.std.proofs.lemmas.Bool.{and_parts, leb-true, false≢true}
use Rattle.std.proofs.lemmas.Int.{ints}
use Rattle.std.proofs.Math.IntN.{pos-*ℤ-pos}
use borrow.Author.Differences.{up, down}
use Rattle.spec_text.specs.declared.decimals.Decimal.{Decimal}
use Rattle.spec_ephemeris.specs.Header.{IsMassRatio}
use Rattle.spec_files.specs.HeaderRules.{is_mass_ratio}

abbrev IsBetween : ℤ → ℕ → ℕ → Type 0
IsBetween mant over under = (pos (1 * under) ≤ℤ (mant *ℤ pos over)) × ((mant *ℤ pos over) ≤ℤ pos (1000 * under))

between : (mant : ℤ) (over under : ℕ)
    → (int_lt (pos 0) mant && (nat_le (1 * under) (unsigned_abs mant * over) && nat_le (unsigned_abs mant * over) (1000 * under))) ≡ true
    → IsBetween mant over under
between (pos m) over under is =
    let sizes = (and_parts (int_lt (pos 0) (pos m)) (nat_le (1 * under) (m * over) && nat_le (m * over) (1000 * under)) is).1 in
    let both = and_parts (nat_le (1 * under) (m * over)) (nat_le (m * over) (1000 * under)) sizes in
    let low : 1 * under ≤ m * over = leb-true (1 * under) (m * over) both.0 in
    let high : m * over ≤ 1000 * under = leb-true (m * over) (1000 * under) both.1 in
    rw (pos-*ℤ-pos m over) (omega (arith, ints, low), omega (arith, ints, high))
between (negsuc m) over under is = absurd (false≢true is)

pub mass_ratio_is : (d : Decimal) → is_mass_ratio d ≡ true → IsMassRatio d
mass_ratio_is d is = let both = between d.mant (10 ^ up d.exp) (10 ^ down d.exp) is in record { least = both.0; greatest = both.1 }
