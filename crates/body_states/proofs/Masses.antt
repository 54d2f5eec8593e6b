-- The masses of the Moon and the Earth as whole numbers, and the share of the one in both.
use Rattle.std.proofs.Common.{◌≡◌, ℕ, suc, ◌+◌, ◌*◌, ◌/◌, ◌^◌, ◌<◌, ◌≤◌, arith, refl, sym, ap, ℤ, pos, negsuc, ◌*ℤ◌, ◌<ℤ◌, neg_ℤ, ◌≤ℤ◌, unsigned_abs, ◌⊎◌, inl, inr}
use Rattle.std.proofs.lemmas.Int.{ints, unsigned_abs-mul}
use Rattle.std.proofs.lemmas.Bool.{cases_lt}
use Rattle.std.proofs.Math.Nat.{one-le-pow, pow-le-pow_right, div-mul-le_self}
use borrow.Author.Differences.{up, down}
use Rattle.spec_numbers.specs.Numbers.{floor_div, ceil_div}
use Rattle.spec_intervals.specs.Interval.{narrow}
use Rattle.spec_numbers.proofs.Floor.{ceil_div-exact, ceil_div-next}
use Rattle.spec_bodies.proofs.Factors.{narrowed_factor}
use Rattle.spec_bodies.specs.Meanings.{factor_interval}

pub some_tens : (k : ℕ) → 0 < 10 ^ k
some_tens k = one-le-pow k 10 (omega arith)

-- a mass of the Moon that the ratio counts in is no more than 10^18
pub few_tens : (m q : ℤ) → pos (1 * 10 ^ down q) ≤ℤ (m *ℤ pos (10 ^ up q)) → unsigned_abs m ≤ 2 ^ 63 → q <ℤ pos 0 → 10 ^ down q ≤ 10 ^ 18
few_tens m (pos n) least small below = absurd (omega (arith, ints, below))
few_tens m (negsuc n) least small below =
    let size : unsigned_abs (m *ℤ pos 1) ≡ unsigned_abs m * 1 = unsigned_abs-mul m (pos 1) in
    let few : 10 ^ suc n ≤ 2 ^ 63 = omega (arith, ints, least, size, small) in
    by (cases_lt 18 (suc n)) few
  where
    by : (18 < suc n) ⊎ (suc n ≤ 18) → 10 ^ suc n ≤ 2 ^ 63 → 10 ^ suc n ≤ 10 ^ 18
    by (inl many) few = let more : 10 ^ 19 ≤ 10 ^ suc n = pow-le-pow_right (omega arith) many in absurd (omega (arith, more, few))
    by (inr at_most) few = pow-le-pow_right (omega arith) at_most

pub ceil_next : (n d : ℕ) → 0 < d → n / d * d < n → pos (n / d + 1) ≡ ceil_div (pos n) d
ceil_next n d some less = sym (ceil_div-next (pos n) d some (λ whole. absurd (omega (arith, ints, whole, less))))

pub ceil_whole : (n d : ℕ) → 0 < d → (n / d * d < n → ⊥) → pos (n / d) ≡ ceil_div (pos n) d
ceil_whole n d some not_less = let under = div-mul-le_self n d in sym (ceil_div-exact (pos n) d some (ap pos (same (n / d * d) n under not_less)))
  where
    same : (a b : ℕ) → a ≤ b → (a < b → ⊥) → a ≡ b
    same a b under not_less = grind arith

pub kept : (n d : ℕ) → 0 < d → n ≤ d → d ≤ n * 2 ^ 60 → narrow (floor_div (pos (n * 2 ^ 60)) d) (ceil_div (pos (n * 2 ^ 60)) d) (neg_ℤ (pos 60)) ≡ factor_interval (record { numerator = pos n; denominator = d })
kept n d some few enough = narrowed_factor (pos n) d some (omega (arith, ints, enough)) (omega (arith, few))

pub down_is : (q : ℤ) → q <ℤ pos 0 → unsigned_abs q ≡ down q
down_is (pos n) below = absurd (omega (arith, ints, below))
down_is (negsuc n) below = refl
