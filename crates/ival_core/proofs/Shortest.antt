-- The least number of halvings, from the leading bit of the greater size.
use Rattle.std.proofs.Common.{◌≡◌, ℕ, ◌+◌, ◌-◌, ◌*◌, ◌^◌, ◌<◌, ◌≤◌, max, arith, sym, ap, ◌∙◌, ℤ, ◌≤ℤ◌, Bool, true, false, unsigned_abs, refl, ◌⊎◌, inl, inr}
use Rattle.std.proofs.lemmas.Bool.{cases_lt}
use Rattle.std.proofs.lemmas.Nat.{pow-add}
use Rattle.std.proofs.Math.Nat.{pow-le-pow_right, one-le-pow}
use Rattle.spec_intervals.specs.Interval.{end_limit, fits_after, narrow_shift}
use Rattle.spec_intervals.proofs.Narrow.{narrow_shift-is, sizes-fit, fits-sizes}

-- M is the greater size, or the limit where that is greater
module _ (lo hi : ℤ) (m r : ℕ) (o : lo ≤ℤ hi) (is : m ≡ max (max (unsigned_abs lo) (unsigned_abs hi)) end_limit) (p : 2 ^ r ≤ m - 1) (q : m - 1 < 2 * 2 ^ r) (b : 61 ≤ r) where
  top : 2 * 2 ^ r ≡ end_limit * 2 ^ (r - 61)
  top =
      let e : r ≡ 61 + (r - 61) = omega arith in
      let f : 2 ^ r ≡ 2 ^ 61 * 2 ^ (r - 61) = ap (λ n. 2 ^ n) e ∙ pow-add 2 61 (r - 61) in
      omega arith

  enough : fits_after (r - 61) lo hi ≡ true
  enough = let t = top in sizes-fit (r - 61) lo hi (omega arith) (omega arith)

  less : (j : ℕ) → j < r - 61 → fits_after j lo hi ≡ false
  less j h = by (fits_after j lo hi) refl
    where
      by : (x : Bool) → fits_after j lo hi ≡ x → x ≡ false
      by false e = refl
      by true e =
          let s : (unsigned_abs lo ≤ end_limit * 2 ^ j) × (unsigned_abs hi ≤ end_limit * 2 ^ j) = fits-sizes j lo hi o e in
          let g : 62 + j ≤ r = omega arith in
          let w : 2 ^ (62 + j) ≤ 2 ^ r = pow-le-pow_right (omega arith) g in
          let u : 2 ^ (62 + j) ≡ end_limit * 2 ^ j = pow-add 2 62 j in
          let one : 1 ≤ 2 ^ j = one-le-pow j 2 (omega arith) in
          absurd (omega arith)

  pub shift-is : r - 61 ≡ narrow_shift lo hi
  shift-is = sym (narrow_shift-is (r - 61) lo hi enough less)

-- a size that is at least the limit has its leading bit at 61 or above once 1 is taken off
pub lead : (m r : ℕ) → end_limit ≤ m → m - 1 < 2 * 2 ^ r → 61 ≤ r
lead m r h q = by (cases_lt r 61)
  where
    by : (r < 61) ⊎ (61 ≤ r) → 61 ≤ r
    by (inl s) = let w : r ≤ 60 = omega arith in let p : 2 ^ r ≤ 2 ^ 60 = pow-le-pow_right (omega arith) w in absurd (omega arith)
    by (inr s) = s

-- a size of at most 2^124 is halved at most 62 times
pub few_halvings : (m r : ℕ) → 2 ^ r ≤ m - 1 → m ≤ 2 ^ 124 → r - 61 ≤ 62
few_halvings m r p q = by (cases_lt r 124)
  where
    by : (r < 124) ⊎ (124 ≤ r) → r - 61 ≤ 62
    by (inl s) = omega arith
    by (inr s) = let w : 2 ^ 124 ≤ 2 ^ r = pow-le-pow_right (omega arith) s in absurd (omega arith)
