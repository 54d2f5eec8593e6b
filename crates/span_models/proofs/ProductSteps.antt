-- One product more of a sum.
use Rattle.std.proofs.Common.{◌≡◌, ◌∙◌, ℕ, suc, ◌+◌, ◌-◌, ◌*◌, ◌^◌, ◌<◌, ◌≤◌, arith, sym, ap, List, get_or, ℤ, pos, ◌+ℤ◌, ◌*ℤ◌, unsigned_abs, to_z, of_z}
use Rattle.std.proofs.lemmas.Int.{ints}
use Rattle.span_models.specs.Sizes.{terms}
use mir.Syntax.{w128}
use Rattle.spec_models.specs.Models.{products_upto}

module _ (s z : ℤ) (n : ℕ) (below : n < terms) (small : unsigned_abs s ≤ n * 2 ^ 120) (next : unsigned_abs z ≤ 2 ^ 120) where
  pub sum_kept : to_z w128 (of_z w128 (s +ℤ to_z w128 (of_z w128 z))) ≡ s +ℤ z
  sum_kept = omega (arith, ints)

  pub sum_small : unsigned_abs (to_z w128 (of_z w128 (s +ℤ to_z w128 (of_z w128 z)))) ≤ (n + 1) * 2 ^ 120
  sum_small = omega (arith, ints)

  pub sum_more : (k : ℕ) (xs ys : List ℤ) → s ≡ products_upto n k xs ys → z ≡ get_or xs n (pos 0) *ℤ get_or ys (k - n) (pos 0)
      → to_z w128 (of_z w128 (s +ℤ to_z w128 (of_z w128 z))) ≡ products_upto (n + 1) k xs ys
  sum_more k xs ys is made =
      let e : n + 1 ≡ suc n = omega arith in
      sum_kept ∙ (λ i. is i +ℤ made i) ∙ ap (λ m. products_upto m k xs ys) (sym e)
