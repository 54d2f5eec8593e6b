-- The numbers of a tangent, as they are passed on.
use Rattle.std.proofs.Common.{◌≡◌, ◌∙◌, ◌*◌, ◌^◌, ◌<◌, ◌≤◌, arith, ℤ, pos, ◌+ℤ◌, ◌-ℤ◌, ◌*ℤ◌, ◌≤ℤ◌, ◌<ℤ◌, unsigned_abs, to_z, of_z, w64}
use Rattle.std.proofs.lemmas.Int.{ints, to_z-of_z, unsigned_abs-mul}
use Rattle.std.proofs.lemmas.Nat.{mul-le}
use Rattle.std.specs.Int.{int_max}
use mir.Syntax.{w128}
use mir.Val.{SFits}
use Rattle.spec_numbers.specs.Numbers.{floor_div}
use Rattle.spec_numbers.proofs.Floor.{floor_div-small, floor_div-le, floor_div-lt}
use Rattle.spec_chebyshev.specs.Differences.{IsArgument}
use Rattle.span_models.specs.Tangents.{IsPlace}

-- a part of a product with a number of a line
module _ (x z : ℤ) (line : unsigned_abs x ≤ 2 ^ 56) where
  product_size : unsigned_abs (x *ℤ z) ≤ unsigned_abs z * 2 ^ 56
  product_size =
      let e = unsigned_abs-mul x z in
      let p : unsigned_abs x * unsigned_abs z ≤ 2 ^ 56 * unsigned_abs z = mul-le (unsigned_abs x) (unsigned_abs z) (2 ^ 56) (unsigned_abs z) line (omega arith) in
      omega (arith, e, p)

  pub part_small : unsigned_abs (floor_div (x *ℤ z) (2 ^ 56)) ≤ unsigned_abs z
  part_small = floor_div-small (x *ℤ z) (2 ^ 56) (unsigned_abs z) (omega arith) product_size

  pub times_kept : (t : ℤ) → unsigned_abs t < 2 ^ 118 → unsigned_abs z < 2 ^ 62 → t ≡ to_z w64 (of_z w64 x) *ℤ to_z w64 (of_z w64 z) → to_z w128 (of_z w128 t) ≡ x *ℤ z
  times_kept t small zs e =
      let f : to_z w64 (of_z w64 x) ≡ x = to_z-of_z w64 x (omega (arith, ints, line)) in
      let g : to_z w64 (of_z w64 z) ≡ z = to_z-of_z w64 z (omega (arith, ints, zs)) in
      to_z-of_z w128 t (omega (arith, ints, small)) ∙ e ∙ (λ i. f i *ℤ g i)

pub value_kept : (a p : ℤ) → unsigned_abs a ≤ 2 ^ 60 → unsigned_abs p ≤ 2 ^ 62 → to_z w64 (of_z w64 (to_z w64 (of_z w64 a) +ℤ to_z w64 (of_z w64 p))) ≡ a +ℤ p
value_kept a p h k = omega (arith, ints, h, k)

pub value_fits : (a p : ℤ) → unsigned_abs a ≤ 2 ^ 60 → unsigned_abs p ≤ 2 ^ 62 → SFits w64 (to_z w64 (of_z w64 a) +ℤ to_z w64 (of_z w64 p))
value_fits a p h k = omega (arith, ints, h, k)

pub products_kept : (s t : ℤ) → unsigned_abs s < 2 ^ 118 → unsigned_abs t < 2 ^ 118 → to_z w128 (of_z w128 (to_z w128 (of_z w128 s) +ℤ to_z w128 (of_z w128 t))) ≡ to_z w128 (of_z w128 s) +ℤ to_z w128 (of_z w128 t)
products_kept s t h k = omega (arith, ints, h, k)

-- a number of 128 bits that is passed on
wide_kept : (s : ℤ) → unsigned_abs s < 2 ^ 118 → to_z w128 (of_z w128 s) ≡ s
wide_kept s h = to_z-of_z w128 s (omega (arith, ints, h))

pub products_fit : (s t : ℤ) → unsigned_abs s < 2 ^ 118 → unsigned_abs t < 2 ^ 118 → SFits w128 (to_z w128 (of_z w128 s) +ℤ to_z w128 (of_z w128 t))
products_fit s t h k = rw (wide_kept s h, wide_kept t k) (omega (arith, ints, h, k))

pub products_small : (s t : ℤ) → unsigned_abs s < 2 ^ 118 → unsigned_abs t < 2 ^ 118 → unsigned_abs (to_z w128 (of_z w128 (to_z w128 (of_z w128 s) +ℤ to_z w128 (of_z w128 t)))) < 2 ^ 119
products_small s t h k = rw (products_kept s t h k, wide_kept s h, wide_kept t k) (omega (arith, ints, h, k))

-- ---- the middle of two arguments
module _ (first last q : ℤ) (f : IsArgument first q) (l : IsArgument last q) (ordered : first ≤ℤ last) where
  abbrev middle : ℤ
  middle = floor_div (first +ℤ last) 2

  low : (middle *ℤ pos 2) ≤ℤ (first +ℤ last)
  low = floor_div-le (first +ℤ last) 2 (omega arith)

  high : (first +ℤ last) <ℤ (middle *ℤ pos 2 +ℤ pos 2)
  high = floor_div-lt (first +ℤ last) 2 (omega arith)

  pub place_is : (o w : ℤ) → o ≡ middle → w ≡ int_max (pos 1) (last -ℤ o) → IsPlace first last q o w
  place_is o w eo ew =
      let a = low in
      let b = high in
      let fp = f.positive in
      let fl = f.low in
      let fh = f.high in
      let ll = l.low in
      let lh = l.high in
      record {
        inside = record { low = omega (arith, ints, a, b, fl, ll, eo, ordered); high = omega (arith, ints, a, b, lh, fh, eo, ordered) };
        positive = grind (arith, ints, ew);
        small = grind (arith, ints, ew, eo, a, b, fl, lh, fp, ordered);
        low = grind (arith, ints, ew, eo, a, b, ordered);
        high = grind (arith, ints, ew, eo, a, b, ordered);
      }

pub half_kept : (a b : ℤ) → SFits w64 a → SFits w64 b → to_z w64 (of_z w64 (to_z w128 (of_z w128 (floor_div (a +ℤ b) 2)))) ≡ floor_div (a +ℤ b) 2
half_kept a b f g =
    let l = floor_div-le (a +ℤ b) 2 (omega arith) in
    let h = floor_div-lt (a +ℤ b) 2 (omega arith) in
    omega (arith, ints, l, h, f, g)

pub half_narrow : (a b : ℤ) → SFits w64 a → SFits w64 b → SFits w64 (to_z w128 (of_z w128 (floor_div (a +ℤ b) 2)))
half_narrow a b f g =
    let l = floor_div-le (a +ℤ b) 2 (omega arith) in
    let h = floor_div-lt (a +ℤ b) 2 (omega arith) in
    omega (arith, ints, l, h, f, g)

pub sum_fits : (a b : ℤ) → SFits w64 a → SFits w64 b → SFits w128 (a +ℤ b)
sum_fits a b f g = omega (arith, ints, f, g)

pub summed : (a b : ℤ) → SFits w64 a → SFits w64 b → to_z w128 (of_z w128 (to_z w128 (of_z w128 (to_z w64 (of_z w64 a))) +ℤ to_z w128 (of_z w128 (to_z w64 (of_z w64 b))))) ≡ a +ℤ b
summed a b f g = omega (arith, ints, f, g)
