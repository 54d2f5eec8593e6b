use Rattle.std.proofs.Common.{◌≡◌, ◌<◌, ◌^◌, ℕ, ℤ, pos, ◌-ℤ◌, ◌*ℤ◌, sym, ap, ◌∙◌, subst, w64, to_z, of_z, arith, lit<}
use Rattle.std.proofs.lemmas.Int.{fits_signed_from_abs, fits_signed_mul, ints, to_z-of_z}
use mir.Val.{SFits}
use Rattle.eph_gen.proofs.terms.scaled_draw.Goals as goal

-- what is drawn and a scale, as the code reads them
module _ (draw scale : ℕ) (d s : ℤ) (d_is : d ≡ pos draw) (s_is : s ≡ pos scale) (draw_fits : draw < 2 ^ 32) (scale_fits : scale < 2 ^ 32) where
  drawn : to_z w64 (of_z w64 d) ≡ pos draw
  drawn = to_z-of_z w64 d (subst (SFits w64) (sym d_is) (fits_signed_from_abs w64 (pos draw) (omega (arith, draw_fits)))) ∙ d_is

  scaled : to_z w64 (of_z w64 s) ≡ pos scale
  scaled = to_z-of_z w64 s (subst (SFits w64) (sym s_is) (fits_signed_from_abs w64 (pos scale) (omega (arith, scale_fits)))) ∙ s_is

  less : SFits w64 (pos draw -ℤ pos (2 ^ 31))
  less = fits_signed_from_abs w64 (pos draw -ℤ pos (2 ^ 31)) (omega (arith, ints, draw_fits))

  product : SFits w64 ((pos draw -ℤ pos (2 ^ 31)) *ℤ pos scale)
  product =
      fits_signed_mul w64 (pos draw -ℤ pos (2 ^ 31)) (pos scale) 2147483648 4294967295 (omega (arith, ints, draw_fits)) (omega (arith, scale_fits))
      (lit< tt)

  less_fits : SFits w64 (to_z w64 (of_z w64 d) -ℤ pos (2 ^ 31))
  less_fits = subst (λ (z : ℤ). SFits w64 (z -ℤ pos (2 ^ 31))) (sym drawn) less

  less_is : to_z w64 (of_z w64 (to_z w64 (of_z w64 d) -ℤ pos (2 ^ 31))) ≡ pos draw -ℤ pos (2 ^ 31)
  less_is = to_z-of_z w64 (to_z w64 (of_z w64 d) -ℤ pos (2 ^ 31)) less_fits ∙ ap (λ (z : ℤ). z -ℤ pos (2 ^ 31)) drawn

  product_is : (to_z w64 (of_z w64 (to_z w64 (of_z w64 d) -ℤ pos (2 ^ 31))) *ℤ to_z w64 (of_z w64 s)) ≡ (pos draw -ℤ pos (2 ^ 31)) *ℤ pos scale
  product_is = λ i. less_is i *ℤ scaled i

  product_fits : SFits w64 (to_z w64 (of_z w64 (to_z w64 (of_z w64 d) -ℤ pos (2 ^ 31))) *ℤ to_z w64 (of_z w64 s))
  product_fits = subst (SFits w64) (sym product_is) product

pub overflow_sub-result : goal.overflow_sub-result
overflow_sub-result c = less_fits c.args.draw 0 c.from.result (pos 0) c.from.ensures (λ i. pos 0) c.ranges.draw.fits (lit< tt)

pub overflow_mul-result : goal.overflow_mul-result
overflow_mul-result c =
    product_fits c.args.draw c.args.scale c.from.result c.from-2.result c.from.ensures c.from-2.ensures c.ranges.draw.fits c.ranges.scale.fits

pub returns : goal.returns
returns c =
    let fits = product_fits c.args.draw c.args.scale c.from.result c.from-2.result c.from.ensures c.from-2.ensures c.ranges.draw.fits c.ranges.scale.fits in
    to_z-of_z w64 _ fits
    ∙ product_is c.args.draw c.args.scale c.from.result c.from-2.result c.from.ensures c.from-2.ensures c.ranges.draw.fits c.ranges.scale.fits
