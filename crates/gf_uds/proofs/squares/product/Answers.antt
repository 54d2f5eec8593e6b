use Rattle.std.proofs.Common.{◌^◌, arith}
use Rattle.std.proofs.lemmas.Int.{fits_signed_mul, to_z-of_z}
use mir.Syntax.{w128}
use Rattle.spec_numbers.proofs.Sizes.{product_size}
use Rattle.spec_scalars.specs.declared.limits.TheConstants.{MAX_FACTOR}
use Rattle.gf_uds.proofs.squares.product.Goals as goal

pub returns-clause-value : goal.returns-clause-value
returns-clause-value c =
    let x = c.ranges.factor in
    let y = c.ranges.number in
    let fits = fits_signed_mul w128 c.args.factor c.args.number MAX_FACTOR (2 ^ 80) c.requires.factor c.requires.number (omega arith) in
    simp to_z-of_z

pub returns-clause-small : goal.returns-clause-small
returns-clause-small c =
    let x = c.ranges.factor in
    let y = c.ranges.number in
    let fits = fits_signed_mul w128 c.args.factor c.args.number MAX_FACTOR (2 ^ 80) c.requires.factor c.requires.number (omega arith) in
    simp to_z-of_z (product_size c.args.factor c.args.number MAX_FACTOR (2 ^ 80) c.requires.factor c.requires.number)
