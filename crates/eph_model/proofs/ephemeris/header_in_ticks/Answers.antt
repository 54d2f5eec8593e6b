use Rattle.std.proofs.Common.{◌≡◌, arith, refl, pos, ◌*ℤ◌, to_z, of_z, w64, FitsSigned}
use Rattle.std.proofs.lemmas.Int.{ints}
use Rattle.eph_model.proofs.Times.{in_ticks_passed, ticks_fit}
use Rattle.eph_model.proofs.ephemeris.header_in_ticks.Goals as goal

pub returns : goal.returns
returns c =
    let h = c.args.header in
    let fits : FitsSigned w64 h.block_seconds = omega (arith, ints, c.requires.some, c.requires.long) in
    let product : to_z w64 (of_z w64 (to_z w64 (of_z w64 h.block_seconds) *ℤ to_z w64 (of_z w64 c.from.result))) ≡ h.block_seconds *ℤ pos c.args.tick =
    in_ticks_passed h.block_seconds h.block_seconds c.from.result c.args.tick fits (record { sfits = c.from.type_inv }) refl c.from.ensures
    (omega (arith, ints, c.requires.some, c.requires.long)) c.requires.tick.few
    in λ i. record { ncoeff = h.ncoeff; block_seconds = product i; emrat = h.emrat; columns = h.columns }

pub overflow_mul-result : goal.overflow_mul-result
overflow_mul-result c =
    let h = c.args.header in
    let fits : FitsSigned w64 h.block_seconds = omega (arith, ints, c.requires.some, c.requires.long) in
    ticks_fit h.block_seconds h.block_seconds c.from.result c.args.tick fits (record { sfits = c.from.type_inv }) refl c.from.ensures
    (omega (arith, ints, c.requires.some, c.requires.long)) c.requires.tick.few
