use Rattle.std.proofs.Common.{◌≡◌, ◌-◌, ◌/◌, min, ℤ, pos, negsuc, ◌-ℤ◌, ◌≤ℤ◌, unsigned_abs, to_z, of_z, w64, refl, ap, ◌∙◌, arith}
use Rattle.std.proofs.lemmas.Int.{ints}
use Rattle.spec_ephemeris.specs.Series.{to_nat}
use Rattle.eph_model.proofs.grid.Grid.index_at.Goals as goal

natural : (z : ℤ) → pos 0 ≤ℤ z → unsigned_abs z ≡ to_nat z
natural (pos n) h = refl
natural (negsuc n) h = absurd (omega (arith, ints))

pub returns : goal.returns
returns c =
    let grid = c.args.self in
    let passed : to_z w64 (of_z w64 (to_z w64 (of_z w64 c.args.t) -ℤ to_z w64 (of_z w64 grid.start))) ≡ c.args.t -ℤ grid.start = omega (arith, ints) in
    let offset = ap unsigned_abs passed ∙ natural (c.args.t -ℤ grid.start) (omega (arith, ints)) in record {
      in_range = omega (arith, c.index_at_offset.ensures);
      index = c.index_at_offset.ensures ∙ ap (λ n. min (n / grid.seconds) (grid.count - 1)) offset;
    }
