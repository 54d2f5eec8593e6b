use Rattle.std.proofs.Common.{◌-◌, ◌^◌, ℕ, arith}
use Rattle.std.proofs.lemmas.List.FromFn.{get_or-map-range_with_len}
use Rattle.eph_model.proofs.quick.unit_numerator.Goals as goal

pub returns : goal.returns
returns c = get_or-map-range_with_len (λ (k : ℕ). 2 ^ (24 - k)) 0 27 c.args.places c.args.places 0 (omega (arith, c.requires)) (omega arith)
