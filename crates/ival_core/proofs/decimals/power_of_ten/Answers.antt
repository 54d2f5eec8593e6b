use Rattle.std.proofs.Common.{◌^◌, ℕ, arith}
use Rattle.std.proofs.lemmas.List.FromFn.{get_or-map-range_with_len}
use Rattle.ival_core.proofs.decimals.power_of_ten.Goals as goal

pub returns : goal.returns
returns c = get_or-map-range_with_len (λ (k : ℕ). 10 ^ k) 0 39 c.args.n c.args.n 0 (omega (arith, c.requires)) (omega arith)
