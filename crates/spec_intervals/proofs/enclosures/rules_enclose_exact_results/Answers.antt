use Rattle.std.proofs.Common.{rules}
use Rattle.spec_intervals.proofs.Enclosed.{IsEnclosure-constant, IsEnclosure-sum, IsEnclosure-difference, IsEnclosure-product, IsEnclosure-signed_square}
use Rattle.spec_intervals.proofs.enclosures.rules_enclose_exact_results.Goals as goal

pub returns : goal.returns
returns c = search (rules, IsEnclosure-constant, IsEnclosure-sum, IsEnclosure-difference, IsEnclosure-product, IsEnclosure-signed_square)
