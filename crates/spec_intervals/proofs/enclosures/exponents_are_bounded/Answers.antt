use Rattle.std.proofs.Common.{◌+◌, arith}
use Rattle.spec_intervals.specs.Enclosure.{sum_of, product_of}
use Rattle.spec_intervals.proofs.EnclosureExponents.{between-all_within, all_within-between, sum_of-between, product_of-between}
use Rattle.spec_intervals.proofs.Offsets.{offsets-narrow}
use Rattle.spec_intervals.proofs.enclosures.exponents_are_bounded.Goals as goal

pub returns-clause-sum : goal.returns-clause-sum
returns-clause-sum c a b span n x y p q =
    between-all_within n (n + 1) (n + 64) (sum_of a b x y) (omega arith) (omega arith) (sum_of-between a b span n n x y (all_within-between n x p) (all_within-between n y q))

pub returns-clause-product : goal.returns-clause-product
returns-clause-product c a b span n x y p q =
    between-all_within (n + n) (n + n + 126) (n + n + 189) (product_of a b x y) (omega arith) (omega arith) (product_of-between a b span n n n n x y (all_within-between n x p) (all_within-between n y q))

pub returns-clause-offsets : goal.returns-clause-offsets
returns-clause-offsets c = offsets-narrow
