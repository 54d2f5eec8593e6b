use Rattle.std.proofs.Common.{refl}
use Rattle.spec_intervals.specs.Interval.{product, narrow, narrow_by, narrow_shift, first_fit, settled}
use Rattle.spec_intervals.proofs.examples.products_of_intervals_end_at_corner_products.Goals as goal

pub returns : goal.returns
unfolding product narrow narrow_by narrow_shift first_fit settled
returns c = record { unlike_signs = refl; by_zero = refl }
