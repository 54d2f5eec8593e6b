use Rattle.std.proofs.Common.{ap, ◌∙◌}
use Rattle.spec_ephemeris.specs.Ephemeris.{end_of}
use Rattle.eph_model.proofs.Times.{product_fits, end_fits, end_passed}
use Rattle.eph_model.proofs.ephemeris.Ephemeris.end.Goals as goal

pub overflow_mul-result : goal.overflow_mul-result
overflow_mul-result c = product_fits _ c.from.result c.self.invariant.0 (record { sfits = c.from.type_inv }) c.from.ensures

pub overflow_add-result : goal.overflow_add-result
overflow_add-result c = end_fits _ c.from.result c.self.invariant.0 (record { sfits = c.from.type_inv }) c.from.ensures

pub returns : goal.returns
returns c =
    end_passed _ c.from.result c.self.invariant.0 (record { sfits = c.from.type_inv }) c.from.ensures ∙ ap (end_of) c.self.view_is
