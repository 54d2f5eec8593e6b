use Rattle.spec_models.proofs.Bounds.{Within-at, Within-halved, Within-cut, Within-moved}
use Rattle.spec_models.proofs.model_laws.polynomials_are_bounded_by_their_coefficients.Goals as goal

pub returns : goal.returns
returns c = record { size = Within-at; halved = Within-halved; cut = Within-cut; slope = Within-moved }
