use Rattle.spec_generated.specs.Coefficients.{term_at}
use Rattle.eph_gen.proofs.terms.shape_at.Goals as goal

pub returns-clause-term : goal.returns-clause-term
unfolding term_at
returns-clause-term c = c.shape_among_columns.ensures
