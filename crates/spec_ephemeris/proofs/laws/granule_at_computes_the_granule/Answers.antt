use Rattle.spec_ephemeris.specs.Granules.{granule_at}
use Rattle.spec_ephemeris.proofs.Granules.{one_granule}
use Rattle.spec_ephemeris.proofs.GranuleAt.{granule_of_time}
use Rattle.spec_ephemeris.proofs.laws.granule_at_computes_the_granule.Goals as goal

pub returns-clause-is : goal.returns-clause-is
returns-clause-is c = λ e number t has. granule_of_time e number t has.checked has.column has.some has.from has.upto

pub returns-clause-only : goal.returns-clause-only
returns-clause-only c = λ e number t g has at.
    one_granule e number t g (granule_at e number t) has.checked at (granule_of_time e number t has.checked has.column has.some has.from has.upto)
