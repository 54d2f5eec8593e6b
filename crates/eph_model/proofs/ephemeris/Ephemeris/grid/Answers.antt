use Rattle.spec_ephemeris.proofs.ColumnRules.{few}
use Rattle.eph_model.proofs.Rules.{shared}
use Rattle.eph_model.proofs.ephemeris.Ephemeris.grid.Goals as goal

pub granule_seconds-seconds-requires-clause-shared :
    goal.granule_seconds-seconds-requires-clause-shared
granule_seconds-seconds-requires-clause-shared c =
    shared c.self.inside.header c.args.column c.present_column-column.result c.self.invariant.0.header
    (record { listed = rw c.as_slice.ensures at c.present_column-column.ensures.listed; present = c.present_column-column.ensures.present })

pub returns-clause-coefficients : goal.returns-clause-coefficients
returns-clause-coefficients c =
    few c.self.inside.header c.args.column c.present_column-column.result c.self.invariant.0.header
    (record { listed = rw c.as_slice.ensures at c.present_column-column.ensures.listed; present = c.present_column-column.ensures.present })
