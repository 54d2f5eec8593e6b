use Rattle.spec_meanings.proofs.Rows.{apsis_row, separation_change_row, station_row}
use Rattle.spec_meanings.proofs.laws.functions_of_changes_are_polynomials_of_scenes.Goals as goal

pub returns-clause-apsis : goal.returns-clause-apsis
returns-clause-apsis c = apsis_row

pub returns-clause-station : goal.returns-clause-station
returns-clause-station c = station_row

pub returns-clause-separation : goal.returns-clause-separation
returns-clause-separation c = separation_change_row
