use Rattle.spec_searches.proofs.Finding.{are_right, windows_of_leaves}
use Rattle.spec_searches.proofs.laws.windows_of_any_leaves_hold_the_events.Goals as goal

pub returns-clause-marks : goal.returns-clause-marks
returns-clause-marks c = λ s ls is are. are_right s is ls are

pub returns-clause-windows : goal.returns-clause-windows
returns-clause-windows c = λ s first last ls is cover are. windows_of_leaves s is first last ls cover are
