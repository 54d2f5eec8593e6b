use Rattle.spec_intervals.proofs.SignLaws.{yes-not_negative, no-negative}
use Rattle.spec_intervals.proofs.laws.signs_hold_for_all_numbers.Goals as goal

pub returns : goal.returns
returns c = record { yes = yes-not_negative; no = no-negative }
