use Rattle.spec_times.proofs.Dates.{dates_of_days, numbers_of_dates, one_date}
use Rattle.spec_times.proofs.laws.days_have_one_date.Goals as goal

pub returns-clause-civil : goal.returns-clause-civil
returns-clause-civil c = dates_of_days

pub returns-clause-number : goal.returns-clause-number
returns-clause-number c = numbers_of_dates

pub returns-clause-one : goal.returns-clause-one
returns-clause-one c = one_date
