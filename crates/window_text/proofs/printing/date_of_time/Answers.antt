use Rattle.std.proofs.Common.{◌∙◌, arith}
use Rattle.spec_times.proofs.Times.{day_is}
use Rattle.window_text.proofs.Dates.{day_number_fits, day_number_is, noon_fits}
use Rattle.window_text.proofs.printing.date_of_time.Goals as goal

pub overflow_add-time : goal.overflow_add-time
overflow_add-time c = noon_fits c.args.time c.requires

pub div_euclid-day-requires-clause-nonzero : goal.div_euclid-day-requires-clause-nonzero
div_euclid-day-requires-clause-nonzero c = omega arith

pub div_euclid-day-requires-clause-no_overflow : goal.div_euclid-day-requires-clause-no_overflow
div_euclid-day-requires-clause-no_overflow c = λ e f. omega (arith, e)

pub overflow_add-day : goal.overflow_add-day
overflow_add-day c = day_number_fits c.args.time c.div_euclid-day.result c.requires (record { sfits = c.div_euclid-day.type_inv }) c.div_euclid-day.ensures

pub unwrap-requires : goal.unwrap-requires
unwrap-requires c = c.from_unix_epoch_day.ensures.succeeds.1 (rw (day_number_is c.args.time c.div_euclid-day.result c.requires (record { sfits = c.div_euclid-day.type_inv }) c.div_euclid-day.ensures) (day_is c.args.time c.requires))

pub returns : goal.returns
returns c = (rw c.unwrap.ensures at c.from_unix_epoch_day.ensures.value) ∙ day_number_is c.args.time c.div_euclid-day.result c.requires (record { sfits = c.div_euclid-day.type_inv }) c.div_euclid-day.ensures
