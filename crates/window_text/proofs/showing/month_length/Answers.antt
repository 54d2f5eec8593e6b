use Rattle.std.proofs.Common.{arith}
use Rattle.window_text.proofs.showing.month_length.Goals as goal

pub overflow_cast-month : goal.overflow_cast-month
overflow_cast-month c = let few = c.requires in omega arith

pub overflow_cast-result : goal.overflow_cast-result
overflow_cast-result c = let high = c.days_in_month.ensures.high in omega arith
