use Rattle.window_text.proofs.Digits.{one_digit, two_digits}
use Rattle.window_text.proofs.printing.leading_zero.Goals as goal

pub returns-then-n-lt10 : goal.returns-then-n-lt10
returns-then-n-lt10 c = one_digit c.args.n c.if-n-lt10.true

pub returns-else-n-lt10 : goal.returns-else-n-lt10
returns-else-n-lt10 c = two_digits c.args.n c.if-n-lt10.false c.requires
