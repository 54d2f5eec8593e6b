use Rattle.window_text.proofs.Digits.{one_of_three, three_digits, two_of_three}
use Rattle.window_text.proofs.printing.leading_zeros.Goals as goal

pub returns-then-n-lt10 : goal.returns-then-n-lt10
returns-then-n-lt10 c = one_of_three c.args.n c.if-n-lt10.true

pub returns-then-n-lt100 : goal.returns-then-n-lt100
returns-then-n-lt100 c = two_of_three c.args.n c.if-n-lt10.false c.if-n-lt100.true

pub returns-else-n-lt100 : goal.returns-else-n-lt100
returns-else-n-lt100 c = three_digits c.args.n c.if-n-lt100.false c.requires
