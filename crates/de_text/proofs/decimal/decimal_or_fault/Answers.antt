use Rattle.de_text.proofs.Assembly.{read_many, read_far}
use Rattle.de_text.proofs.decimal.decimal_or_fault.Goals as goal

pub returns-then-parts-ge-CAP : goal.returns-then-parts-ge-CAP
returns-then-parts-ge-CAP c = λ n are shows. read_many n _ are shows c.if-parts-ge-CAP.true

pub returns-then-parts-gt-MAX_EXPONENT : goal.returns-then-parts-gt-MAX_EXPONENT
returns-then-parts-gt-MAX_EXPONENT c = λ n are shows. read_far n _ are shows c.if-parts-ge-CAP.false c.if-parts-gt-MAX_EXPONENT.true
