use Rattle.std.proofs.Common.{refl}
use Rattle.de_text.proofs.fields.cut_number.Goals as goal

pub returns : goal.returns
returns c = c.in_ok-number.ensures.number (c.if-not-has_field_end.ensures refl)
