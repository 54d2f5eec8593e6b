use Rattle.de_text.proofs.FieldFronts.{front_word_is}
use Rattle.de_text.proofs.fields.four_bytes_as_number.Goals as goal

pub returns : goal.returns
returns c = front_word_is c.args.line.now c.requires c.type_inv.line
