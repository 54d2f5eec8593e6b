use Rattle.de_text.proofs.EightDigits.{word_is}
use Rattle.de_text.proofs.eights.eight_bytes_as_number.Goals as goal

pub returns : goal.returns
returns c = word_is c.args.text.now c.requires c.type_inv.text
