use Rattle.eph_gen.proofs.Padded.{styled_is}
use Rattle.eph_gen.proofs.words.add_fraction.Goals as goal

pub returns : goal.returns
returns c = rw (c.laid_out.ensures, styled_is) at c.write.ensures.bytes
