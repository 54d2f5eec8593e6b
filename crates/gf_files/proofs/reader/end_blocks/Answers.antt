use Rattle.std.proofs.Common.{[]}
use Rattle.de_blocks.specs.Reader.{accepted_in, says}
use Rattle.gf_files.specs.Reader.{ephemeris_after}
use Rattle.gf_files.proofs.BlockSays.{finishes}
use Rattle.gf_files.proofs.reader.end_blocks.Goals as goal

pub returns : goal.returns
unfolding ephemeris_after
returns c = finishes c.args.line (says 0 c.args.reader []) (accepted_in c.end_store.result) c.end_store.ensures.end
