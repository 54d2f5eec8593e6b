use Rattle.event_judge.proofs.Remembered.{kept}
use Rattle.event_judge.proofs.memory.Memory.keep_sign.Goals as goal

pub store-requires : goal.store-requires
store-requires g c = kept g.N.Naming.search c.args.time.time c.args.sign c.sign_word.result c.requires c.sign_word.ensures
