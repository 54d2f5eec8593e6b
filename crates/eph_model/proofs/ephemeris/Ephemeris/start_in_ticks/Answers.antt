use Rattle.std.proofs.Common.{arith}
use Rattle.std.proofs.lemmas.Int.{ints}
use Rattle.eph_model.proofs.Times.{in_ticks_passed}
use Rattle.eph_model.proofs.ephemeris.Ephemeris.start_in_ticks.Goals as goal

pub returns : goal.returns
returns c =
    in_ticks_passed c.args.self.now.start c.start.result c.from.result c.args.tick (record { sfits = c.start.type_inv }) (record { sfits = c.from.type_inv })
    c.start.ensures c.from.ensures (let s = c.requires.seconds in omega (arith, ints, s.first, s.last)) c.requires.tick.few
