use Rattle.std.proofs.Common.{arith}
use Rattle.std.proofs.lemmas.Int.{ints}
use Rattle.window_text.proofs.Products.{product_fits, product_is}
use Rattle.window_text.proofs.reading.seconds_in_ticks.Goals as goal

pub overflow_mul-result : goal.overflow_mul-result
overflow_mul-result c = product_fits c.args.second c.from.result c.args.tick c.ranges.second (record { sfits = c.from.type_inv }) c.from.ensures (omega (arith, ints, c.requires.second.0, c.requires.second.1)) c.requires.tick

pub returns : goal.returns
returns c = product_is c.args.second c.from.result c.args.tick c.ranges.second (record { sfits = c.from.type_inv }) c.from.ensures (omega (arith, ints, c.requires.second.0, c.requires.second.1)) c.requires.tick
