use Rattle.std.proofs.Common.{arith}
use Rattle.std.proofs.lemmas.Int.{ints}
use Rattle.window_text.proofs.Products.{product_fits, time_small, total_fits, total_is}
use Rattle.window_text.proofs.reading.total_ticks.Goals as goal

pub overflow_mul-result : goal.overflow_mul-result
overflow_mul-result c = product_fits c.args.second c.from.result c.args.tick c.ranges.second (record { sfits = c.from.type_inv }) c.from.ensures (time_small c.args.second c.requires.second) c.requires.tick

pub overflow_cast-result : goal.overflow_cast-result
overflow_cast-result c = let few = c.requires.past in omega (arith, ints)

pub overflow_add-result : goal.overflow_add-result
overflow_add-result c = total_fits c.args.second c.from.result c.args.tick c.ranges.second (record { sfits = c.from.type_inv }) c.from.ensures (time_small c.args.second c.requires.second) c.requires.tick c.args.past c.requires.past

pub returns : goal.returns
returns c = total_is c.args.second c.from.result c.args.tick c.ranges.second (record { sfits = c.from.type_inv }) c.from.ensures (time_small c.args.second c.requires.second) c.requires.tick c.args.past c.requires.past
