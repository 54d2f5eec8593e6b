use Rattle.std.proofs.Common.{rules}
use Rattle.steal_pool.proofs.Gathering.{read_within, read_fits, read_joins, read_none}
use Rattle.steal_pool.proofs.joining.join_last_stealer.Goals as goal

pub bounds-seats-owner : goal.bounds-seats-owner
bounds-seats-owner g c = read_within c.args.seats.now c.args.i c.index-seats-i.result c.give_stealer.new.self c.in-Some.stealer c.owner_number-owner.result c.requires.inside c.in-Some.ensures c.requires.linked c.owner_number-owner.ensures

pub offset_bounds-seats-owner : goal.offset_bounds-seats-owner
offset_bounds-seats-owner g c = let within = read_within c.args.seats.now c.args.i c.index-seats-i.result c.give_stealer.new.self c.in-Some.stealer c.owner_number-owner.result c.requires.inside c.in-Some.ensures c.requires.linked c.owner_number-owner.ensures in search rules

pub join_stealer-requires-clause-ours : goal.join_stealer-requires-clause-ours
join_stealer-requires-clause-ours g c κs within = (read_fits c.args.seats.now c.args.i c.index-seats-i.result c.give_stealer.new.self c.in-Some.stealer c.owner_number-owner.result c.requires.inside c.in-Some.ensures c.requires.linked c.owner_number-owner.ensures _).0

pub join_stealer-requires-clause-made : goal.join_stealer-requires-clause-made
join_stealer-requires-clause-made g c κs within = (read_fits c.args.seats.now c.args.i c.index-seats-i.result c.give_stealer.new.self c.in-Some.stealer c.owner_number-owner.result c.requires.inside c.in-Some.ensures c.requires.linked c.owner_number-owner.ensures _).1

pub returns-in-Some-clause-joins : goal.returns-in-Some-clause-joins
returns-in-Some-clause-joins g c = λ _. read_joins c.args.seats.now c.args.i c.index-seats-i.result c.give_stealer.new.self c.in-Some.stealer c.owner_number-owner.result c.requires.inside c.in-Some.ensures c.requires.linked c.owner_number-owner.ensures _ _ c.join_stealer.ensures.joined

pub returns-in-None-clause-none : goal.returns-in-None-clause-none
returns-in-None-clause-none g c = λ _. read_none c.args.seats.now c.args.i c.index-seats-i.result c.give_stealer.new.self c.requires.inside c.in-None.ensures
