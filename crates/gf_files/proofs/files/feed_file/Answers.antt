use Rattle.std.proofs.Common.{length, refl}
use Rattle.gf_files.proofs.Giving.{stops_at_file, takes_file_if_read}
use Rattle.gf_files.proofs.Left.{left_past}
use Rattle.gf_files.proofs.files.feed_file.Goals as goal

pub returns-in-Ok-clause-fed : goal.returns-in-Ok-clause-fed
returns-in-Ok-clause-fed g c = takes_file_if_read _ c.args.name.now _ c.args.reader c.feed_rest.result c.in-Ok.ensures.bytes c.feed_rest.ensures.fed

pub returns-in-Ok-clause-fault : goal.returns-in-Ok-clause-fault
returns-in-Ok-clause-fault g c = λ place fault is.
    let of = c.feed_rest.ensures.fault place fault is in
    (of.0, stops_at_file _ c.args.name.now _ c.args.reader fault c.in-Ok.ensures.bytes of.1)

pub returns-in-Ok-clause-taken : goal.returns-in-Ok-clause-taken
returns-in-Ok-clause-taken g c = λ ready.
    let took = c.feed_rest.ensures.taken in
    record { count = length took.read; few = took.few; rest = left_past _ c.args.name.now _ _ took.read _ c.in-Ok.ensures.bytes took.taken refl }
