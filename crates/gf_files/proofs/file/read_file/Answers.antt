use Rattle.std.proofs.Common.{length, refl}
use Rattle.gf_files.proofs.Left.{left_past, not_opened}
use Rattle.gf_files.proofs.file.read_file.Goals as goal

pub returns-in-Ok-clause-one_past : goal.returns-in-Ok-clause-one_past
returns-in-Ok-clause-one_past g c = λ place fault is.
    let read = c.read_rest.ensures.large place fault is in
    left_past _ c.args.name.now _ _ read.0 _ c.in-Ok.ensures.bytes read.1 read.2

pub returns-in-Ok-clause-lacking : goal.returns-in-Ok-clause-lacking
returns-in-Ok-clause-lacking g c = λ lacks. absurd (not_opened _ c.args.name.now _ c.in-Ok.ensures.bytes lacks)

pub returns-in-Ok-clause-taken : goal.returns-in-Ok-clause-taken
returns-in-Ok-clause-taken g c = λ ready.
    let took = c.read_rest.ensures.taken in
    record { count = length took.read; few = took.few; rest = left_past _ c.args.name.now _ _ took.read _ c.in-Ok.ensures.bytes took.taken refl }
