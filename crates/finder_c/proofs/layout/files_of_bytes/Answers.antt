use Rattle.std.proofs.Common.{rules}
use Rattle.finder_c.specs.Layout.{BeginWithFile, entry}
use Rattle.finder_c.proofs.Reading.{all_read, is_none, is_some, no_parts, one_more, file_once}
use Rattle.finder_c.proofs.layout.files_of_bytes.Goals as goal

pub returns-clause-files : goal.returns-clause-files
returns-clause-files c =
    all_read BeginWithFile entry c.args.bytes.now c.loop-rest.files.items c.loop-rest.rest.now (is_none c.loop-rest.rest.now (search rules)) c.loop-rest.invariant

pub returns-in-None-clause-none : goal.returns-in-None-clause-none
returns-in-None-clause-none c =
    no_parts BeginWithFile entry c.args.bytes.now c.loop-rest.files.items c.loop-rest.rest.now
    (is_some c.loop-rest.rest.now (search rules)) c.in-None.ensures.none c.loop-rest.invariant

pub loop-rest-preserved : goal.loop-rest-preserved
loop-rest-preserved c =
    rw (c.in_ok-push-in-Some.ensures.items)
    (one_more BeginWithFile entry c.args.bytes.now c.loop-rest.files.items c.loop-rest.rest.now c.in-Some.file c.in-Some.later.now
    (file_once c.loop-rest.rest.now) (is_some c.loop-rest.rest.now (search rules)) c.in-Some.ensures.cut c.loop-rest.invariant)
