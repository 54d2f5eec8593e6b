use Rattle.spec_text.proofs.Answering.{reads_by}
use Rattle.de_text.proofs.Splits.{fits, some_is, none_is}
use Rattle.de_text.proofs.decimal.read_any_word.Goals as goal

pub decimal_or_fault-requires : goal.decimal_or_fault-requires
decimal_or_fault-requires c = fits c.args.word.now c.in-Some.parts c.requires c.in-Some.ensures

pub returns-in-Some-clause-reading : goal.returns-in-Some-clause-reading
returns-in-Some-clause-reading c = some_is c.args.word.now c.in-Some.parts _ c.requires c.in-Some.ensures c.decimal_or_fault.ensures

pub returns-in-Some-clause-reads : goal.returns-in-Some-clause-reads
returns-in-Some-clause-reads c = reads_by c.args.word.now _ (some_is c.args.word.now c.in-Some.parts _ c.requires c.in-Some.ensures c.decimal_or_fault.ensures)

pub returns-in-None-clause-reads : goal.returns-in-None-clause-reads
returns-in-None-clause-reads c = reads_by c.args.word.now _ (none_is c.args.word.now c.requires c.in-None.ensures)

pub returns-in-None-clause-reading : goal.returns-in-None-clause-reading
returns-in-None-clause-reading c = none_is c.args.word.now c.requires c.in-None.ensures
