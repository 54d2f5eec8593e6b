use Rattle.spec_text.proofs.Answering.{reads_by}
use Rattle.de_text.proofs.Splits.{fits, some_is}
use Rattle.de_text.proofs.decimal.read_decimal.Goals as goal

pub decimal_of_parts-requires-clause-short : goal.decimal_of_parts-requires-clause-short
decimal_of_parts-requires-clause-short c = fits c.args.word.now c.in-Some.parts c.if-word-gt-MAX_WORD_BYTES.false c.in-Some.ensures.splits

pub returns-in-Some-clause-reading : goal.returns-in-Some-clause-reading
returns-in-Some-clause-reading c = some_is c.args.word.now c.in-Some.parts _ c.if-word-gt-MAX_WORD_BYTES.false c.in-Some.ensures.splits c.decimal_of_parts.ensures

pub returns-in-Some-clause-reads : goal.returns-in-Some-clause-reads
returns-in-Some-clause-reads c = reads_by c.args.word.now _ (some_is c.args.word.now c.in-Some.parts _ c.if-word-gt-MAX_WORD_BYTES.false c.in-Some.ensures.splits c.decimal_of_parts.ensures)
