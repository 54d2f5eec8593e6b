use Rattle.de_text.proofs.Splits.{fits, some_is}
use Rattle.de_text.proofs.fields.read_fraction.Goals as goal

pub decimal_of_parts-requires-clause-short : goal.decimal_of_parts-requires-clause-short
decimal_of_parts-requires-clause-short c =
    fits c.args.word.now c.in_ok-parts.parts c.requires.short (c.in_ok-parts.ensures.splits c.args.word.now c.requires.negative c.requires.digits)

pub returns : goal.returns
returns c =
    some_is c.args.word.now c.in_ok-parts.parts _ c.requires.short (c.in_ok-parts.ensures.splits c.args.word.now c.requires.negative c.requires.digits) c.decimal_of_parts.ensures
