use Rattle.std.proofs.Common.{◌-◌, drop, length, take}
use Rattle.std.proofs.lemmas.List.{take_rest}
use Rattle.de_text.proofs.WholeLines.{whole_after, whole_nothing}
use Rattle.de_text.proofs.pieces.whole_lines_length.Goals as goal

pub returns-in-Some-clause-whole : goal.returns-in-Some-clause-whole
returns-in-Some-clause-whole c =
    let text = c.args.text.now in
    let from = c.args.from in
    whole_after text (take (length text - from) (drop from text)) from c.in-Some.at (take_rest text from) c.requires c.in-Some.ensures.0.high c.in-Some.ensures.1

pub returns-in-None-clause-whole : goal.returns-in-None-clause-whole
returns-in-None-clause-whole c = whole_nothing
