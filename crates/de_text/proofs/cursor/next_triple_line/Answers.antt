use Rattle.de_text.proofs.Triples.{first_left, first_step}
use Rattle.de_text.proofs.cursor.next_triple_line.Goals as goal

pub returns-clause-step : goal.returns-clause-step
returns-clause-step c =
    first_step c.args.before c.args.text.now c.in_ok-found.found.bytes.now c.in_ok-found.found.rest.now c.in_ok-found.ensures.lines c.in_ok-found.ensures.short c.in_ok-found.ensures.some

pub returns-clause-left : goal.returns-clause-left
returns-clause-left c =
    first_left c.args.before c.args.text.now c.in_ok-found.found.bytes.now c.in_ok-found.found.rest.now c.in_ok-found.ensures.lines c.in_ok-found.ensures.short c.in_ok-found.ensures.some
