use Rattle.std.proofs.Common.{refl}
use Rattle.de_text.proofs.Triples.{are_triple, ends_with, three_feedless, three_long}
use Rattle.de_text.proofs.fields.read_triple_line.Goals as goal

pub returns-clause-triple : goal.returns-clause-triple
returns-clause-triple c =
    let line = c.args.line.now in
    let more = c.in_ok-first.more.now in
    let last = c.in_ok-second.last.now in
    let rest = c.in_ok-third.rest.now in
    let (a, one, reads_one) = c.in_ok-first.ensures.number (ends_with line more c.in_ok-first.ensures.rest (λ some. c.in_ok-second.ensures.front)) in
    let (b, two, reads_two) = c.in_ok-second.ensures.number (ends_with more last c.in_ok-second.ensures.rest (λ some. c.in_ok-third.ensures.front)) in
    let (d, three, reads_three) = c.in_ok-third.ensures.number (ends_with last rest c.in_ok-third.ensures.rest (c.if-not-is_empty_or_two_blanks.ensures.front refl)) in
    are_triple line more last rest _ a b d one two three (c.if-not-is_empty_or_two_blanks.ensures.blank refl) reads_one reads_two reads_three

pub returns-clause-inner : goal.returns-clause-inner
returns-clause-inner c =
    three_feedless c.args.line.now c.in_ok-first.more.now c.in_ok-second.last.now c.in_ok-first.ensures.rest c.in_ok-second.ensures.rest
    c.in_ok-first.ensures.inner c.in_ok-second.ensures.inner c.in_ok-third.ensures.inner

pub returns-clause-long : goal.returns-clause-long
returns-clause-long c =
    three_long c.args.line.now c.in_ok-first.more.now c.in_ok-second.last.now c.in_ok-first.ensures.rest c.in_ok-second.ensures.rest
    c.in_ok-first.ensures.long c.in_ok-second.ensures.long c.in_ok-third.ensures.long
