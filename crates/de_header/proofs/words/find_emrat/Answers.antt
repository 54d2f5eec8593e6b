use Rattle.std.proofs.Common.{sym, ◌∙◌}
use Rattle.de_header.proofs.Names.{found_here, found_later}
use Rattle.de_header.proofs.words.find_emrat.Goals as goal

pub returns-then-is_word_at : goal.returns-then-is_word_at
returns-then-is_word_at c = found_here c.args.line.now.tokens c.args.n c.loop-i.i c.args.start c.requires.there c.loop-i-test.true (sym c.is_word_at.ensures ∙ c.if-is_word_at.true) c.loop-i.invariant

pub loop-i-preserved : goal.loop-i-preserved
loop-i-preserved c = found_later c.args.line.now.tokens c.args.n c.loop-i.i c.args.start c.requires.there c.loop-i-test.true (sym c.is_word_at.ensures ∙ c.if-is_word_at.false) c.loop-i.invariant
