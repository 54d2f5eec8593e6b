use Rattle.std.proofs.Common.{◌≡◌, ◌∙◌, ap, pos, arith}
use Rattle.spec_intervals.specs.declared.signs.Sign.TheVariants.{Yes, No, Open}
use Rattle.event_judge.proofs.sign_words.read_sign.Goals as goal

pub returns-then-word-sign_word : goal.returns-then-word-sign_word
returns-then-word-sign_word g c =
    let same : c.args.word ≡ c.sign_word.result = omega (arith, c.if-word-sign_word.true) in
    c.requires c.args.time.time Yes (ap pos same ∙ c.sign_word.ensures)

pub returns-then-word-sign_word-2 : goal.returns-then-word-sign_word-2
returns-then-word-sign_word-2 g c =
    let same : c.args.word ≡ c.sign_word-else-word-sign_word.result = omega (arith, c.if-word-sign_word-2.true) in
    c.requires c.args.time.time No (ap pos same ∙ c.sign_word-else-word-sign_word.ensures)

pub returns-then-word-sign_word-3 : goal.returns-then-word-sign_word-3
returns-then-word-sign_word-3 g c =
    let same : c.args.word ≡ c.sign_word-else-word-sign_word-2.result = omega (arith, c.if-word-sign_word-3.true) in
    c.requires c.args.time.time Open (ap pos same ∙ c.sign_word-else-word-sign_word-2.ensures)
