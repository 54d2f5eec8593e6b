use Rattle.std.proofs.Common.{◌<◌, ◌∷◌, length, sym, ap, ◌∙◌, arith, length-drop}
use Rattle.std.proofs.lemmas.List.{take_rest}
use Rattle.spec_text.specs.Lines.{tokens}
use Rattle.spec_text.proofs.TokenLemmas.{blank_line}
use Rattle.de_text.proofs.TokenPlaces.{token_after, some_len}
use Rattle.de_text.proofs.tokens.cut_token.Goals as goal

pub returns-then-start-line-clause-blank : goal.returns-then-start-line-clause-blank
returns-then-start-line-clause-blank c = blank_line c.args.line.now (λ k h. c.blank_length-start.ensures.before k (omega (arith, c.if-start-line.true)))

pub returns-clause-token : goal.returns-clause-token
returns-clause-token c =
    let start = c.blank_length-start.result in
    let below : start < length c.args.line.now = omega (arith, c.blank_length-start.ensures.within, c.if-start-line.false) in
    token_after c.args.line.now _ start c.token_length-end.result (take_rest c.args.line.now start) below c.blank_length-start.ensures.before
    (c.blank_length-start.ensures.at below) c.token_length-end.ensures.within c.token_length-end.ensures.before c.token_length-end.ensures.at
    ∙ (λ i. sym c.split_at.ensures.front i ∷ tokens (sym c.split_at.ensures.back i))

pub returns-clause-shorter : goal.returns-clause-shorter
returns-clause-shorter c =
    let start = c.blank_length-start.result in
    let below : start < length c.args.line.now = omega (arith, c.blank_length-start.ensures.within, c.if-start-line.false) in
    let some = some_len c.args.line.now _ start c.token_length-end.result (take_rest c.args.line.now start) below (c.blank_length-start.ensures.at below) c.token_length-end.ensures.at in
    omega (arith, some, c.split_at.ensures.back_len, c.token_length-end.ensures.within, ap length (take_rest c.args.line.now start), length-drop start c.args.line.now)
