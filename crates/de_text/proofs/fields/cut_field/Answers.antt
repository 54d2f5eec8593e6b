use Rattle.std.proofs.Common.{◌-◌, ◌∷◌, take, drop, sym, ap, ◌∙◌, arith, List, ℕ}
use Rattle.std.proofs.lemmas.List.{take_rest}
use Rattle.spec_text.specs.Lines.{tokens}
use Rattle.de_text.proofs.Numbers.{field_feedless, number_first}
use Rattle.de_text.proofs.fields.cut_field.Goals as goal

pub returns-clause-number : goal.returns-clause-number
returns-clause-number c = λ ends.
    let line = c.args.line.now in
    let start = c.in_ok-front.front.start in
    let word : List ℕ = take (26 - start) (drop start line) in (
      word,
      number_first line start _ c.in_ok-front.ensures.start (omega (arith, c.if-line-lt-FIELD.false)) c.in_ok-front.ensures.before ends c.in_ok-d.ensures
          ∙ ap (λ (l : List ℕ). word ∷ tokens l) (sym (take_rest line 26)),
      c.in_ok-d.ensures,
    )

pub returns-clause-inner : goal.returns-clause-inner
returns-clause-inner c =
    field_feedless c.args.line.now c.in_ok-front.front.start _ c.in_ok-front.ensures.start (omega (arith, c.if-line-lt-FIELD.false)) c.in_ok-front.ensures.before c.in_ok-d.ensures

pub returns-clause-front : goal.returns-clause-front
returns-clause-front c = c.in_ok-front.ensures.before 0 c.in_ok-front.ensures.some

pub returns-clause-rest : goal.returns-clause-rest
returns-clause-rest c = take_rest c.args.line.now 26
