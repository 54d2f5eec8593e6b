use Rattle.std.proofs.Common.{◌≡◌, ℕ, ◌+◌, ◌<◌, false, List, [], ◌∷◌, get_or, sym, ap, ◌∙◌, arith}
use Rattle.std.proofs.lemmas.List.{take_rest, get_or_default}
use Rattle.spec_text.specs.Lines.{is_line_feed, lines}
use Rattle.spec_text.proofs.LineLemmas.{line_at, last_line}
use Rattle.de_text.proofs.Fails.{fails}
use Rattle.de_text.proofs.lines.cut_line.Goals as goal

pub returns-in-Some-clause-lines : goal.returns-in-Some-clause-lines
returns-in-Some-clause-lines c =
    let text = c.args.text.now in
    let end = c.in-Some.end in
    let before : (k : ℕ) → k < end → is_line_feed (get_or text k 0) ≡ false = λ k h. fails _ (c.in-Some.ensures.0.before k (omega arith) h) in
    line_at text end c.in-Some.ensures.0.high before c.in-Some.ensures.1
    ∙ (λ i. sym c.without_carriage_return.ensures.line i ∷ lines (sym (take_rest text (end + 1)) i))

pub returns-in-None-clause-lines : goal.returns-in-None-clause-lines
returns-in-None-clause-lines c =
    let text = c.args.text.now in
    last_line text (λ k d h. rw (get_or_default text k d 0 h) (fails _ (c.in-None.ensures k (omega arith) h))) c.requires
    ∙ ap (λ (line : List ℕ). line ∷ []) (sym c.without_carriage_return-in-None.ensures.line)
