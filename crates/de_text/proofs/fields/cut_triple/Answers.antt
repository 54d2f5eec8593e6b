use Rattle.std.proofs.Common.{◌+◌, ◌∷◌, ℕ, List, ap, sym, ◌∙◌}
use Rattle.std.proofs.lemmas.List.{take_rest}
use Rattle.spec_text.specs.Lines.{lines}
use Rattle.de_text.proofs.Triples.{cut_lines, cut_short, some_triple}
use Rattle.de_text.proofs.fields.cut_triple.Goals as goal

pub returns-clause-lines : goal.returns-clause-lines
returns-clause-lines c =
    let text = c.args.text.now in
    let end = c.in_ok-end.end in
    let line = c.without_carriage_return-bytes.result.now in
    cut_lines text line end c.without_carriage_return-bytes.ensures.prefix c.without_carriage_return-bytes.ensures.line c.in_ok-end.ensures.within c.in_ok-end.ensures.at
    c.in_ok-end.ensures.between c.in_ok-triple.ensures.inner c.in_ok-triple.ensures.long
    ∙ ap (λ (l : List ℕ). line ∷ lines l) (sym (take_rest text (end + 1)))

pub returns-clause-some : goal.returns-clause-some
returns-clause-some c = some_triple _ _ c.in_ok-triple.ensures.triple

pub returns-clause-short : goal.returns-clause-short
returns-clause-short c =
    cut_short c.args.text.now c.without_carriage_return-bytes.result.now c.in_ok-end.end c.without_carriage_return-bytes.ensures.prefix c.in_ok-end.ensures.near
