use Rattle.std.proofs.Common.{◌≡◌, drop, sym, ◌∙◌, ap, arith}
use Rattle.std.specs.Prelude.{slice_get}
use Rattle.std.proofs.lemmas.List.{drop-drop}
use Rattle.std.specs.Option.{option_copied}
use Rattle.spec_text.specs.Lines.{tokens}
use Rattle.de_text.proofs.TokenPlaces.{get_first, get_none}
use Rattle.de_text.proofs.tokens.token_at.Goals as goal

pub returns-in_err-after : goal.returns-in_err-after
returns-in_err-after c =
    ap option_copied c.from_residual.ensures
    ∙ sym (get_none (tokens c.args.line.now) _ c.loop-passed.passed c.args.i c.loop-passed.invariant c.in_err-after.ensures.blank (omega arith))

pub returns-in_err-first : goal.returns-in_err-first
returns-in_err-first c =
    ap option_copied c.from_residual-in_err-first.ensures
    ∙ sym (get_none (tokens c.args.line.now) _ c.loop-passed.passed c.args.i c.loop-passed.invariant c.in_err-first.ensures.blank (omega arith))

pub returns : goal.returns
returns c =
    let here : c.loop-passed.passed ≡ c.args.i = omega arith in
    sym (ap (slice_get (tokens c.args.line.now)) (sym here)
    ∙ get_first (tokens c.args.line.now) _ c.loop-passed.passed (c.loop-passed.invariant ∙ c.in_ok-first.ensures.token))

pub loop-passed-preserved : goal.loop-passed-preserved
loop-passed-preserved c =
    let all = tokens c.args.line.now in
    sym (drop-drop 1 c.loop-passed.passed all) ∙ ap (drop 1) (c.loop-passed.invariant ∙ c.in_ok-after.ensures.token)
