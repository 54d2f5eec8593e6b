use Rattle.std.proofs.Common.{◌≡◌, ◌∙◌, ◌||◌, ap, not, sym, true}
use Rattle.spec_events.specs.Verdict.{is_one_way}
use Rattle.spec_scalars.specs.Searches.{step_of}
use Rattle.gf_hooks.specs.Held.{steps_interval}
use Rattle.gf_uds.proofs.verdicts.is_decided_by_ends.Goals as goal

pub returns-else-not-is_wider_than_one : goal.returns-else-not-is_wider_than_one
returns-else-not-is_wider_than_one c =
    let test = c.if-not-is_wider_than_one.false in
    let wide : c.is_wider_than_one.result ≡ true = cc in
    c.is_one_way.ensures ∙ (λ i. is_one_way (steps_interval (c.step_bounds.ensures i)))
    ∙ ap (λ answer. not answer || is_one_way (step_of c.args.whole)) (sym wide ∙ c.is_wider_than_one.ensures)
