use Rattle.std.proofs.Common.{w64}
use Rattle.std.proofs.lemmas.Int.{to_z-of_z}
use Rattle.event_models.proofs.SignTerms.{function_told_as}
use Rattle.event_models.proofs.by_steps.model_over.Goals as goal

pub returns : goal.returns
returns c =
    let v = c.args.states.now in
    let first = to_z-of_z w64 c.args.c c.ranges.c in
    let last = to_z-of_z w64 c.args.d c.ranges.d in
    function_told_as v c.args.c c.args.d c.args.listed.steps.now c.args.listed.place
    (λ e t after before has. c.points.ensures v e c.args.c c.args.d t c.requires.fits after before has)
    (λ e t. c.terms_mean_their_formulas.ensures.points v e c.args.c t)
    c.step_model.result _ _ first last c.step_model.ensures
