use Rattle.std.proofs.Common.{◌≢◌, [], ◌∷◌, sym, subst}
use Rattle.std.specs.Prelude.{All}
use Rattle.spec_ephemeris.specs.declared.body.Body.{Body}
use Rattle.spec_bodies.specs.Views.{HasBody}
use Rattle.spec_kinds.proofs.Served.{apart, present}
use Rattle.gf_query.proofs.judges.states.Goals as goal

pub new-requires-clause-present : goal.new-requires-clause-present
new-requires-clause-present c =
    let ask = c.args.query.now.ask in
    let P : Body → Type 0 = λ second. All (HasBody c.args.ephemeris.now) (ask.observer ∷ ask.target ∷ second ∷ []) in
    subst P (sym c.unwrap_or-second.ensures) (present c.args.ephemeris.now ask c.requires.sound)

pub new-requires-clause-apart : goal.new-requires-clause-apart
new-requires-clause-apart c =
    let ask = c.args.query.now.ask in
    let P : Body → Type 0 = λ second. All (λ target. target ≢ ask.observer) (ask.target ∷ second ∷ []) in
    subst P (sym c.unwrap_or-second.ensures) (apart c.args.ephemeris.now ask c.requires.sound)
