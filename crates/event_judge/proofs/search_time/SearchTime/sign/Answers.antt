use Rattle.std.proofs.Common.{◌≡◌, ◌∙◌, ap, w64}
use Rattle.std.proofs.lemmas.Int.{to_z-of_z}
use mir.Val.{SFits}
use Rattle.spec_intervals.specs.Enclosure.{Enclosure}
use Rattle.spec_intervals.specs.Signs.{sign_of}
use Rattle.spec_bodies.specs.Views.{state_enclosure}
use Rattle.spec_searches.specs.Event.{Event}
use Rattle.spec_searches.specs.Search.{enclosure_over}
use Rattle.event_judge.proofs.Near.{near_fits, passed_fits}
use Rattle.event_judge.proofs.search_time.SearchTime.sign.Goals as goal

pub enclosure-over-requires : goal.enclosure-over-requires
enclosure-over-requires c =
    let t = c.args.self in
    record { fits = passed_fits t.search.now t.time t.near t.from t.upto c.states-states.result.now c.states-states.ensures c.columns-columns.ensures.view }

pub returns : goal.returns
returns c =
    let t = c.args.self in
    let fits : SFits w64 t.time = near_fits t.time t.near in
    let function = c.function-function.ensures.function ∙ ap (λ (e : Event). e.function) c.event.ensures in
    let is : c.enclosure-over.result ≡ enclosure_over (state_enclosure c.states-states.result.now) c.function-function.result.now t.time t.time = simp to_z-of_z at c.enclosure-over.ensures in
    (c.sign.ensures ∙ ap (λ (e : Enclosure). sign_of e.range) is)
    ∙ λ i. sign_of (enclosure_over (state_enclosure (c.states-states.ensures i)) (function i) t.time t.time).range
