use Rattle.std.proofs.Common.{◌≡◌, ◌∙◌, sym, ap}
use Rattle.spec_intervals.specs.Enclosure.{middle}
use Rattle.spec_intervals.specs.Signs.{sign_of}
use Rattle.spec_bodies.specs.Views.{state_enclosure}
use Rattle.spec_searches.specs.Search.{Search, enclosure_over}
use Rattle.spec_bounds.specs.Steady.{sign_at}
use Rattle.event_judge.proofs.memory.Memory.keep_middle_sign.Goals as goal

pub keep_sign-requires : goal.keep_sign-requires
keep_sign-requires g c =
    let n = c.args.node in
    let s = n.search.now in
    let told : sign_of (enclosure_over (state_enclosure s.view) s.event.function n.node.a n.node.b).mid ≡ sign_at s (middle n.node.a n.node.b) = c.middles_are_told.ensures.of_searches s n.node c.is_search.ensures n.valid c.requires.uncrossed in
    let mine : c.sign.result ≡ sign_of (enclosure_over (state_enclosure s.view) s.event.function n.node.a n.node.b).mid = c.sign.ensures ∙ λ i. sign_of (c.requires.over i).mid in
    ap (sign_at g.N.Naming.search) c.middle.ensures.time ∙ (sym (ap (λ (s : Search). sign_at s (middle n.node.a n.node.b)) c.requires.named) ∙ (sym told ∙ sym mine))
