use Rattle.std.proofs.Common.{◌≡◌, ◌∙◌, ap, w64}
use Rattle.std.proofs.lemmas.Int.{to_z-of_z}
use mir.Val.{SFits}
use Rattle.spec_bodies.specs.Views.{View}
use Rattle.spec_searches.specs.Found.{rules}
use Rattle.event_judge.specs.Moments.{moment}
use Rattle.event_judge.proofs.Near.{a_fits, b_fits, whole_fits}
use Rattle.event_judge.proofs.valid_node.ValidNode.whole_snapshot.Goals as goal

pub at-requires : goal.at-requires
at-requires c = whole_fits c.args.self.search.now c.args.self.sound c.args.self.node c.args.self.valid c.states-states.result.now c.states-states.ensures c.columns-columns.ensures.view c.requires

pub returns : goal.returns
returns c =
    let s = c.args.self in
    let a : SFits w64 s.node.a = a_fits (rules s.search.now) s.sound s.node s.valid in
    let b : SFits w64 s.node.b = b_fits (rules s.search.now) s.sound s.node s.valid in
    let is : c.at.result ≡ moment c.states-states.result.now s.node.a s.node.b = simp to_z-of_z at c.at.ensures in
    is ∙ ap (λ (v : View). moment v s.node.a s.node.b) c.states-states.ensures
