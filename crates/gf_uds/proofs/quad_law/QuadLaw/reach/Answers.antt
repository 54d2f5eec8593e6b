use Rattle.std.proofs.Common.{◌≡◌, ◌∙◌, rules}
use Rattle.std.proofs.lemmas.Int.{to_z-of_z}
use mir.Syntax.{w128}
use mir.Val.{SFits}
use Rattle.spec_scalars.specs.Quads.{quad_reach}
use Rattle.gf_uds.proofs.quad_law.QuadLaw.reach.Goals as goal

pub returns-then-a-b : goal.returns-then-a-b
returns-then-a-b c =
    let k = c.args.self.now in
    let a = c.ranges.a in
    let b = c.ranges.b in
    let f1 : SFits w128 c.from-a.result = record { sfits = c.from-a.type_inv } in
    let f2 : SFits w128 c.from-b.result = record { sfits = c.from-b.type_inv } in
    let first : c.from-a.result ≡ c.args.a = search rules in
    let last : c.from-b.result ≡ c.args.b = search rules in
    let wide : c.reach_of_span.result ≡ quad_reach k c.from-a.result c.from-b.result = simp to_z-of_z at c.reach_of_span.ensures in
    wide ∙ (λ i. quad_reach k (first i) (last i))
