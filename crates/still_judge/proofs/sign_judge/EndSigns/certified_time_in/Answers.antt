use Rattle.std.proofs.Common.{rules, w64}
use Rattle.std.proofs.lemmas.Int.{to_z-of_z}
use mir.Val.{SFits}
use Rattle.still_judge.proofs.EndSigns.{certified_in}
use Rattle.still_judge.proofs.sign_judge.EndSigns.certified_time_in.Goals as goal

pub returns-then-time-node : goal.returns-then-time-node
returns-then-time-node c =
    let t = c.index-time.result.now in
    let fits : SFits w64 t = search rules in
    let from : SFits w64 c.args.node.a = search rules in
    let upto : SFits w64 c.args.node.b = search rules in
    certified_in c.args.self.now.search.now c.args.node _ t c.args.self.now.certified.items c.in-Some.place _ _ (to_z-of_z w64 t fits) (to_z-of_z w64 c.args.node.a from) (to_z-of_z w64 c.args.node.b upto)
    c.if-node-time.true c.if-time-node.true c.index-time.ensures (search rules) c.args.self.now.conditions
