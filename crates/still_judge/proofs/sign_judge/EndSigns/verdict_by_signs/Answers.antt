use Rattle.std.proofs.Common.{rules, w64}
use Rattle.std.proofs.lemmas.Int.{to_z-of_z}
use mir.Val.{SFits}
use Rattle.spec_bounds.specs.Steady.{sign_at}
use Rattle.still_judge.proofs.Cleared.{signs_told}
use Rattle.still_judge.proofs.EndSigns.{signs_at_ends}
use Rattle.still_judge.proofs.sign_judge.EndSigns.verdict_by_signs.Goals as goal

pub wide_verdict-requires : goal.wide_verdict-requires
wide_verdict-requires c =
    let s = c.args.self.now.search.now in
    let n = c.args.node in
    let told = signs_told s c.args.self.now.stills.now c.args.self.now.still in
    let from : SFits w64 n.a = search rules in
    let upto : SFits w64 n.b = search rules in
    signs_at_ends s n _ _ _ _ c.requires (to_z-of_z w64 n.a from) (to_z-of_z w64 n.b upto) (c.in-Some.ensures (sign_at s) told) (c.in-Some-sign_at.ensures (sign_at s) told)

pub one_tick_verdict-requires-clause-signs : goal.one_tick_verdict-requires-clause-signs
one_tick_verdict-requires-clause-signs c =
    let s = c.args.self.now.search.now in
    let n = c.args.node in
    let told = signs_told s c.args.self.now.stills.now c.args.self.now.still in
    let from : SFits w64 n.a = search rules in
    let upto : SFits w64 n.b = search rules in
    signs_at_ends s n _ _ _ _ c.requires (to_z-of_z w64 n.a from) (to_z-of_z w64 n.b upto) (c.in-Some.ensures (sign_at s) told) (c.in-Some-sign_at.ensures (sign_at s) told)
