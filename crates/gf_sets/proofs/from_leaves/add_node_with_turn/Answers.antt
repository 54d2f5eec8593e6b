use Rattle.std.proofs.Common.{ℤ, sym, subst}
use Rattle.std.proofs.lemmas.Result.{on_ok_weaker}
use Rattle.spec_intervals.specs.declared.signs.Sign.TheVariants.{Open}
use Rattle.spec_sets.specs.Signs.{sign_after}
use Rattle.spec_sets.specs.Spans.{IsAfterAll}
use Rattle.gf_sets.proofs.Nodes.{before_end, end_is, maybe_before_end, ordered, sure_before_end}
use Rattle.gf_sets.proofs.Pairs.{run_as_read, turn_added}
use Rattle.gf_sets.proofs.from_leaves.add_node_with_turn.Goals as goal

pub add_with_sign-requires-2-clause-after_sure : goal.add_with_sign-requires-2-clause-after_sure
add_with_sign-requires-2-clause-after_sure c =
    let n = c.args.node.now in
    let surely = c.args.pair.now.sure in
    let perhaps = c.args.pair.now.maybe in
    subst (λ (z : ℤ). IsAfterAll c.add_with_sign.new.self.sure z) (sym (end_is n surely perhaps c.requires))
    (sure_before_end n surely perhaps c.requires Open c.add_with_sign.new.self.sure c.add_with_sign.new.self.maybe c.in_ok-add_with_sign.ensures)

pub add_with_sign-requires-2-clause-after_maybe : goal.add_with_sign-requires-2-clause-after_maybe
add_with_sign-requires-2-clause-after_maybe c =
    subst (λ (z : ℤ). IsAfterAll c.add_with_sign.new.self.maybe z) (sym (end_is c.args.node.now c.args.pair.now.sure c.args.pair.now.maybe c.requires))
    (maybe_before_end c.args.node.now c.args.pair.now.sure c.args.pair.now.maybe c.requires Open c.add_with_sign.new.self.sure c.add_with_sign.new.self.maybe c.in_ok-add_with_sign.ensures)

pub returns : goal.returns
returns c =
    let n = c.args.node.now in
    let surely = c.args.pair.now.sure in
    let perhaps = c.args.pair.now.maybe in
    let s = c.add_with_sign.new.self.sure in
    let m = c.add_with_sign.new.self.maybe in
    let last = end_is n surely perhaps c.requires in
    on_ok_weaker c.add_with_sign-2.result
    (λ at. turn_added (sign_after c.args.turn) _ n.b surely perhaps s m c.add_with_sign-2.new.self.sure c.add_with_sign-2.new.self.maybe
    (ordered n surely perhaps c.requires) (before_end n surely perhaps c.requires Open s m c.in_ok-add_with_sign.ensures)
    (run_as_read c.sign_after.result (sign_after c.args.turn) _ _ n.b n.b s m c.add_with_sign-2.new.self.sure c.add_with_sign-2.new.self.maybe
    c.sign_after.ensures last last at))
    c.add_with_sign-2.ensures
