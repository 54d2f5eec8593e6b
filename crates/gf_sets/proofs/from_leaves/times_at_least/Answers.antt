use Rattle.std.proofs.Common.{◌∙◌, ap, sym, subst, w64, ℤ, ◌≤ℤ◌, get_or, arith}
use Rattle.std.proofs.lemmas.Int.{ints, to_z-of_z}
use Rattle.spec_sets.specs.Signs.{end_from}
use Rattle.spec_sets.specs.Spans.{earliest, latest}
use Rattle.spec_trees.proofs.Placing.{covers_forward}
use Rattle.gf_sets.specs.Walking.{IsWalked}
use Rattle.gf_sets.proofs.Leaves.{all_walked, filler, first_are, first_walked, here_after, here_next, here_upto, here_walked, none_before}
use Rattle.gf_sets.proofs.Pairs.{run_as_read}
use Rattle.gf_sets.proofs.from_leaves.times_at_least.Goals as goal

pub sign_at-requires : goal.sign_at-requires
sign_at-requires g c =
    let upto = covers_forward c.args.leaves.now c.args.from (end_from c.args.from c.args.leaves.now) c.requires.follow in
    subst (λ (z : ℤ). g.P.SignSource.fits c.args.signs.now z) (sym (to_z-of_z w64 c.args.from c.ranges.from))
    (c.requires.fits c.args.from (omega (arith, ints)) upto)

pub add_with_sign-requires-clause-early : goal.add_with_sign-requires-clause-early
add_with_sign-requires-clause-early g c =
    subst (λ (z : ℤ). earliest ≤ℤ z) (sym (to_z-of_z w64 c.args.from c.ranges.from)) c.requires.early

pub add_with_sign-requires-clause-after_sure : goal.add_with_sign-requires-clause-after_sure
add_with_sign-requires-clause-after_sure g c = none_before _ _ c.new.ensures

pub add_with_sign-requires-clause-after_maybe : goal.add_with_sign-requires-clause-after_maybe
add_with_sign-requires-clause-after_maybe g c = none_before _ _ c.new-2.ensures

pub add_with_sign-requires-clause-late : goal.add_with_sign-requires-clause-late
add_with_sign-requires-clause-late g c =
    let upto = covers_forward c.args.leaves.now c.args.from (end_from c.args.from c.args.leaves.now) c.requires.follow in
    let late = c.requires.late in
    subst (λ (z : ℤ). z ≤ℤ latest) (sym (to_z-of_z w64 c.args.from c.ranges.from)) (omega (arith, ints, upto, late))

pub loop-leaf-init : goal.loop-leaf-init
loop-leaf-init g c =
    let point = g.P.SignSource.sign c.args.signs.now in
    let from = to_z-of_z w64 c.args.from c.ranges.from in
    subst (λ (z : ℤ). IsWalked point z (end_from z c.args.leaves.now) c.args.leaves.now c.args.leaves.now c.add_with_sign.new.self.sure c.add_with_sign.new.self.maybe) (sym from)
    (first_walked point c.args.from c.args.leaves.now c.add_with_sign.new.self.sure c.add_with_sign.new.self.maybe c.requires.follow
    (first_are point c.args.from c.args.leaves.now c.sign_at.result c.new.result c.new-2.result c.add_with_sign.new.self.sure c.add_with_sign.new.self.maybe
    c.new.ensures c.new-2.ensures (c.sign_at.ensures ∙ ap point from)
    (run_as_read c.sign_at.result c.sign_at.result _ _ c.args.from c.args.from c.new.result c.new-2.result c.add_with_sign.new.self.sure c.add_with_sign.new.self.maybe
    (λ i. c.sign_at.result) from from c.in_ok-add_with_sign.ensures)))

pub add_leaf-requires-clause-next : goal.add_leaf-requires-clause-next
add_leaf-requires-clause-next g c =
    here_next (g.P.SignSource.sign c.args.signs.now) _ c.args.from (to_z-of_z w64 c.args.from c.ranges.from) c.args.leaves.now
    c.loop-leaf.leaf-index c.loop-leaf.pair.sure c.loop-leaf.pair.maybe c.loop-leaf.invariant c.loop-leaf-test.true c.requires.early c.requires.late

pub add_leaf-requires-clause-fits : goal.add_leaf-requires-clause-fits
add_leaf-requires-clause-fits g c =
    c.requires.fits (get_or c.args.leaves.now c.loop-leaf.leaf-index filler).node.b
    (here_after (g.P.SignSource.sign c.args.signs.now) _ c.args.from (to_z-of_z w64 c.args.from c.ranges.from) c.args.leaves.now
    c.loop-leaf.leaf-index c.loop-leaf.pair.sure c.loop-leaf.pair.maybe c.loop-leaf.invariant c.loop-leaf-test.true)
    (here_upto (g.P.SignSource.sign c.args.signs.now) _ c.args.from (to_z-of_z w64 c.args.from c.ranges.from) c.args.leaves.now
    c.loop-leaf.leaf-index c.loop-leaf.pair.sure c.loop-leaf.pair.maybe c.loop-leaf.invariant c.loop-leaf-test.true)

pub loop-leaf-preserved : goal.loop-leaf-preserved
loop-leaf-preserved g c =
    here_walked (g.P.SignSource.sign c.args.signs.now) _ c.args.from (to_z-of_z w64 c.args.from c.ranges.from) c.args.leaves.now
    c.loop-leaf.leaf-index c.loop-leaf.pair.sure c.loop-leaf.pair.maybe c.loop-leaf.invariant c.loop-leaf-test.true
    c.add_leaf.new.pair.sure c.add_leaf.new.pair.maybe c.in_ok-add_leaf.ensures

pub returns : goal.returns
returns g c =
    all_walked (g.P.SignSource.sign c.args.signs.now) _ c.args.from (to_z-of_z w64 c.args.from c.ranges.from) c.args.leaves.now
    c.loop-leaf.leaf-index c.loop-leaf.pair.sure c.loop-leaf.pair.maybe c.loop-leaf.invariant c.loop-leaf-test.false
