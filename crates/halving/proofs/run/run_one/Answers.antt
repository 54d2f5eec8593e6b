use Rattle.std.proofs.Common.{◌≡◌, List, ◌++◌, length, sym, ap, ◌∙◌, subst, arith, length-append}
use Rattle.spec_trees.specs.declared.tree.Leaf.{Leaf}
use Rattle.spec_trees.specs.Tree.{mark_of, Covers}
use Rattle.halving.specs.Pending.{pending}
use Rattle.spec_trees.proofs.Covering.{leaves_cover}
use Rattle.halving.proofs.Stacks.{popped, settles, settle_falls, too_many, splits, split_valid, split_falls, all_found}
use Rattle.halving.proofs.run.run_one.Goals as goal

pub judge-requires : goal.judge-requires
judge-requires g c = (popped _ _ _ _ c.in-Some.ensures.items c.loop-node.invariant.valid).1

pub cut-requires-clause-valid : goal.cut-requires-clause-valid
cut-requires-clause-valid g c = (popped _ _ _ _ c.in-Some.ensures.items c.loop-node.invariant.valid).1

pub returns-then-len-limit-clause-too_many : goal.returns-then-len-limit-clause-too_many
returns-then-len-limit-clause-too_many g c =
    let is = ap mark_of (sym c.judge.ensures) ∙ sym c.in-Some-mark.ensures in
    let more = too_many _ c.rules_are_sound.ensures _ _ _ _ _ _ c.in-Some.ensures.items c.loop-node.invariant.valid is c.loop-node.invariant.joined in
    λ _. omega (arith, more)

pub loop-node-smaller-in-Continue-branch-2 : goal.loop-node-smaller-in-Continue-branch-2
loop-node-smaller-in-Continue-branch-2 g c = settle_falls _ _ _ _ c.in-Some.ensures.items c.loop-node.invariant.valid

pub loop-node-preserved-in-Continue-branch-2 : goal.loop-node-preserved-in-Continue-branch-2
loop-node-preserved-in-Continue-branch-2 g c =
    let is = ap mark_of (sym c.judge.ensures) ∙ sym c.in-Some-mark.ensures in
    let added = c.in_ok-append-in-Some-mark.ensures.ok in
    record {
      valid = (popped _ _ _ _ c.in-Some.ensures.items c.loop-node.invariant.valid).0;
      joined =
          settles _ c.rules_are_sound.ensures _ _ _ _ _ _ c.in-Some.ensures.items c.loop-node.invariant.valid is c.loop-node.invariant.joined
          ∙ ap (λ l. l ++ pending (g.J.Judge.rules c.args.judge.now) c.pop.new.self.items) (sym added);
      few = rw added (omega (arith, length-append {A = Leaf}));
    }

pub loop-node-smaller : goal.loop-node-smaller
loop-node-smaller g c =
    let is = ap mark_of (sym c.judge.ensures) ∙ sym c.in-None.ensures in
    rw (c.in_ok-append-in-None-2.ensures.ok, c.in_ok-append-in-None.ensures.ok, c.cut.ensures.parts)
    (split_falls _ c.rules_are_sound.ensures _ _ _ c.in-Some.ensures.items c.loop-node.invariant.valid is)

pub loop-node-preserved : goal.loop-node-preserved
loop-node-preserved g c =
    let is = ap mark_of (sym c.judge.ensures) ∙ sym c.in-None.ensures in
    rw (c.in_ok-append-in-None-2.ensures.ok, c.in_ok-append-in-None.ensures.ok, c.cut.ensures.parts) (record {
      valid = split_valid _ c.rules_are_sound.ensures _ _ _ c.in-Some.ensures.items c.loop-node.invariant.valid is;
      joined = splits _ c.rules_are_sound.ensures _ _ _ _ _ c.in-Some.ensures.items c.loop-node.invariant.valid is c.loop-node.invariant.joined;
      few = c.loop-node.invariant.few;
    })

pub returns-clause-cover : goal.returns-clause-cover
returns-clause-cover g c =
    let cover = leaves_cover _ c.rules_are_sound.ensures c.args.root c.requires in
    let P : List Leaf → Type 0 = λ l. Covers c.args.root.a l c.args.root.b in
    let none : length c.loop-node.waiting.items ≡ 0 = omega (arith, c.in_default.ensures.cases.0) in
    subst P (all_found (g.J.Judge.rules c.args.judge.now) _ _ c.loop-node.waiting.items none c.loop-node.invariant.joined) cover
