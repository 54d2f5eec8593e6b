use Rattle.std.proofs.Common.{◌≡◌, ◌<◌, ◌++◌, length, sym, ap, ◌∙◌, subst}
use Rattle.std.proofs.lemmas.Result.{on_ok_weaker}
use Rattle.std.proofs.lemmas.List.Elements.{All-get_or}
use Rattle.std.specs.List.{insert}
use Rattle.spec_trees.proofs.Leaves.{leaves_split}
use Rattle.spec_trees.specs.Tree.{leaves}
use Rattle.halving.specs.Shares.{IsJudged, AreJudged, leaves_of, split_width}
use Rattle.halving.proofs.Dealing.{parted, parted_leaves, parted_judged, parted_length, counts_split}
use Rattle.halving.proofs.shares.cut_share.Goals as goal

-- the shares afterwards, where there was memory for both parts
now_parted : (g : _) (c : goal.After-insert_share-2 g) → c.insert_share-2.new.shares.items ≡ insert c.insert_share.new.shares.items c.args.place c.judged_share-2.result
    → c.insert_share-2.new.shares.items ≡ parted c.args.shares.now.items c.args.place c.judged_share-2.result c.judged_share.result
now_parted g c last =
    last
    ∙ ap (λ xs. insert xs c.args.place c.judged_share-2.result)
    (c.in_ok-insert_share.ensures.ok ∙ ap (λ xs. insert xs c.args.place c.judged_share.result) c.remove-share.ensures.items)

pub returns-clause-judged : goal.returns-clause-judged
returns-clause-judged g c =
    on_ok_weaker _ (λ last. subst (AreJudged (g.J.Judge.rules c.args.judge.now)) (sym (now_parted g c last))
    (parted_judged _ c.args.shares.now.items c.args.place c.judged_share-2.result c.judged_share.result c.requires.judged c.judged_share-2.ensures.judged c.judged_share.ensures.judged))
    c.insert_share-2.ensures.ok

pub returns-clause-leaves : goal.returns-clause-leaves
returns-clause-leaves g c =
    let t = g.J.Judge.rules c.args.judge.now in
    let is = All-get_or (IsJudged t) c.args.shares.now.items c.args.place c.remove-share.result c.requires.widest.inside c.requires.judged in
    let old = subst (IsJudged t) (sym c.remove-share.ensures.value) is in
    let split = sym old.verdict ∙ counts_split _ _ (subst (λ s. 0 < split_width s) (sym c.remove-share.ensures.value) (c.requires.widest.split c.remove-share.result)) in
    let whole = leaves_split t c.rules_are_sound.ensures c.remove-share.result.node old.valid split in
    let left = ap (λ p. p.0) (sym c.cut.ensures.parts) ∙ sym c.judged_share-2.ensures.node in
    let right = ap (λ p. p.1) (sym c.cut.ensures.parts) ∙ sym c.judged_share.ensures.node in
    let parts = whole ∙ (λ i. leaves t (left i) ++ leaves t (right i)) in
    on_ok_weaker _ (λ last. ap (leaves_of t) (now_parted g c last)
    ∙ parted_leaves t c.args.shares.now.items c.args.place c.remove-share.result c.judged_share-2.result c.judged_share.result c.requires.widest.inside c.remove-share.ensures.value parts)
    c.insert_share-2.ensures.ok

pub returns-clause-length : goal.returns-clause-length
returns-clause-length g c =
    on_ok_weaker _ (λ last. ap length (now_parted g c last) ∙ parted_length c.args.shares.now.items c.args.place c.judged_share-2.result c.judged_share.result c.requires.widest.inside)
    c.insert_share-2.ensures.ok
