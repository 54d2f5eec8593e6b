use Rattle.std.proofs.Common.{◌≡◌, List, sym, ap, ◌∙◌, subst}
use Rattle.std.proofs.lemmas.Result.{IfOk-weaker}
use Rattle.spec_trees.specs.declared.tree.Leaf.{Leaf}
use Rattle.spec_trees.specs.Tree.{Covers}
use Rattle.spec_trees.proofs.Covering.{leaves_cover}
use Rattle.halving.specs.Shares.{leaves_of}
use Rattle.halving.proofs.shares.run_shares.Goals as goal

pub returns-clause-cover : goal.returns-clause-cover
returns-clause-cover g c =
    let cover = leaves_cover _ c.rules_are_sound.ensures c.args.root c.requires.valid in
    let t = g.J.Judge.rules c.args.judge.now in
    let P : List Leaf → Type 0 = λ ls. Covers c.args.root.a ls c.args.root.b in
    IfOk-weaker c.walk_shares.result (λ found. found.items ≡ leaves_of t c.deref.result.now) (λ found. P found.items)
    (λ found e. subst P (sym (e ∙ (ap (leaves_of t) c.deref.ensures.value ∙ c.in-Ok.ensures.leaves))) cover) c.walk_shares.ensures.leaves
