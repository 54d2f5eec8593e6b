use Rattle.std.proofs.Common.{refl}
use Rattle.spec_trees.specs.declared.tree.Mark.TheVariants as M
use Rattle.spec_trees.specs.declared.tree.Verdict.TheVariants as V
use Rattle.halving.proofs.Counting.{is_counted, is_too_much}
use Rattle.halving.proofs.count.+count_one.Goals as goal

pub returns-in-Clear-clause-count : goal.returns-in-Clear-clause-count
returns-in-Clear-clause-count g t c =
    is_counted (g.J.Judge.rules c.args.judge.now) c.rules_are_sound.ensures c.args.root c.requires V.Clear M.Clear c.in-Clear.ensures refl c.count_of_one_leaf.result c.count_of_one_leaf.ensures.count

pub returns-in-Clear-clause-none : goal.returns-in-Clear-clause-none
returns-in-Clear-clause-none g t c =
    is_too_much (g.J.Judge.rules c.args.judge.now) c.rules_are_sound.ensures c.args.root c.requires V.Clear M.Clear c.in-Clear.ensures refl c.count_of_one_leaf.result c.args.limit c.count_of_one_leaf.ensures.none

pub returns-in-One-clause-count : goal.returns-in-One-clause-count
returns-in-One-clause-count g t c =
    is_counted (g.J.Judge.rules c.args.judge.now) c.rules_are_sound.ensures c.args.root c.requires (V.One c.in-One.field-0) (M.One c.in-One.field-0) c.in-One.ensures refl c.count_of_one_leaf-in-One.result c.count_of_one_leaf-in-One.ensures.count

pub returns-in-One-clause-none : goal.returns-in-One-clause-none
returns-in-One-clause-none g t c =
    is_too_much (g.J.Judge.rules c.args.judge.now) c.rules_are_sound.ensures c.args.root c.requires (V.One c.in-One.field-0) (M.One c.in-One.field-0) c.in-One.ensures refl c.count_of_one_leaf-in-One.result c.args.limit c.count_of_one_leaf-in-One.ensures.none

pub returns-in-Undecided-clause-count : goal.returns-in-Undecided-clause-count
returns-in-Undecided-clause-count g t c =
    is_counted (g.J.Judge.rules c.args.judge.now) c.rules_are_sound.ensures c.args.root c.requires V.Undecided M.Undecided c.in-Undecided.ensures refl c.count_of_one_leaf-in-Undecided.result c.count_of_one_leaf-in-Undecided.ensures.count

pub returns-in-Undecided-clause-none : goal.returns-in-Undecided-clause-none
returns-in-Undecided-clause-none g t c =
    is_too_much (g.J.Judge.rules c.args.judge.now) c.rules_are_sound.ensures c.args.root c.requires V.Undecided M.Undecided c.in-Undecided.ensures refl c.count_of_one_leaf-in-Undecided.result c.args.limit c.count_of_one_leaf-in-Undecided.ensures.none
