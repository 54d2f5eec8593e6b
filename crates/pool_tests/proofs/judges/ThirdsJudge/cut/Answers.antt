use Rattle.std.proofs.Common.{◌≡◌, pos, int_div, rules, ◌+ℤ◌, ◌-ℤ◌, sym, ap, ◌∙◌, subst}
use Rattle.spec_trees.specs.CutExamples.{parts_at}
use Rattle.spec_trees.specs.Tree.{IsValid}
use Rattle.pool_tests.specs.Judges.{third_is, thirds, thirds_are_sound, thirds_wide}
use Rattle.pool_tests.proofs.judges.ThirdsJudge.cut.Goals as goal

parts : (c : goal.After-parts_at) → c.parts_at.result ≡ thirds.parts c.args.node
parts c =
    let n = c.args.node in
    let third = third_is (n.b -ℤ n.a) (thirds_wide n c.requires.split).0 in
    let wide = (thirds_wide n c.requires.split).0 in
    let e : c.parts_at.result ≡ parts_at (n.a +ℤ int_div (n.b -ℤ n.a) (pos 3)) n = search rules in
    e ∙ ap (λ w. parts_at (n.a +ℤ w) n) (sym third)

pub returns-clause-parts : goal.returns-clause-parts
returns-clause-parts c = parts c

pub returns-clause-left : goal.returns-clause-left
returns-clause-left c =
    subst (λ p. IsValid thirds p.0) (sym (parts c)) (thirds_are_sound.cut c.args.node c.requires.valid c.requires.split).left

pub returns-clause-right : goal.returns-clause-right
returns-clause-right c =
    subst (λ p. IsValid thirds p.1) (sym (parts c)) (thirds_are_sound.cut c.args.node c.requires.valid c.requires.split).right
