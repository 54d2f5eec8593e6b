use Rattle.std.proofs.Common.{◌≡◌, ℤ, sym, subst, arith, rules}
use Rattle.std.proofs.lemmas.Int.{ints}
use Rattle.spec_trees.specs.declared.cuts.CutRule.TheVariants.{Half}
use Rattle.spec_trees.specs.Cuts.{cut_of}
use Rattle.spec_trees.specs.CutExamples.{parts_at}
use Rattle.spec_trees.specs.Tree.{IsValid}
use Rattle.pool_tests.specs.Judges.{long_crossing, long_crossing_is_sound}
use Rattle.pool_tests.proofs.judges.CrossingJudge.cut.Goals as goal

pub rule_cut-requires : goal.rule_cut-requires
rule_cut-requires c =
    let cut = long_crossing_is_sound.cut c.args.node c.requires.valid c.requires.split in record {
      wide = omega (arith, ints, cut.left.inside, cut.right.inside);
      low = omega (arith, ints, c.requires.valid.from);
      high = omega (arith, ints, c.requires.valid.to);
    }

parts : (c : goal.After-parts_at) → c.parts_at.result ≡ long_crossing.parts c.args.node
parts c =
    let n = c.args.node in
    let time : c.rule_cut.result ≡ cut_of Half n.a n.b = search rules in
    let e : c.parts_at.result ≡ parts_at c.rule_cut.result n = search rules in
    subst (λ (t : ℤ). c.parts_at.result ≡ parts_at t n) time e

pub returns-clause-parts : goal.returns-clause-parts
returns-clause-parts c = parts c

pub returns-clause-left : goal.returns-clause-left
returns-clause-left c = subst (λ p. IsValid long_crossing p.0) (sym (parts c)) (long_crossing_is_sound.cut c.args.node c.requires.valid c.requires.split).left

pub returns-clause-right : goal.returns-clause-right
returns-clause-right c = subst (λ p. IsValid long_crossing p.1) (sym (parts c)) (long_crossing_is_sound.cut c.args.node c.requires.valid c.requires.split).right
