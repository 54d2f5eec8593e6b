use Rattle.std.proofs.Common.{sym, ap, subst}
use Rattle.spec_trees.specs.Tree.{IsValid, Rules}
use Rattle.still_judge.proofs.Manners.{sound_in}
use Rattle.still_judge.proofs.span_judge.StillJudge.new.Goals as goal

pub invariant_of-result : goal.invariant_of-result
invariant_of-result g c = record {
  still = c.requires.still;
  sound = sound_in c.args.manner c.args.search.now c.args.stills.now c.is_search.ensures;
  valid = λ n valid. subst (λ (t : Rules). IsValid t n) (sym c.requires.rules) valid;
  verdicts = λ n. ap (λ (t : Rules). t.verdict n) c.requires.rules;
}
