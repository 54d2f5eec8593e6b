use Rattle.std.proofs.Common.{arith, length}
use Rattle.spec_steps.proofs.Terms.{kept_more, last_more, parts_more, steps_more}
use Rattle.spec_steps.proofs.step_laws.one_step_more.Goals as goal

pub returns-clause-made : goal.returns-clause-made
returns-clause-made c = λ ss s are step. steps_more ss s 0 (length ss) (omega arith) are step

pub returns-clause-kept : goal.returns-clause-kept
returns-clause-kept c = kept_more

pub returns-clause-last : goal.returns-clause-last
returns-clause-last c = last_more

pub returns-clause-parts : goal.returns-clause-parts
returns-clause-parts c = parts_more
