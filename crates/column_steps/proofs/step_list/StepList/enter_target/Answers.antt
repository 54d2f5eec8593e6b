use Rattle.std.proofs.Common.{◌∙◌, ap, sym}
use Rattle.column_steps.specs.Listed.{Listed}
use Rattle.column_steps.proofs.step_list.StepList.enter_target.Goals as goal

pub enter_along_files-requires-clause-frame : goal.enter_along_files-requires-clause-frame
enter_along_files-requires-clause-frame c = ap (λ (l : Listed). l.sight.frame) (sym c.self.view_is) ∙ c.in-Eq.is

pub enter_along_ecliptic-requires-clause-frame : goal.enter_along_ecliptic-requires-clause-frame
enter_along_ecliptic-requires-clause-frame c = ap (λ (l : Listed). l.sight.frame) (sym c.self.view_is) ∙ c.in-Ecl.is
