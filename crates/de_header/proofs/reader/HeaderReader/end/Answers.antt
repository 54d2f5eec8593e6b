use Rattle.std.proofs.Common.{[], ap, ◌∙◌}
use Rattle.de_header.specs.Reader.{says}
use Rattle.de_header.specs.declared.state.State.{State}
use Rattle.de_header.proofs.Ending.{meets_rules}
use Rattle.de_header.proofs.reader.HeaderReader.end.Goals as goal

pub returns-clause-rules : goal.returns-clause-rules
returns-clause-rules c = λ lines is.
    meets_rules c.args.line (says 0 c.self.inside.state []) c.header_at_end.result lines c.header_at_end.ensures.end
    (ap (λ (state : State). says 0 state []) c.self.view_is ∙ is)
