use Rattle.std.proofs.Common.{◌∷◌, sym, ◌∙◌, ap}
use Rattle.spec_files.specs.FileLines.{line_of}
use Rattle.de_blocks.specs.Reader.{Progress}
use Rattle.de_blocks.proofs.Steps.{stays, tells}
use Rattle.de_blocks.proofs.reader.BlockReader.line.Goals as goal

pub returns-in-Refused-clause-says : goal.returns-in-Refused-clause-says
returns-in-Refused-clause-says c = λ known file rest.
    stays c.args.self.now c.in-Refused.fault file rest (line_of file c.args.line.now ∷ rest) (sym (ap (λ (p : Progress). p.place) c.self.view_is) ∙ c.in-Refused.is)

pub returns-in-Refused-clause-answer : goal.returns-in-Refused-clause-answer
returns-in-Refused-clause-answer c = λ known. tells c.args.self.now c.in-Refused.fault (sym (ap (λ (p : Progress). p.place) c.self.view_is) ∙ c.in-Refused.is)
