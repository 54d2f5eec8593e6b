use Rattle.std.proofs.Common.{ap, subst, ◌∙◌, Ok, Err}
use Rattle.de_blocks.specs.Reader.{Progress, Takes}
use Rattle.spec_files.specs.declared.errors.ReadError.TheVariants as errors
use Rattle.de_blocks.proofs.Steps.{at, fits_after, took, took_bad}
use Rattle.de_blocks.proofs.reader.BlockReader.continue_block.Goals as goal

pub invariant_of-self : goal.invariant_of-self
invariant_of-self c =
    fits_after c.self.inside.block.accepted c.read_line_and_accept.new.block.accepted c.self.inside.block.numbers c.read_line_and_accept.new.block.numbers c.args.line.now c.self.inside.place
    c.in-Ok.place c.read_line_and_accept.result c.self.invariant c.in-Ok.is c.read_line_and_accept.ensures

pub returns-in-Ok : goal.returns-in-Ok
returns-in-Ok c =
    subst (λ (p : Progress). Takes p c.args.line.now (Ok tt) (at c.read_line_and_accept.new.block.accepted c.read_line_and_accept.new.block.numbers c.in-Ok.place)) c.self.view_is
    (took c.self.inside.block.accepted c.read_line_and_accept.new.block.accepted c.self.inside.block.numbers c.read_line_and_accept.new.block.numbers c.args.line.now c.self.inside.place c.in-Ok.place
    c.read_line_and_accept.result (ap (λ (p : Progress). p.place) c.self.view_is ∙ c.requires) c.self.invariant c.in-Ok.is c.read_line_and_accept.ensures)

pub returns-in-Err-Fault : goal.returns-in-Err-Fault
returns-in-Err-Fault c =
    rw c.keep_fault.ensures.result
    (subst (λ (p : Progress). Takes p c.args.line.now (Err (errors.Fault c.in-Err-Fault.fault)) c.keep_fault.new.self) c.self.view_is
    (took_bad c.self.inside.block.accepted c.self.inside.block.numbers c.read_line_and_accept.new.block.numbers c.read_line_and_accept.new.block.accepted c.self.inside.place c.keep_fault.new.self c.args.line.now
    c.in-Err-Fault.field-0 c.in-Err-Fault.fault (ap (λ (p : Progress). p.place) c.self.view_is ∙ c.requires) c.self.invariant
    c.in-Err-Fault.field-0-is c.in-Err-Fault.ensures c.keep_fault.ensures.refused))
