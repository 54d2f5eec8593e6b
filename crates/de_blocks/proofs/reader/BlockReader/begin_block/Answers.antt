use Rattle.std.proofs.Common.{◌≡◌, ap, subst, sym, ◌∙◌, Ok, Err, ℕ}
use Rattle.spec_ephemeris.specs.declared.header.Header.{Header}
use Rattle.spec_files.specs.BlockRules.{record_line}
use Rattle.spec_files.specs.Sections.{line_fault}
use Rattle.de_blocks.specs.Reader.{Progress, Takes}
use Rattle.spec_files.specs.declared.errors.ReadError.TheVariants as errors
use Rattle.de_blocks.specs.declared.state.Place.TheVariants.{Inside}
use Rattle.de_blocks.proofs.Steps.{at, takes_bad_record, takes_record}
use Rattle.de_blocks.proofs.reader.BlockReader.begin_block.Goals as goal

pub returns-in-Ok : goal.returns-in-Ok
returns-in-Ok c =
    let rule : record_line c.self.inside.block.accepted.header.ncoeff c.args.line.now.tokens ≡ Ok tt =
    ap (λ (h : Header). record_line h.ncoeff c.args.line.now.tokens) (sym c.header.ensures.same) ∙ sym c.check_record_line.ensures ∙ c.in-Ok.is in
    subst (λ (p : Progress). Takes p c.args.line.now (Ok tt) (at c.self.inside.block.accepted c.self.inside.block.numbers Inside)) c.self.view_is
    (takes_record c.self.inside.block.accepted c.self.inside.block.numbers c.self.inside.place c.args.line.now (ap (λ (p : Progress). p.place) c.self.view_is ∙ c.requires)
    c.self.invariant rule)

pub returns-in-Err : goal.returns-in-Err
returns-in-Err c =
    let rule : record_line c.self.inside.block.accepted.header.ncoeff c.args.line.now.tokens ≡ Err c.in-Err.broken =
    ap (λ (h : Header). record_line h.ncoeff c.args.line.now.tokens) (sym c.header.ensures.same) ∙ sym c.check_record_line.ensures ∙ c.in-Err.is in
    rw c.keep_fault.ensures.result
    (subst (λ (p : Progress). Takes p c.args.line.now (Err (errors.Fault c.at_line.result)) c.keep_fault.new.self) c.self.view_is
    (takes_bad_record c.self.inside.block.accepted c.self.inside.block.numbers c.self.inside.place c.keep_fault.new.self c.args.line.now c.in-Err.broken c.at_line.result
    (ap (λ (p : Progress). p.place) c.self.view_is ∙ c.requires) rule (c.at_line.ensures ∙ ap (λ (n : ℕ). line_fault n c.in-Err.broken) c.number.ensures) c.keep_fault.ensures.refused))
