use Rattle.std.proofs.Common.{◌≡◌, ◌∙◌, Ok, subst, sym}
use Rattle.std.proofs.lemmas.Result.{err_from_is_err_and}
use Rattle.de_header.specs.declared.answers.Step.TheVariants as steps
use Rattle.de_header.specs.Reader.{IsNotDone}
use Rattle.gf_files.specs.declared.reader.Reader.TheVariants as readers
use Rattle.gf_files.proofs.HeaderSays.{of_header_next}
use Rattle.gf_files.proofs.Readers.{header_moves, header_stops, header_took}
use Rattle.gf_files.proofs.reader.take_header_line.Goals as goal

pub returns-in-More : goal.returns-in-More
returns-in-More c =
    let more : c.line.result ≡ Ok steps.More = c.in_ok-line.was ∙ (λ i. Ok (c.in-More.is i)) in
    header_moves c.args.reader c.line.new.self c.args.line.now (c.line.ensures.not_done (subst IsNotDone (sym more) tt)) (c.line.ensures.more more)
    c.requires.of_header c.line.ensures.says (sym c.line.ensures.answer ∙ more)

pub begin_blocks-requires-clause-of_header : goal.begin_blocks-requires-clause-of_header
begin_blocks-requires-clause-of_header c = of_header_next c.args.reader c.line.new.self c.args.line.now c.requires.of_header c.line.ensures.says

pub returns-in-Done : goal.returns-in-Done
returns-in-Done c =
    c.begin_blocks.ensures (readers.Header c.args.reader) (header_took c.args.reader c.line.new.self c.args.line.now c.line.ensures.says)

pub returns-in_err-line : goal.returns-in_err-line
returns-in_err-line c =
    let given = err_from_is_err_and c.from_residual.result c.from_residual.ensures.1 in
    rw (given.1, given.2) (header_stops c.args.reader c.line.new.self c.args.line.now _ c.line.ensures.says c.in_err-line.ensures.refused)
