use Rattle.std.proofs.Common.{◌≡◌, ◌∙◌, Ok, subst, sym}
use Rattle.std.proofs.lemmas.Result.{err_from_is_err_and}
use Rattle.de_blocks.specs.Reader.{IsNotMemory}
use Rattle.gf_files.specs.Reader.{ephemeris_after}
use Rattle.gf_files.proofs.BlockSays.{block_stops, blocks_ready, sound_answer}
use Rattle.gf_files.proofs.reader.take_block_line.Goals as goal

pub returns : goal.returns
unfolding ephemeris_after
returns c =
    let done : c.line.result ≡ Ok tt = c.in_ok-line.was in
    let some : IsNotMemory c.line.result = subst IsNotMemory (sym done) tt in (
      c.line.ensures.says some,
      blocks_ready c.line.new.self (c.line.ensures.not_refused done) (sound_answer _ (sym (c.line.ensures.answer some) ∙ done)),
    )

pub returns-in_err-line : goal.returns-in_err-line
returns-in_err-line c =
    let given = err_from_is_err_and c.from_residual.result c.from_residual.ensures.1 in
    rw (given.1, given.2) (block_stops c.args.reader.now c.line.new.self c.args.line.now _ c.in_err-line.ensures.says c.in_err-line.ensures.refused)
