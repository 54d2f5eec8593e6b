use Rattle.std.proofs.Common.{◌∙◌, ap, rules}
use Rattle.spec_ephemeris.specs.Ephemeris.{Ephemeris}
use Rattle.spec_files.specs.Blocks.{with_numbers}
use Rattle.de_blocks.proofs.Steps.{after_block, is_whole}
use Rattle.de_blocks.proofs.accepting.read_line_and_accept.Goals as goal

pub accept-requires-clause-checked : goal.accept-requires-clause-checked
accept-requires-clause-checked c = rw c.read_line.ensures.same c.requires.checked

pub accept-requires-clause-read : goal.accept-requires-clause-read
accept-requires-clause-read c =
    rw c.read_line.ensures.same
    (is_whole c.args.block.now.accepted c.args.block.now.numbers c.read_line.new.block.numbers c.args.line.now.tokens c.requires.read c.requires.few c.in_ok-read_line.ensures.reads (search rules)).0

pub accept-requires-clause-whole : goal.accept-requires-clause-whole
accept-requires-clause-whole c =
    rw c.read_line.ensures.same
    (is_whole c.args.block.now.accepted c.args.block.now.numbers c.read_line.new.block.numbers c.args.line.now.tokens c.requires.read c.requires.few c.in_ok-read_line.ensures.reads (search rules)).1

pub returns-else-count-ncoeff : goal.returns-else-count-ncoeff
returns-else-count-ncoeff c =
    after_block c.args.block.now.accepted c.accept.new.self.accepted c.args.block.now.numbers c.read_line.new.block.numbers c.accept.new.self.numbers c.args.line.now
    c.in_ok-read_line.ensures.reads
    (is_whole c.args.block.now.accepted c.args.block.now.numbers c.read_line.new.block.numbers c.args.line.now.tokens c.requires.read c.requires.few c.in_ok-read_line.ensures.reads (search rules)).1
    (c.accept.ensures.accepted ∙ ap (λ (e : Ephemeris). with_numbers e c.read_line.new.block.numbers) c.read_line.ensures.same) c.accept.ensures.numbers
