use Rattle.std.proofs.Common.{arith, length-take-le, rules}
use borrow.Rule.Slice.PartMut.{take_put}
use Rattle.gf_files.proofs.Left.{read_in_place, read_to_end}
use Rattle.gf_files.proofs.file.read_at.Goals as goal

pub returns-clause-before : goal.returns-clause-before
returns-clause-before g c = take_put _ _ c.args.bytes.now _ (omega (arith, c.requires.room))

pub returns-clause-read : goal.returns-clause-read
returns-clause-read g c =
    read_in_place _ _ c.read.result _ c.read.new.buf _ c.args.at (length-take-le _ c.args.bytes.now (omega (arith, c.requires.room))) c.read.ensures.bound c.read.ensures.bytes

pub returns-clause-end : goal.returns-clause-end
returns-clause-end g c = read_to_end _ _ c.read.result _ (search rules) c.read.ensures.bytes
