use Rattle.std.proofs.Common.{◌≡◌, List, ℕ, OnOk, subst}
use Rattle.std.specs.Prelude.{string_bytes}
use Rattle.eph_gen.proofs.Joining.{block_is}
use Rattle.eph_gen.proofs.blocks.add_block.Goals as goal

pub returns-clause-lines : goal.returns-clause-lines
returns-clause-lines c =
    let whole = block_is (string_bytes c.args.text.now) (string_bytes c.writeln.new.self) c.args.draws.now c.args.block c.in_ok-writeln.ensures.bytes in
    subst (λ (text : List ℕ). OnOk c.add_rows.result (string_bytes c.add_rows.new.text ≡ text)) whole c.add_rows.ensures.rows
