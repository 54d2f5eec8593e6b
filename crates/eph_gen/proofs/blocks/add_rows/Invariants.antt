use Rattle.std.proofs.Common.{◌≡◌, ◌+◌, ◌-◌, ◌*◌, ◌++◌}
use Rattle.std.specs.Prelude.{string_bytes}
use Rattle.spec_generated.specs.Blocks.{rows_from}
use Rattle.spec_generated.specs.Draws.{draws_upto, state_after}
use Rattle.spec_text.specs.Printed.{joined_lines}
use Rattle.spec_generated.specs.Words.{block_word}
use Rattle.eph_gen.proofs.blocks.add_rows.Given as goal

-- the text and the rows that are left are the whole
abbrev pub invariant-loop-rows : goal.invariant-loop-rows
invariant-loop-rows l =
    (string_bytes l.text ++ joined_lines (rows_from (block_word l.initial.draws l.block) (3 * l.rows + 1) (340 - l.rows))
    ≡ string_bytes l.initial.text ++ joined_lines (rows_from (block_word l.initial.draws l.block) 1 340))
    × (l.draws ≡ state_after l.initial.draws (draws_upto (3 * l.rows)))
