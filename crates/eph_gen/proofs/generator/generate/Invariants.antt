use Rattle.std.proofs.Common.{◌≡◌, ◌-◌, ◌++◌}
use Rattle.std.specs.Prelude.{string_bytes}
use Rattle.spec_generated.specs.Blocks.{lines_from, state_of}
use Rattle.spec_text.specs.Printed.{joined_lines}
use Rattle.spec_generated.specs.Generated.{generated_text}
use Rattle.eph_gen.proofs.generator.generate.Given as goal

-- the text and the blocks that are left are the whole
abbrev pub invariant-loop-block : goal.invariant-loop-block
invariant-loop-block l =
    (string_bytes l.text ++ joined_lines (lines_from l.seed l.block (l.blocks - l.block)) ≡ generated_text l.blocks l.seed)
    × (l.draws ≡ state_of l.seed l.block)
