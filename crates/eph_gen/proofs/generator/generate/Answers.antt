use Rattle.std.proofs.Common.{◌≡◌, ◌+◌, ◌-◌, ◌*◌, ℕ, List, [], ◌∷◌, arith, sym, ap, ◌∙◌, ◌++◌}
use Rattle.std.specs.Prelude.{string_bytes}
use Rattle.spec_generated.specs.Blocks.{block_lines, lines_from, state_of}
use Rattle.spec_generated.specs.Draws.{state_after}
use Rattle.spec_text.specs.Printed.{joined_lines}
use Rattle.spec_generated.specs.Generated.{generated_text, header_lines}
use Rattle.eph_gen.proofs.Joining.{block_left, blocks_end, joined_append, state_more}
use Rattle.spec_files.specs.Outcome.{outcome}
use Rattle.spec_generated.proofs.Accepted.{text_accepted}
use Rattle.eph_gen.proofs.generator.generate.Goals as goal

pub loop-block-init : goal.loop-block-init
unfolding state_after generated_text
loop-block-init c =
    let all : c.args.blocks - 0 ≡ c.args.blocks = omega arith in (
      (λ i. (c.in_ok-text.ensures.ok ∙ c.header_text.ensures) i ++ joined_lines (lines_from c.args.seed 0 (all i)))
          ∙ sym (joined_append header_lines (lines_from c.args.seed 0 c.args.blocks)),
      c.new-draws.ensures,
    )

pub loop-block-preserved : goal.loop-block-preserved
loop-block-preserved c =
    let block = c.loop-block.block in
    let seed = c.args.seed in
    let old = string_bytes c.loop-block.text in
    let drawn = c.loop-block.invariant.1 in
    let lines : string_bytes c.add_block.new.text ≡ old ++ joined_lines (block_lines (state_of seed block) block) =
    c.in_ok-add_block.ensures.lines ∙ ap (λ (state : ℕ). old ++ joined_lines (block_lines state block)) drawn in
    let next : 1016 * block + 1016 ≡ 1016 * (block + 1) = omega arith in (
      block_left seed block c.args.blocks old (string_bytes c.add_block.new.text) c.loop-block-test.true lines ∙ c.loop-block.invariant.0,
      c.in_ok-add_block.ensures.drawn ∙ ap (λ (state : ℕ). state_after state 1016) drawn ∙ state_more seed (1016 * block) 1016 ∙ ap (state_after seed) next,
    )

-- the text that is made
whole : (c : goal.After-into_bytes) → c.into_bytes.result.items ≡ generated_text c.args.blocks c.args.seed
whole c =
    let none : c.args.blocks - c.loop-block.block ≡ 0 = omega arith in
    ap (λ v. v.items) c.into_bytes.ensures.value
    ∙ sym (blocks_end c.args.seed c.loop-block.block (c.args.blocks - c.loop-block.block) (string_bytes c.loop-block.text) none)
    ∙ c.loop-block.invariant.0

pub returns-clause-text : goal.returns-clause-text
returns-clause-text c = whole c

pub returns-clause-accepted : goal.returns-clause-accepted
returns-clause-accepted c =
    ap (λ (text : List ℕ). outcome (text ∷ [])) (whole c) ∙ (text_accepted c.args.blocks c.args.seed c.requires.some c.requires.few).accepted
