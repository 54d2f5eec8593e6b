use Rattle.std.proofs.Common.{◌≡◌, ◌+◌, ◌-◌, ◌*◌, ◌<◌, ℕ, arith, refl, sym, ap, ◌∙◌}
use Rattle.std.specs.Prelude.{string_bytes}
use Rattle.spec_generated.specs.Draws.{draws_upto, state_after}
use Rattle.spec_generated.specs.Words.{block_word}
use Rattle.eph_gen.proofs.Joining.{row_left, rows_end}
use Rattle.eph_gen.proofs.blocks.add_rows.Goals as goal

pub loop-rows-init : goal.loop-rows-init
unfolding state_after
loop-rows-init c = (refl, refl)

pub loop-rows-preserved : goal.loop-rows-preserved
loop-rows-preserved c =
    let rows = c.loop-rows.rows in
    let state = c.args.draws.now in
    let before : 3 * rows ≡ 3 * rows + 1 - 1 = omega arith in
    let after : 3 * rows + 1 + 2 ≡ 3 * (rows + 1) = omega arith in
    let below : rows < 340 = omega arith in
    let drawn = c.loop-rows.invariant.1 ∙ ap (λ (n : ℕ). state_after state (draws_upto n)) before in
    let row = c.in_ok-add_row.ensures in (
      row_left (block_word state c.args.block) (string_bytes c.loop-rows.text) (string_bytes c.add_row.new.text) rows below (row.row state drawn) ∙ c.loop-rows.invariant.0,
      row.drawn state drawn ∙ ap (λ (n : ℕ). state_after state (draws_upto n)) after,
    )

pub returns-clause-rows : goal.returns-clause-rows
returns-clause-rows c =
    let none : 340 - c.loop-rows.rows ≡ 0 = omega arith in
    sym (rows_end (block_word c.args.draws.now c.args.block) (string_bytes c.loop-rows.text) (3 * c.loop-rows.rows + 1) (340 - c.loop-rows.rows) none) ∙ c.loop-rows.invariant.0
