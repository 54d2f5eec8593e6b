use Rattle.std.proofs.Common.{◌≡◌, ◌+◌, ◌-◌, ◌∷◌, [], List, ℕ, OnOk, arith, ap, ◌∙◌, subst}
use lib.Utf8.{encode}
use Rattle.std.specs.Prelude.{string_bytes}
use Rattle.spec_generated.specs.Draws.{draws_upto, state_after}
use Rattle.spec_generated.specs.Words.{block_word}
use Rattle.eph_gen.proofs.Joining.{row_is}
use Rattle.eph_gen.proofs.Pieces.{on_ok}
use Rattle.eph_gen.proofs.blocks.add_row.Goals as goal

pub returns-clause-row : goal.returns-clause-row
unfolding encode
returns-clause-row c state is =
    let p = c.args.place in
    let word = block_word state c.args.block in
    let place : p ≡ p + 1 - 1 = omega arith in
    let next : p + 1 ≡ p + 2 - 1 = omega arith in
    let first = c.in_ok-add_word.ensures in
    let second = c.in_ok-add_word-2.ensures in
    let third = c.in_ok-add_word-3.ensures in
    let after_first = first.drawn state is ∙ ap (λ (n : ℕ). state_after state (draws_upto n)) place in
    let after_second = second.drawn state after_first ∙ ap (λ (n : ℕ). state_after state (draws_upto n)) next in
    let whole = row_is (string_bytes c.args.text.now) _ _ _ _ (string_bytes c.add_word-3.new.text) (word p) (word (p + 1)) (word (p + 2))
    (first.word state is) c.in_ok-push.ensures.bytes (second.word state after_first) c.in_ok-push-2.ensures.bytes (third.word state after_second) in
    subst (λ (text : List ℕ). OnOk c.push-3.result (string_bytes c.push-3.new.self ≡ text)) whole
    (on_ok c.push-3.result (string_bytes c.push-3.new.self) (string_bytes c.add_word-3.new.text) (10 ∷ []) c.push-3.ensures.bytes)
