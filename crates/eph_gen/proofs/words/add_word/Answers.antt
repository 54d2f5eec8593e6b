use Rattle.std.proofs.Common.{◌≡◌, ◌≤◌, sym, ap, ◌∙◌, FitsSigned, w64}
use Rattle.std.specs.Prelude.{string_bytes}
use Rattle.std.proofs.lemmas.Int.{to_z-of_z}
use Rattle.spec_generated.specs.Coefficients.{millionths, term_at}
use Rattle.spec_generated.specs.Draws.{drawn, draws_upto, state_after}
use Rattle.spec_generated.specs.Words.{block_word, coefficient_word, zero_word}
use Rattle.spec_generated.proofs.BlockWords.{date_at, number_at, zero_at}
use Rattle.eph_gen.proofs.Pieces.{also_on_ok, on_ok}
use Rattle.eph_gen.proofs.Places.{drawn_place}
use Rattle.eph_gen.proofs.words.add_word.Goals as goal

pub returns-then-place-lt-FIRST_PLACE-clause-word : goal.returns-then-place-lt-FIRST_PLACE-clause-word
returns-then-place-lt-FIRST_PLACE-clause-word c state is =
    rw (date_at state c.args.block c.args.place c.if-place-lt-FIRST_PLACE.true).word c.add_date.ensures

pub returns-then-place-gt-NCOEFF-clause-word : goal.returns-then-place-gt-NCOEFF-clause-word
returns-then-place-gt-NCOEFF-clause-word c state is =
    rw (zero_at state c.args.block c.args.place c.if-place-gt-NCOEFF.true) (on_ok c.push_str.result (string_bytes c.push_str.new.self) (string_bytes c.args.text.now) zero_word c.push_str.ensures.bytes)

pub returns-else-place-gt-NCOEFF-clause-word : goal.returns-else-place-gt-NCOEFF-clause-word
returns-else-place-gt-NCOEFF-clause-word c state is =
    let low : 3 ≤ c.args.place = c.if-place-lt-FIRST_PLACE.false in
    let high : c.args.place ≤ 1018 = c.if-place-gt-NCOEFF.false in
    let draw : c.draw.result ≡ drawn (state_after state (draws_upto c.args.place)) =
    c.draw.ensures.drawn ∙ ap drawn (c.draw.ensures.moved ∙ drawn_place state c.args.place c.args.draws.now low high is) in
    let value : c.coefficient_in_millionths.result ≡ millionths (term_at c.args.place) (drawn (state_after state (draws_upto c.args.place))) =
    c.coefficient_in_millionths.ensures ∙ (λ i. millionths (c.shape_at.ensures.term i) (draw i)) in
    let word : coefficient_word c.coefficient_in_millionths.result ≡ block_word state c.args.block c.args.place =
    ap coefficient_word value ∙ sym (number_at state c.args.block c.args.place low high).word in
    let fits : FitsSigned w64 c.coefficient_in_millionths.result = record { sfits = c.coefficient_in_millionths.type_inv } in
    rw (to_z-of_z w64 c.coefficient_in_millionths.result fits, word) at c.add_coefficient.ensures

pub returns-else-place-gt-NCOEFF-clause-drawn : goal.returns-else-place-gt-NCOEFF-clause-drawn
returns-else-place-gt-NCOEFF-clause-drawn c state is =
    also_on_ok c.add_coefficient.result (c.draw.new.self ≡ state_after state (draws_upto c.args.place))
    (c.draw.ensures.moved ∙ drawn_place state c.args.place c.args.draws.now c.if-place-lt-FIRST_PLACE.false c.if-place-gt-NCOEFF.false is)
