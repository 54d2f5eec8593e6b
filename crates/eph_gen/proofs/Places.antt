-- The state after the draw of a place.
use Rattle.std.proofs.Common.{◌≡◌, ◌-◌, ◌≤◌, ℕ, suc, arith, sym, ap, ◌∙◌}
use Rattle.spec_generated.specs.Draws.{draws_upto, next_state, state_after}

pub drawn_place : (state place now : ℕ) → 3 ≤ place → place ≤ 1018 → now ≡ state_after state (draws_upto (place - 1)) → next_state now ≡ state_after state (draws_upto place)
unfolding state_after
drawn_place state place now low high is =
    let one : draws_upto place ≡ suc (draws_upto (place - 1)) = omega (arith, low, high) in
    ap next_state is ∙ sym (ap (state_after state) one)
