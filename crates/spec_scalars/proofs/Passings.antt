-- The events of a scalar are its wanted passings of 0.
use Rattle.std.proofs.Common.{◌≡◌, ◌↔◌, true, ℤ, pos, negsuc, ◌-ℤ◌, ◌≤ℤ◌, ◌<ℤ◌, arith}
use Rattle.std.proofs.lemmas.Int.{ints}
use Rattle.std.proofs.lemmas.List.Elements.{All-nil}
use Rattle.spec_trees.specs.declared.tree.Turn.TheVariants.{Fall, Rise}
use Rattle.spec_events.specs.Events.{wants}
use Rattle.spec_events.specs.Functions.{Guard, GuardHolds}
use Rattle.spec_scalars.specs.Searches.{Search, events}

below_zero : (z : ℤ) → ((pos 0 ≤ℤ z) → ⊥) → z <ℤ pos 0
below_zero (pos n) h = absurd (h (omega (arith, ints)))
below_zero (negsuc n) h = omega (arith, ints)

above_and_below : (z : ℤ) → z <ℤ pos 0 → pos 0 ≤ℤ z → ⊥
above_and_below z p q = absurd (omega (arith, ints, p, q))

module _ (s : Search) (t : ℤ) where
  pub rises : events s Rise t ↔ ((wants s.plan.dir Rise ≡ true) × (s.scalar.at (t -ℤ pos 1) <ℤ pos 0) × (pos 0 ≤ℤ s.scalar.at t))
  rises = (
    λ e. (e.wanted, below_zero (s.scalar.at (t -ℤ pos 1)) e.turns.0, e.turns.1),
    λ p. record { wanted = p.0; turns = (above_and_below (s.scalar.at (t -ℤ pos 1)) p.1, p.2); guarded = All-nil (λ (g : Guard). GuardHolds g t) },
  )

  pub falls : events s Fall t ↔ ((wants s.plan.dir Fall ≡ true) × (pos 0 ≤ℤ s.scalar.at (t -ℤ pos 1)) × (s.scalar.at t <ℤ pos 0))
  falls = (
    λ e. (e.wanted, e.turns.0, below_zero (s.scalar.at t) e.turns.1),
    λ p. record { wanted = p.0; turns = (p.1, above_and_below (s.scalar.at t) p.2); guarded = All-nil (λ (g : Guard). GuardHolds g t) },
  )
