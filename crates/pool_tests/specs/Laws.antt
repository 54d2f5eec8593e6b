-- The law of a test: a table of whole numbers, of which it is known that they change by at most 3 from one time to the
-- next.
use Rattle.std.proofs.Common.{◌≡◌, ℕ, zero, suc, ◌+◌, ◌<◌, ◌≤◌, Bool, true, false, ◌&&◌, nat_le, int_lt, List, [], ◌∷◌, length, ℤ, pos, ◌+ℤ◌, ◌-ℤ◌, ◌≤ℤ◌, ◌<ℤ◌, unsigned_abs, refl, sym, subst, arith}
use Rattle.std.specs.Prelude.{if◌then◌else◌, slice_index}
use Rattle.std.proofs.lemmas.Int.{ints}
use Rattle.std.proofs.lemmas.Bool.{and_parts, leb-true}
use Rattle.spec_numbers.specs.Numbers.{minus}
use Rattle.spec_scalars.specs.declared.reach.Reach.{Reach}
use Rattle.spec_scalars.specs.Scalars.{IsReach, KeepsReach, Scalar}

-- the heights of the water at times 0 to 12
abbrev pub heights : List ℕ
heights = 10 ∷ 8 ∷ 6 ∷ 3 ∷ 1 ∷ 3 ∷ 5 ∷ 7 ∷ 6 ∷ 4 ∷ 4 ∷ 7 ∷ 9 ∷ []

-- above a mark at 5
abbrev above_mark : (ℕ → ℕ) → ℤ → ℤ
above_mark height t = pos (height (unsigned_abs t)) -ℤ pos 5

abbrev pub tide : ℤ → ℤ
tide t = pos (slice_index heights (unsigned_abs t)) -ℤ pos 5

-- the height at one time, and bounds of all of them
abbrev reach_by : (ℤ → ℤ) → ℤ → ℤ → Reach
reach_by at a b =
    if int_lt a b then record { lo = minus 5; hi = pos 5; step_lo = minus 3; step_hi = pos 3 }
    else record { lo = at a; hi = at a; step_lo = pos 0; step_hi = pos 0 }

abbrev pub tides : Scalar
tides = record { first = pos 0; last = pos 12; at = tide; reach = reach_by tide }

-- ---- that is so
abbrev near : ℕ → ℕ → Bool
near x y = nat_le x (y + 3) && nat_le y (x + 3)

are_calm : List ℕ → Bool
are_calm (x ∷ y ∷ rest) = nat_le x 10 && (near x y && are_calm (y ∷ rest))
are_calm (x ∷ []) = nat_le x 10
are_calm [] = true

abbrev IsCalm : (ℕ → ℕ) → ℕ → Type 0
IsCalm height i = (height i ≤ 10) × (height (suc i) ≤ 10) × (height i ≤ height (suc i) + 3) × (height (suc i) ≤ height i + 3)

first_of : (x : ℕ) (rest : List ℕ) → are_calm (x ∷ rest) ≡ true → x ≤ 10
unfolding are_calm
first_of x (y ∷ rest) e = leb-true x 10 (and_parts (nat_le x 10) (near x y && are_calm (y ∷ rest)) e).0
first_of x [] e = leb-true x 10 e

calm_at : (xs : List ℕ) → are_calm xs ≡ true → (i : ℕ) → suc i < length xs → IsCalm (slice_index xs) i
unfolding are_calm
calm_at (x ∷ y ∷ rest) e zero few =
    let both = and_parts (near x y) (are_calm (y ∷ rest)) (and_parts (nat_le x 10) (near x y && are_calm (y ∷ rest)) e).1 in
    let steps = and_parts (nat_le x (y + 3)) (nat_le y (x + 3)) both.0 in
    (first_of x (y ∷ rest) e, first_of y rest both.1, leb-true x (y + 3) steps.0, leb-true y (x + 3) steps.1)
calm_at (x ∷ y ∷ rest) e (suc i) few =
    calm_at (y ∷ rest) (and_parts (near x y) (are_calm (y ∷ rest)) (and_parts (nat_le x 10) (near x y && are_calm (y ∷ rest)) e).1).1 i (omega (arith, few))
calm_at (x ∷ []) e i few = absurd (omega (arith, few))
calm_at [] e i few = absurd (omega (arith, few))

little_apart : (x y : ℕ) → x ≤ y + 3 → y ≤ x + 3 → (minus 3 ≤ℤ ((pos y -ℤ pos 5) -ℤ (pos x -ℤ pos 5))) × (((pos y -ℤ pos 5) -ℤ (pos x -ℤ pos 5)) ≤ℤ pos 3)
little_apart x y p q = (omega (arith, ints, p), omega (arith, ints, q))

module _ (height : ℕ → ℕ) (calm : (i : ℕ) → suc i < 13 → IsCalm height i) where
  low_enough : (i : ℕ) → i < 13 → height i ≤ 10
  low_enough zero few = (calm 0 (omega arith)).0
  low_enough (suc i) few = (calm i few).1

  bounded : (t : ℤ) → pos 0 ≤ℤ t → t ≤ℤ pos 12 → (minus 5 ≤ℤ above_mark height t) × (above_mark height t ≤ℤ pos 5)
  bounded t from to =
      let most = low_enough (unsigned_abs t) (omega (arith, ints, from, to)) in
      (omega (arith, ints), omega (arith, ints, most))

  step_of : (t : ℤ) → pos 0 ≤ℤ t → t <ℤ pos 12
      → (minus 3 ≤ℤ (above_mark height (t +ℤ pos 1) -ℤ above_mark height t)) × ((above_mark height (t +ℤ pos 1) -ℤ above_mark height t) ≤ℤ pos 3)
  step_of t from before =
      let next : unsigned_abs (t +ℤ pos 1) ≡ suc (unsigned_abs t) = omega (arith, ints, from) in
      let is = calm (unsigned_abs t) (omega (arith, ints, from, before)) in
      subst (λ (n : ℕ). (minus 3 ≤ℤ ((pos (height n) -ℤ pos 5) -ℤ above_mark height t)) × (((pos (height n) -ℤ pos 5) -ℤ above_mark height t) ≤ℤ pos 3)) (sym next)
      (little_apart (height (unsigned_abs t)) (height (suc (unsigned_abs t))) is.2 is.3)

  only_time : (a b t : ℤ) → int_lt a b ≡ false → a ≤ℤ t → t ≤ℤ b → a ≡ t
  only_time a b t e p q = grind (arith, ints)

  no_step : (a b t : ℤ) → int_lt a b ≡ false → a ≤ℤ t → t <ℤ b → ⊥
  no_step a b t e p q = grind (arith, ints)

  keeps : (a b : ℤ) → pos 0 ≤ℤ a → b ≤ℤ pos 12 → IsReach (above_mark height) a b (reach_by (above_mark height) a b)
  keeps a b from to = by (int_lt a b) refl
    where
      by : (wide : Bool) → int_lt a b ≡ wide → IsReach (above_mark height) a b (if wide then record { lo = minus 5; hi = pos 5; step_lo = minus 3; step_hi = pos 3 } else record { lo = above_mark height a; hi = above_mark height a; step_lo = pos 0; step_hi = pos 0 })
      by true e = record {
        low = λ t p q. (bounded t (omega (arith, ints, from, p)) (omega (arith, ints, q, to))).0;
        high = λ t p q. (bounded t (omega (arith, ints, from, p)) (omega (arith, ints, q, to))).1;
        step_low = λ t p q. (step_of t (omega (arith, ints, from, p)) (omega (arith, ints, q, to))).0;
        step_high = λ t p q. (step_of t (omega (arith, ints, from, p)) (omega (arith, ints, q, to))).1;
      }
      by false e = record {
        low = λ t p q. subst (λ (u : ℤ). above_mark height a ≤ℤ above_mark height u) (only_time a b t e p q) (omega (arith, ints));
        high = λ t p q. subst (λ (u : ℤ). above_mark height u ≤ℤ above_mark height a) (only_time a b t e p q) (omega (arith, ints));
        step_low = λ t p q. absurd (no_step a b t e p q);
        step_high = λ t p q. absurd (no_step a b t e p q);
      }

pub tides_keep_reach : KeepsReach tides
unfolding are_calm
tides_keep_reach a b from ordered to = keeps (slice_index heights) (calm_at heights refl) a b from to
