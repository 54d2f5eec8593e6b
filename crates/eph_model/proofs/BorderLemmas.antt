-- The borders of a grid around the middle of a span: one of the two is preferred to each other.
use Rattle.std.proofs.Common.{◌≡◌, ℕ, ◌+◌, ◌*◌, ◌<◌, ◌≤◌, ℤ, pos, ◌+ℤ◌, ◌-ℤ◌, ◌<ℤ◌, ◌≤ℤ◌, Option, Some, None, refl, arith, inl, inr}
use Rattle.std.proofs.lemmas.Int.{ints}
use Rattle.std.proofs.lemmas.Nat.{mul-le}
use Rattle.std.proofs.lemmas.Bool.{cases_lt}
use Rattle.spec_ephemeris.specs.Ephemeris.{IsNearest, IsPreferred}
use Rattle.eph_model.specs.declared.grid.Grid.{Grid}
use Rattle.eph_model.specs.Grids.{IsBorderAt, IsGridBorder}
use Rattle.eph_model.specs.Short.{IsShort}
use Rattle.spec_ephemeris.proofs.Nearer.{nearer, IsCovered}

-- n is at the middle of a and b or before it, and n + l is past it; both count from `start`
record IsAround (start a b : ℤ) (n l : ℕ) : Type 0 where
  pub from : pos (2 * n) ≤ℤ ((a -ℤ start) +ℤ (b -ℤ start))
  pub before : ((a -ℤ start) +ℤ (b -ℤ start)) <ℤ pos (2 * (n + l))

-- of the times before the middle the last is preferred
last_preferred : (start a b : ℤ) (n l m : ℕ) → IsAround start a b n l → m ≤ n → IsPreferred a b (start +ℤ pos n) (start +ℤ pos m)
last_preferred start a b n l m around before = nearer a b (start +ℤ pos n) (start +ℤ pos m)
    (omega (arith, ints, around.from, before)) (λ as_near. omega (arith, ints, around.from, before, as_near))

-- of the times past the middle the first is
first_preferred : (start a b : ℤ) (n l m : ℕ) → IsAround start a b n l → n + l ≤ m → IsPreferred a b (start +ℤ pos (n + l)) (start +ℤ pos m)
first_preferred start a b n l m around past = nearer a b (start +ℤ pos (n + l)) (start +ℤ pos m)
    (omega (arith, ints, around.before, past)) (λ as_near. omega (arith, ints, around.before, past, as_near))

covered_before : (g : Grid) (a b s : ℤ) (j : ℕ) → IsAround g.start a b (j * g.seconds) g.seconds → a <ℤ b → j < g.count
    → (border : IsGridBorder g a b s) → border.index ≤ j
    → (t : ℤ) × IsBorderAt g j a b t × IsPreferred a b t s
covered_before g a b s j around order within border no_later =
    let earlier : border.index * g.seconds ≤ j * g.seconds = mul-le border.index g.seconds j g.seconds no_later (omega arith) in (
      g.start +ℤ pos (j * g.seconds),
      record {
        later = omega (arith, border.border.later, no_later);
        inside = within;
        is = refl;
        after = omega (arith, ints, border.border.after, border.border.is, earlier);
        upto = omega (arith, ints, around.from, order);
      },
      rw border.border.is (last_preferred g.start a b (j * g.seconds) g.seconds (border.index * g.seconds) around earlier),
    )

covered_past : (g : Grid) (a b s : ℤ) (j : ℕ) → IsAround g.start a b (j * g.seconds) g.seconds → a <ℤ b
    → (border : IsGridBorder g a b s) → j < border.index
    → (t : ℤ) × IsBorderAt g (j + 1) a b t × IsPreferred a b t s
covered_past g a b s j around order border later =
    let next : (j + 1) * g.seconds ≡ j * g.seconds + g.seconds = omega arith in
    let past : (j + 1) * g.seconds ≤ border.index * g.seconds = mul-le (j + 1) g.seconds border.index g.seconds (omega (arith, later)) (omega arith) in (
      g.start +ℤ pos ((j + 1) * g.seconds),
      record {
        later = omega arith;
        inside = omega (arith, later, border.border.inside);
        is = refl;
        after = omega (arith, ints, around.before, order, next);
        upto = omega (arith, ints, border.border.upto, border.border.is, past);
      },
      rw (border.border.is, next) (first_preferred g.start a b (j * g.seconds) g.seconds (border.index * g.seconds) around (omega (arith, past, next))),
    )

-- to each border of the grid in (a, b] one of two is preferred: the last at the middle or before, and the next
pub covered : (g : Grid) (a b s : ℤ) (j : ℕ) → a <ℤ b → j < g.count
    → pos (2 * (j * g.seconds)) ≤ℤ ((a -ℤ g.start) +ℤ (b -ℤ g.start))
    → ((a -ℤ g.start) +ℤ (b -ℤ g.start)) <ℤ pos (2 * (j * g.seconds + g.seconds))
    → IsGridBorder g a b s → IsCovered (IsBorderAt g j a b) (IsBorderAt g (j + 1) a b) a b s
covered g a b s j order within from before border =
    let around : IsAround g.start a b (j * g.seconds) g.seconds = record { from = from; before = before } in
    elim (cases_lt j border.index) [
      | inl later ↦ inr (covered_past g a b s j around order border later)
      | inr no_later ↦ inl (covered_before g a b s j around order within border no_later)
    ]

-- times in a span of the grid are far from the ends of 64 bits
pub short_in_grid : (P : ℤ → Type 0) (g : Grid) (a b : ℤ) (o : Option ℤ) → g.start ≤ℤ a → b ≤ℤ (g.start +ℤ pos (g.count * g.seconds))
    → ((s : ℤ) → P s → (a <ℤ s) × (s ≤ℤ b)) → IsNearest P a b o → IsShort a b o
short_in_grid P g a b None from upto within nearest = tt
short_in_grid P g a b (Some t) from upto within nearest = record {
  after = (within t nearest.0).0;
  upto = (within t nearest.0).1;
  early = omega (arith, ints, from, g.early);
  late = omega (arith, ints, upto, g.late, g.within);
}
