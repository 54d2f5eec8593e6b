-- Totals and facts over the views.
use Rattle.std.proofs.Common.{◌≡◌, ◌≢◌, ⊎_elim, ℕ, zero, suc, ◌+◌, ◌≤◌, ◌==◌, List, [], ◌∷◌, ◌++◌, refl, sym, ap, ◌∙◌, subst, slice_set, if◌then◌else◌, true, false, append_assoc, sum_by, arith}
use Rattle.std.proofs.lemmas.Bool.Decides.{nat_tests}
use Rattle.std.proofs.lemmas.List.Sums.{sum_by-cons}
use mathlib.Core.Option.{some, some-ne-none}
use lib.ListN.{get_elem?}
use Rattle.atomic_table.proofs.Lists.{at_set}
use Rattle.spec_trees.specs.declared.book.Booked.{Booked}
use Rattle.span_ledger.specs.declared.ledger.SeatView.{SeatView}
use Rattle.spec_pool.specs.History.{by_seat}
use Rattle.spec_pool.proofs.Weights.{total_le}

pub two_le : (f : SeatView → ℕ) (views : List SeatView) (p q : ℕ) (v w : SeatView) → p ≢ q → get_elem? views p ≡ some v → get_elem? views q ≡ some w → f v + f w ≤ sum_by f views
two_le f [] p q v w n e g = absurd (some-ne-none v (sym e))
two_le f (x ∷ xs) zero zero v w n e g = absurd (n refl)
two_le f (x ∷ xs) zero (suc q) v w n e g =
    let same : f x ≡ f v = ap f cc in
    omega (arith, same, total_le f xs q w g, sum_by-cons f x xs)
two_le f (x ∷ xs) (suc p) zero v w n e g =
    let same : f x ≡ f w = ap f cc in
    omega (arith, same, total_le f xs p v e, sum_by-cons f x xs)
two_le f (x ∷ xs) (suc p) (suc q) v w n e g =
    omega (arith, two_le f xs p q v w (λ z. n (ap suc z)) e g, sum_by-cons f x xs)

abbrev pub All : (ℕ → SeatView → Type 0) → List SeatView → Type 0
All F views = (p : ℕ) (v : SeatView) → get_elem? views p ≡ some v → F p v

pub all_set : (F : ℕ → SeatView → Type 0) (views : List SeatView) (port : ℕ) (w : SeatView) → F port w → ((p : ℕ) (u : SeatView) → p ≢ port → get_elem? views p ≡ some u → F p u) → All F (slice_set views port w)
all_set F views port w mine others p u e = ⊎_elim
    (λ (x : (p ≡ port) × (w ≡ u)). subst (λ (y : ℕ × SeatView). F y.0 y.1) (λ i. (sym x.0 i, x.1 i)) mine)
    (λ (x : (p ≢ port) × (get_elem? views p ≡ some u)). others p u x.0 x.1)
    (at_set views port p w u e)

pub by_seat-append : (k : ℕ) (xs ys : List Booked) → by_seat k (xs ++ ys) ≡ by_seat k xs ++ by_seat k ys
by_seat-append k [] ys = refl
by_seat-append k (x ∷ xs) ys = ap (λ (l : List Booked). (if x.seat == k then x ∷ [] else []) ++ l) (by_seat-append k xs ys) ∙ sym (append_assoc (if x.seat == k then x ∷ [] else []) (by_seat k xs) (by_seat k ys))

pub by_own : (k : ℕ) (e : Booked) → e.seat ≡ k → by_seat k (e ∷ []) ≡ e ∷ []
by_own k e is = let t : (e.seat == k) ≡ true = grind (arith, nat_tests) in rw t refl

pub by_other : (k : ℕ) (e : Booked) → e.seat ≢ k → by_seat k (e ∷ []) ≡ []
by_other k e is = let t : (e.seat == k) ≡ false = grind (arith, nat_tests) in rw t refl
