-- The rows of T, U, Q and R are made by one recurrence.
use Rattle.std.proofs.Common.{◌≡◌, ℕ, zero, suc, ◌-◌, ◌*◌, ◌^◌, ◌≤◌, arith}
use Rattle.spec_chebyshev.specs.declared.ends.Ival62.{Ival62}
use Rattle.spec_chebyshev.specs.Rows.{next, t_size, u_size, q_size, r_size, nothing, shifted, t_row, u_row, q_row, r_row}
use Rattle.spec_chebyshev.proofs.RowEnds.{t_ordered, u_ordered, q_ordered, r_ordered}
use Rattle.spec_chebyshev.proofs.Bounds.{t_within, u_within, q_within, r_within, u_most, q_most, r_most, EndsWithin-nothing, EndsWithin-shifted}
use Rattle.cheby_laws.specs.Recurrences.{IsRecurrence}

-- a step from k - 1 and k - 2 is one from the two numbers below k
from_two : (f : ℕ → ℕ → ℕ → Type 0) → ((j : ℕ) → f (suc (suc j)) (suc j) j) → (k : ℕ) → 2 ≤ k → f k (k - 1) (k - 2)
from_two f h zero p = absurd (omega arith)
from_two f h (suc zero) p = absurd (omega arith)
from_two f h (suc (suc j)) p = let a : suc (suc j) - 1 ≡ suc j = omega arith in let b : suc (suc j) - 2 ≡ j = omega arith in rw (a, b) (h j)

module _ (x : Ival62) where
  t-step : (k : ℕ) → 2 ≤ k → next (t_size k * 2 ^ 60) x (t_row x (k - 1)) nothing (t_row x (k - 2)) ≡ t_row x k
  unfolding t_row
  t-step = from_two (λ k i j. next (t_size k * 2 ^ 60) x (t_row x i) nothing (t_row x j) ≡ t_row x k) (λ j i. t_row x (suc (suc j)))

  u-step : (k : ℕ) → 2 ≤ k → next (u_size k * 2 ^ 50) x (u_row x (k - 1)) nothing (u_row x (k - 2)) ≡ u_row x k
  unfolding u_row
  u-step = from_two (λ k i j. next (u_size k * 2 ^ 50) x (u_row x i) nothing (u_row x j) ≡ u_row x k) (λ j i. u_row x (suc (suc j)))

  q-step : (k : ℕ) → 2 ≤ k → next (q_size k * 2 ^ 46) x (q_row x (k - 1)) (shifted 13 (t_row x (k - 1))) (q_row x (k - 2)) ≡ q_row x k
  unfolding q_row
  q-step = from_two (λ k i j. next (q_size k * 2 ^ 46) x (q_row x i) (shifted 13 (t_row x i)) (q_row x j) ≡ q_row x k) (λ j i. q_row x (suc (suc j)))

  r-step : (k : ℕ) → 2 ≤ k → next (r_size k * 2 ^ 44) x (r_row x (k - 1)) (shifted 5 (u_row x (k - 1))) (r_row x (k - 2)) ≡ r_row x k
  unfolding r_row
  r-step = from_two (λ k i j. next (r_size k * 2 ^ 44) x (r_row x i) (shifted 5 (u_row x i)) (r_row x j) ≡ r_row x k) (λ j i. r_row x (suc (suc j)))

pub IsRecurrence-t : IsRecurrence t_row t_row (λ e. nothing) (λ k. t_size k * 2 ^ 60)
IsRecurrence-t = record { step = t-step; within = λ x h k p. t_within x h k; ordered = t_ordered; beside_within = λ x h k p. t_within x h k; extra_within = λ e w. EndsWithin-nothing; limit_within = λ k p. omega arith }

pub IsRecurrence-u : IsRecurrence u_row u_row (λ e. nothing) (λ k. u_size k * 2 ^ 50)
IsRecurrence-u = record { step = u-step; within = u_within; ordered = u_ordered; beside_within = u_within; extra_within = λ e w. EndsWithin-nothing; limit_within = u_most }

pub IsRecurrence-q : IsRecurrence q_row t_row (shifted 13) (λ k. q_size k * 2 ^ 46)
IsRecurrence-q = record { step = q-step; within = q_within; ordered = q_ordered; beside_within = λ x h k p. t_within x h k; extra_within = λ e. EndsWithin-shifted e 13; limit_within = q_most }

pub IsRecurrence-r : IsRecurrence r_row u_row (shifted 5) (λ k. r_size k * 2 ^ 44)
IsRecurrence-r = record { step = r-step; within = r_within; ordered = r_ordered; beside_within = u_within; extra_within = λ e. EndsWithin-shifted e 5; limit_within = r_most }
