-- Walks over the seats of a pool at its end.
use Rattle.std.proofs.Common.{◌≡◌, inl, inr, Bool, true, false, ℕ, ◌+◌, ◌<◌, ◌≤◌, List, length, Some, None, Result, Ok, Err, IfErr, OnOk, slice_get, slice_set, sym, ap, ◌∙◌, subst, arith}
use Rattle.std.specs.Result.{is_err}
use Rattle.std.proofs.lemmas.Bool.{cases_eq}
use Rattle.std.specs.List.{AllByRecursion, AllZip}
use Rattle.spec_trees.specs.Tree.{Rules}
use Rattle.steal_pool.specs.declared.seat.PoolError.{PoolError}
use Rattle.steal_pool.specs.Seats.{IsLeft, IsStoppedBy, SameSeat, Seat, Works}
use Rattle.steal_pool.specs.Pools.{KeepNone}
use Rattle.steal_pool.specs.Closing.{Drains}
use Rattle.steal_pool.specs.Runs.{IsLater}
use Rattle.steal_pool.proofs.Pooling.{goes_on}
use Rattle.steal_pool.proofs.Listing.{all_each, all_get, all_set, zip_set, get_other, get_same, one_some, within}

-- what holds of the elements before n
abbrev pub Before : {A : Type 0} → (A → Type 0) → ℕ → List A → Type 0
Before {A = A} P n xs = (k : ℕ) (x : A) → slice_get xs k ≡ Some x → k < n → P x

module _ {A : Type 0} where
  pub before_none : (P : A → Type 0) (xs : List A) → Before P 0 xs
  before_none P xs k x at h = absurd (omega (arith, h))

  pub before_all : (P : A → Type 0) (xs : List A) (n : ℕ) → length xs ≤ n → Before P n xs → AllByRecursion P xs
  before_all P xs n e b = all_each P xs (λ k x at. b k x at (omega (arith, e, within xs k x at)))

  -- an element changes
  pub before_set : (P : A → Type 0) (xs : List A) (i : ℕ) (x y : A) → slice_get xs i ≡ Some x → P y → Before P i xs → Before P (i + 1) (slice_set xs i y)
  before_set P xs i x y at p b k z e h = elim (cases_eq k i) [
    | inl same ↦ subst P (one_some (slice_get (slice_set xs i y) i) y z (get_same xs i x y at) (ap (slice_get (slice_set xs i y)) (sym same) ∙ e)) p
    | inr apart ↦ b k z (sym (get_other xs i k y apart) ∙ e) (omega (arith, h, apart))
  ]

-- ---- each works off its deque
pub change_one : (t : Rules) (ss qs : List Seat) (i : ℕ) (q r : Seat) → slice_get qs i ≡ Some q → SameSeat q r → Works t q r → AllZip (IsLater t) ss qs → AllZip (IsLater t) ss (slice_set qs i r)
change_one t ss qs i q r at same works b = zip_set (IsLater t) ss qs i q r at (λ s c. goes_on t s q r c same works) b

pub refused : {A : Type 0} (r : Result A PoolError) (s : Seat) (b : Bool) → b ≡ is_err r → b ≡ true → IfErr r (λ e. IsStoppedBy e s) → s.refusal ≡ None → ⊥
refused (Ok x) s b v t p none = absurd (cc)
refused (Err e) s b v t p none = let f : None ≡ Some p.0 = sym none ∙ p.1 in absurd cc

pub went : {A : Type 0} (P : Type 0) (r : Result A PoolError) (b : Bool) → b ≡ is_err r → b ≡ false → OnOk r P → P
went P (Ok x) b v f p = p
went P (Err e) b v f p = absurd cc

pub stops : (t : Rules) (ss qs : List Seat) (i : ℕ) (q r : Seat) → slice_get qs i ≡ Some q → SameSeat q r → Works t q r → IsLeft t r → (r.refusal ≡ None → ⊥) → AllZip (IsLater t) ss qs → AllByRecursion (IsLeft t) qs → KeepNone ss → Drains t ss (slice_set qs i r)
stops t ss qs i q r at same works left refusal b all free = record {
  changes = change_one t ss qs i q r at same works b;
  left = all_set (IsLeft t) qs i r left all;
  used = λ none. absurd (refusal (all_get (λ s. s.refusal ≡ None) (slice_set qs i r) i r none (get_same qs i q r at)));
  refusals = inl free;
}
