-- The order in which times are preferred, and the better of two times that may be there.
use Rattle.std.proofs.Common.{◌≡◌, ◌⊎◌, ℕ, ◌<◌, ◌≤◌, nat_lt, ◌==◌, Bool, true, false, ◌&&◌, ◌||◌, if◌then◌else◌, Option, Some, None, ℤ, ◌≤ℤ◌, int_le, arith, inl, inr, refl, ◌∙◌}
use Rattle.std.proofs.lemmas.Int.{ints}
use Rattle.std.proofs.lemmas.Bool.{cases_lt}
use Rattle.spec_ephemeris.specs.Ephemeris.{off_middle, IsPreferred, IsNearest}
use Rattle.spec_ephemeris.specs.Borders.{is_preferred, preferred}

-- the order of two times at two distances
abbrev IsBefore : ℕ → ℤ → ℕ → ℤ → Type 0
IsBefore x t y s = (x < y) ⊎ ((x ≡ y) × (t ≤ℤ s))

before_trans : (x y z : ℕ) (t u s : ℤ) → IsBefore x t y u → IsBefore y u z s → IsBefore x t z s
before_trans x y z t u s (inl first) (inl second) = inl (omega (arith, first, second))
before_trans x y z t u s (inl first) (inr second) = inl (omega (arith, first, second.0))
before_trans x y z t u s (inr first) (inl second) = inl (omega (arith, first.0, second))
before_trans x y z t u s (inr first) (inr second) = inr (first.0 ∙ second.0, omega (arith, ints, first.1, second.1))

abbrev test : ℕ → ℤ → ℕ → ℤ → Bool
test x t y s = nat_lt x y || ((x == y) && int_le t s)

test_true : (x y : ℕ) (t s : ℤ) → test x t y s ≡ true → IsBefore x t y s
test_true x y t s holds = grind (arith, ints, holds)

test_false : (x y : ℕ) (t s : ℤ) → test x t y s ≡ false → IsBefore y s x t
test_false x y t s fails = grind (arith, ints, fails)

-- preferred to itself, and to what is no nearer and no earlier where it is as near
pub same : (a b t : ℤ) → IsPreferred a b t t
same a b t = inr (refl, omega (arith, ints))

pub nearer : (a b t s : ℤ) → off_middle a b t ≤ off_middle a b s → (off_middle a b s ≤ off_middle a b t → t ≤ℤ s) → IsPreferred a b t s
nearer a b t s no_farther no_later = elim (cases_lt (off_middle a b t) (off_middle a b s)) [
  | inl closer ↦ inl closer
  | inr as_far ↦ inr (omega (arith, no_farther, as_far), no_later as_far)
]

-- what may be there is there, and preferred to s
abbrev pub IsBest : ℤ → ℤ → Option ℤ → ℤ → Type 0
IsBest a b None s = ⊥
IsBest a b (Some t) s = IsPreferred a b t s

trans : (a b t u s : ℤ) → IsPreferred a b t u → IsPreferred a b u s → IsPreferred a b t s
trans a b t u s = before_trans (off_middle a b t) (off_middle a b u) (off_middle a b s) t u s

best_after : (a b : ℤ) (o : Option ℤ) (t s : ℤ) → IsBest a b o t → IsPreferred a b t s → IsBest a b o s
best_after a b None t s best then_it = best
best_after a b (Some u) t s best then_it = trans a b u t s best then_it

-- the nearest of the times with P is best for each of them
best_of : (P : ℤ → Type 0) (a b : ℤ) (o : Option ℤ) (s : ℤ) → IsNearest P a b o → P s → IsBest a b o s
best_of P a b None s nearest has = nearest s has
best_of P a b (Some t) s nearest has = nearest.1 s has

chosen : (a b t s : ℤ) (first : Bool) → is_preferred a b t s ≡ first
    → (IsPreferred a b (if first then t else s) t) × (IsPreferred a b (if first then t else s) s)
chosen a b t s true is = (same a b t, test_true (off_middle a b t) (off_middle a b s) t s is)
chosen a b t s false is = (test_false (off_middle a b t) (off_middle a b s) t s is, same a b s)

of_chosen : (a b t s : ℤ) (first : Bool) → (if first then Some t else Some s) ≡ Some (if first then t else s)
of_chosen a b t s true = refl
of_chosen a b t s false = refl

first_best : (a b : ℤ) (x y : Option ℤ) (s : ℤ) → IsBest a b x s → IsBest a b (preferred a b x y) s
first_best a b None y s best = absurd best
first_best a b (Some t) None s best = best
first_best a b (Some t) (Some u) s best =
    let choice = chosen a b t u (is_preferred a b t u) refl in
    rw (of_chosen a b t u (is_preferred a b t u)) (trans a b _ t s choice.0 best)

second_best : (a b : ℤ) (x y : Option ℤ) (s : ℤ) → IsBest a b y s → IsBest a b (preferred a b x y) s
second_best a b None y s best = best
second_best a b (Some t) None s best = absurd best
second_best a b (Some t) (Some u) s best =
    let choice = chosen a b t u (is_preferred a b t u) refl in
    rw (of_chosen a b t u (is_preferred a b t u)) (trans a b _ u s choice.1 best)

-- a time that is there has R
abbrev OfSome : (ℤ → Type 0) → Option ℤ → Type 0
OfSome R None = Unit {0}
OfSome R (Some t) = R t

some_of : (P R : ℤ → Type 0) (a b : ℤ) (o : Option ℤ) → ((s : ℤ) → P s → R s) → IsNearest P a b o → OfSome R o
some_of P R a b None within nearest = tt
some_of P R a b (Some t) within nearest = within t nearest.0

some_if : (R : ℤ → Type 0) (t s : ℤ) (first : Bool) → R t → R s → OfSome R (if first then Some t else Some s)
some_if R t s true one other = one
some_if R t s false one other = other

some_preferred : (R : ℤ → Type 0) (a b : ℤ) (x y : Option ℤ) → OfSome R x → OfSome R y → OfSome R (preferred a b x y)
some_preferred R a b None y one other = other
some_preferred R a b (Some t) None one other = one
some_preferred R a b (Some t) (Some s) one other = some_if R t s (is_preferred a b t s) one other

nearest_if : (R : ℤ → Type 0) (a b : ℤ) (o : Option ℤ) → OfSome R o → ((s : ℤ) → R s → IsBest a b o s) → IsNearest R a b o
nearest_if R a b None some best = best
nearest_if R a b (Some t) some best = (some, best)

-- a time with P, or one with Q, is preferred to s
abbrev pub IsCovered : (ℤ → Type 0) → (ℤ → Type 0) → ℤ → ℤ → ℤ → Type 0
IsCovered P Q a b s = ((t : ℤ) × P t × IsPreferred a b t s) ⊎ ((t : ℤ) × Q t × IsPreferred a b t s)

covered_best : (P Q : ℤ → Type 0) (a b : ℤ) (x y : Option ℤ) (s : ℤ) → IsNearest P a b x → IsNearest Q a b y
    → IsCovered P Q a b s → IsBest a b (preferred a b x y) s
covered_best P Q a b x y s one other (inl by) = first_best a b x y s (best_after a b x by.0 s (best_of P a b x by.0 one by.1) by.2)
covered_best P Q a b x y s one other (inr by) = second_best a b x y s (best_after a b y by.0 s (best_of Q a b y by.0 other by.1) by.2)

-- the better of the nearest with P and the nearest with Q is the nearest with R, where both are among those with R, and
-- to each of them one is preferred
pub nearest_of_two : (P Q R : ℤ → Type 0) (a b : ℤ) (x y : Option ℤ) → IsNearest P a b x → IsNearest Q a b y
    → ((s : ℤ) → P s → R s) → ((s : ℤ) → Q s → R s) → ((s : ℤ) → R s → IsCovered P Q a b s)
    → IsNearest R a b (preferred a b x y)
nearest_of_two P Q R a b x y one other first second covered =
    nearest_if R a b (preferred a b x y)
    (some_preferred R a b x y (some_of P R a b x first one) (some_of Q R a b y second other))
    (λ s has. covered_best P Q a b x y s one other (covered s has))
