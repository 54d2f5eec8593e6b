-- Sums over lists by recursion, which compute, and what changing one element does to them.
use Rattle.std.proofs.Common.{◌≡◌, ℕ, zero, suc, ◌+◌, ◌≤◌, List, [], ◌∷◌, ◌++◌, map, flat_map, refl, sym, ap, Some, slice_get, slice_set, sum_by, arith}
use Rattle.std.proofs.lemmas.List.Sums.{sum_by-cons}
use mathlib.Core.Option.{some, some-ne-none}
use lib.ListN.{get_elem?}

abbrev pub weigh : {A : Type 0} → (A → ℕ) → List A → ℕ
weigh h [] = 0
weigh h (x ∷ xs) = h x + weigh h xs

pub sum_is_weigh : {A : Type 0} (h : A → ℕ) (xs : List A) → sum_by h xs ≡ weigh h xs
sum_is_weigh h [] = refl
sum_is_weigh h (x ∷ xs) = omega (arith, sum_by-cons h x xs, sum_is_weigh h xs)

pub weigh-append : {A : Type 0} (h : A → ℕ) (xs ys : List A) → weigh h (xs ++ ys) ≡ weigh h xs + weigh h ys
weigh-append h [] ys = omega arith
weigh-append h (x ∷ xs) ys = omega (arith, weigh-append h xs ys)

pub weigh-push : {A : Type 0} (h : A → ℕ) (xs : List A) (y : A) → weigh h (xs ++ y ∷ []) ≡ weigh h xs + h y
weigh-push h xs y = omega (arith, weigh-append h xs (y ∷ []))

pub weigh-set : {A : Type 0} (h : A → ℕ) (xs : List A) (k : ℕ) (x y : A) → slice_get xs k ≡ Some x → weigh h (slice_set xs k y) + h x ≡ weigh h xs + h y
weigh-set h [] k x y e = absurd cc
weigh-set h (z ∷ zs) zero x y e = let same : h z ≡ h x = ap h cc in omega (arith, same)
weigh-set h (z ∷ zs) (suc k) x y e = omega (arith, weigh-set h zs k x y e)

pub weigh-get : {A : Type 0} (h : A → ℕ) (xs : List A) (k : ℕ) (x : A) → slice_get xs k ≡ Some x → h x ≤ weigh h xs
weigh-get h [] k x e = absurd cc
weigh-get h (z ∷ zs) zero x e = let same : h z ≡ h x = ap h cc in omega (arith, same)
weigh-get h (z ∷ zs) (suc k) x e = omega (arith, weigh-get h zs k x e)

pub weigh-map : {A B : Type 0} (f : A → B) (h : B → ℕ) (xs : List A) → weigh h (map f xs) ≡ weigh (λ x. h (f x)) xs
weigh-map f h [] = refl
weigh-map f h (x ∷ xs) = omega (arith, weigh-map f h xs)

pub weigh-flat : {A B : Type 0} (f : A → List B) (h : B → ℕ) (xs : List A) → weigh h (flat_map f xs) ≡ weigh (λ x. weigh h (f x)) xs
weigh-flat f h [] = refl
weigh-flat f h (x ∷ xs) = omega (arith, weigh-append h (f x) (flat_map f xs), weigh-flat f h xs)

pub weigh-same : {A : Type 0} (f g : A → ℕ) (xs : List A) → ((x : A) → f x ≡ g x) → weigh f xs ≡ weigh g xs
weigh-same f g [] e = refl
weigh-same f g (x ∷ xs) e = omega (arith, e x, weigh-same f g xs e)

-- ---- std's sums, over what the seats of a table or the ends of a deque know
pub total_set : {A : Type 0} (f : A → ℕ) (xs : List A) (k : ℕ) (x y : A) → get_elem? xs k ≡ some x → sum_by f (slice_set xs k y) + f x ≡ sum_by f xs + f y
total_set f [] k x y e = absurd (some-ne-none x (sym e))
total_set f (z ∷ zs) zero x y e =
    let same : f z ≡ f x = ap f cc in
    omega (arith, same, sum_by-cons f z zs, sum_by-cons f y zs)
total_set f (z ∷ zs) (suc k) x y e =
    omega (arith, total_set f zs k x y e, sum_by-cons f z zs, sum_by-cons f z (slice_set zs k y))

pub total_le : {A : Type 0} (f : A → ℕ) (xs : List A) (k : ℕ) (x : A) → get_elem? xs k ≡ some x → f x ≤ sum_by f xs
total_le f [] k x e = absurd (some-ne-none x (sym e))
total_le f (z ∷ zs) zero x e = let same : f z ≡ f x = ap f cc in omega (arith, same, sum_by-cons f z zs)
total_le f (z ∷ zs) (suc k) x e = omega (arith, total_le f zs k x e, sum_by-cons f z zs)
