-- Totals over the views of a deque.
use Rattle.std.proofs.Common.{◌≡◌, ℕ, zero, suc, List, [], ◌∷◌, refl, sym, ap, subst, slice_set, sum_by, arith}
use Rattle.std.proofs.lemmas.List.Sums.{sum_by-cons}
use Rattle.std.specs.List.{AllByRecursion}
use mathlib.Core.Option.{some, some-ne-none}
use lib.ListN.{get_elem?}
use Rattle.spec_pool.proofs.Weights.{total_le}
use Rattle.steal_pool.specs.declared.view.DequeView.{DequeView}
use Rattle.steal_pool.specs.Rule.{Fits}

abbrev pub AllFit : List DequeView → Type 0
AllFit views = AllByRecursion Fits views

pub view_get : (P : DequeView → Type 0) (views : List DequeView) (port : ℕ) (v : DequeView) → get_elem? views port ≡ some v → AllByRecursion P views → P v
view_get P [] port v e a = absurd (some-ne-none v (sym e))
view_get P (x ∷ xs) zero v e a = let same : x ≡ v = cc in subst P same a.0
view_get P (x ∷ xs) (suc k) v e a = view_get P xs k v e a.1

pub fit_get : (views : List DequeView) (port : ℕ) (v : DequeView) → get_elem? views port ≡ some v → AllFit views → Fits v
fit_get views port v e a = view_get Fits views port v e a

-- what holds of the owner's view, where there is none, and where the owner's is set to another
no_owner : (P : DequeView → Type 0) (views : List DequeView) → sum_by (λ (u : DequeView). u.owner) views ≡ 0 → AllByRecursion (λ u. u.owner ≡ 1 → P u) views
no_owner P [] o = tt
no_owner P (x ∷ xs) o =
    let owners = sum_by-cons (λ (u : DequeView). u.owner) x xs in
    (λ mine. absurd (omega (arith, mine, owners, o)), no_owner P xs (omega (arith, owners, o)))

pub owner_set : (P : DequeView → Type 0) (views : List DequeView) (port : ℕ) (v w : DequeView) → sum_by (λ (u : DequeView). u.owner) views ≡ 1 → get_elem? views port ≡ some v → v.owner ≡ 1 → P w
    → AllByRecursion (λ u. u.owner ≡ 1 → P u) (slice_set views port w)
owner_set P [] port v w o e mine p = absurd (some-ne-none v (sym e))
owner_set P (x ∷ xs) zero v w o e mine p =
    let same : x ≡ v = cc in
    let is : x.owner ≡ v.owner = ap (λ (u : DequeView). u.owner) same in
    let owners = sum_by-cons (λ (u : DequeView). u.owner) x xs in
    (λ _. p, no_owner P xs (omega (arith, owners, o, is, mine)))
owner_set P (x ∷ xs) (suc k) v w o e mine p =
    let le = total_le (λ (u : DequeView). u.owner) xs k v e in
    let owners = sum_by-cons (λ (u : DequeView). u.owner) x xs in
    (λ other. absurd (omega (arith, other, owners, o, le, mine)), owner_set P xs k v w (omega (arith, owners, o, le, mine)) e mine p)

-- a total that is 0 at each view but the owner's, which is the only one
none_else : (f : DequeView → ℕ) (views : List DequeView) → ((u : DequeView) → Fits u → u.owner ≡ 0 → u.out ≡ 0 → f u ≡ 0) → AllFit views → sum_by (λ (u : DequeView). u.owner) views ≡ 0 → sum_by (λ (u : DequeView). u.out) views ≡ 0 → sum_by f views ≡ 0
none_else f [] z a o p = refl
none_else f (x ∷ xs) z a o p =
    let one = sum_by-cons f x xs in
    let owners = sum_by-cons (λ (u : DequeView). u.owner) x xs in
    let outs = sum_by-cons (λ (u : DequeView). u.out) x xs in
    omega (arith, one, z x a.0 (omega arith) (omega arith), none_else f xs z a.1 (omega arith) (omega arith))

pub owner_only : (f : DequeView → ℕ) (views : List DequeView) (port : ℕ) (v : DequeView) → ((u : DequeView) → Fits u → u.owner ≡ 0 → u.out ≡ 0 → f u ≡ 0) → AllFit views
    → sum_by (λ (u : DequeView). u.owner) views ≡ 1 → sum_by (λ (u : DequeView). u.out) views ≡ 0 → get_elem? views port ≡ some v → v.owner ≡ 1 → sum_by f views ≡ f v
owner_only f [] port v z a o p e mine = absurd (some-ne-none v (sym e))
owner_only f (x ∷ xs) zero v z a o p e mine =
    let same : x ≡ v = cc in
    let s1 : f x ≡ f v = ap f same in
    let s2 : x.owner ≡ v.owner = ap (λ (u : DequeView). u.owner) same in
    let owners = sum_by-cons (λ (u : DequeView). u.owner) x xs in
    let outs = sum_by-cons (λ (u : DequeView). u.out) x xs in
    omega (arith, s1, sum_by-cons f x xs, none_else f xs z a.1 (omega arith) (omega arith))
owner_only f (x ∷ xs) (suc k) v z a o p e mine =
    let le = total_le (λ (u : DequeView). u.owner) xs k v e in
    let owners = sum_by-cons (λ (u : DequeView). u.owner) x xs in
    let outs = sum_by-cons (λ (u : DequeView). u.out) x xs in
    omega (arith, sum_by-cons f x xs, z x a.0 (omega arith) (omega arith), owner_only f xs k v z a.1 (omega arith) (omega arith) e mine)

-- made stealers stand in the owner's view alone
not_made : (views : List DequeView) → AllFit views → sum_by (λ (u : DequeView). u.owner) views ≡ 0 → sum_by (λ (u : DequeView). u.made) views ≡ 0
not_made [] a o = refl
not_made (x ∷ xs) a o =
    let owners = sum_by-cons (λ (u : DequeView). u.owner) x xs in
    omega (arith, sum_by-cons (λ (u : DequeView). u.made) x xs, a.0.made (omega arith), not_made xs a.1 (omega arith))

pub made_only : (views : List DequeView) (port : ℕ) (v : DequeView) → AllFit views → sum_by (λ (u : DequeView). u.owner) views ≡ 1 → get_elem? views port ≡ some v → v.owner ≡ 1 → sum_by (λ (u : DequeView). u.made) views ≡ v.made
made_only [] port v a o e mine = absurd (some-ne-none v (sym e))
made_only (x ∷ xs) zero v a o e mine =
    let same : x ≡ v = cc in
    let s1 : x.made ≡ v.made = ap (λ (u : DequeView). u.made) same in
    let s2 : x.owner ≡ v.owner = ap (λ (u : DequeView). u.owner) same in
    let owners = sum_by-cons (λ (u : DequeView). u.owner) x xs in
    omega (arith, s1, sum_by-cons (λ (u : DequeView). u.made) x xs, not_made xs a.1 (omega arith))
made_only (x ∷ xs) (suc k) v a o e mine =
    let le = total_le (λ (u : DequeView). u.owner) xs k v e in
    let owners = sum_by-cons (λ (u : DequeView). u.owner) x xs in
    omega (arith, sum_by-cons (λ (u : DequeView). u.made) x xs, a.0.made (omega arith), made_only xs k v a.1 (omega arith) e mine)
