-- Lists in which one element changes, and lists that stand beside one another.
use Rattle.std.proofs.Common.{◌≡◌, ◌≢◌, inl, inr, ℕ, zero, suc, ◌+◌, ◌<◌, List, [], ◌∷◌, ◌++◌, map, reverse, length, Option, Some, slice_get, slice_set, append_assoc, refl, sym, ap, ◌∙◌, subst, arith}
use mathlib.Core.List.{reverse_aux}
use Rattle.std.proofs.lemmas.Bool.{cases_eq}
use Rattle.std.proofs.lemmas.List.{append-nil, reverse-reverse}
use Rattle.std.specs.List.{AllByRecursion, AllZip}
use Rattle.spec_pool.proofs.Weights.{weigh}

module _ {A : Type 0} where
  pub get_same : (xs : List A) (i : ℕ) (x y : A) → slice_get xs i ≡ Some x → slice_get (slice_set xs i y) i ≡ Some y
  get_same [] i x y e = absurd cc
  get_same (z ∷ xs) zero x y e = refl
  get_same (z ∷ xs) (suc i) x y e = get_same xs i x y e

  pub get_other : (xs : List A) (i k : ℕ) (y : A) → k ≢ i → slice_get (slice_set xs i y) k ≡ slice_get xs k
  get_other [] i k y n = refl
  get_other (z ∷ xs) zero zero y n = absurd (n refl)
  get_other (z ∷ xs) zero (suc k) y n = refl
  get_other (z ∷ xs) (suc i) zero y n = refl
  get_other (z ∷ xs) (suc i) (suc k) y n = get_other xs i k y (λ e. n (ap suc e))

  pub one_some : (o : Option A) (x y : A) → o ≡ Some x → o ≡ Some y → x ≡ y
  one_some o x y e f = cc

  -- what holds of each element, by its place, holds after one of them changed for another of which it holds
  pub keep_each : (P : ℕ → A → Type 0) (xs : List A) (i : ℕ) (x y : A) → slice_get xs i ≡ Some x → (P i x → P i y)
      → ((k : ℕ) (z : A) → slice_get xs k ≡ Some z → P k z) → (k : ℕ) (z : A) → slice_get (slice_set xs i y) k ≡ Some z → P k z
  keep_each P xs i x y at step each k z e = elim (cases_eq k i) [
    | inl same ↦
        let here : slice_get (slice_set xs i y) i ≡ Some z = ap (slice_get (slice_set xs i y)) (sym same) ∙ e in
        let is : y ≡ z = one_some (slice_get (slice_set xs i y) i) y z (get_same xs i x y at) here in
        subst (λ (m : ℕ). P m z) (sym same) (subst (P i) is (step (each i x at)))
    | inr apart ↦ each k z (sym (get_other xs i k y apart) ∙ e)
  ]

  pub within : (xs : List A) (i : ℕ) (x : A) → slice_get xs i ≡ Some x → i < length xs
  within [] i x e = absurd cc
  within (z ∷ xs) zero x e = omega arith
  within (z ∷ xs) (suc i) x e = omega (arith, within xs i x e)

  pub all_get : (P : A → Type 0) (xs : List A) (i : ℕ) (x : A) → AllByRecursion P xs → slice_get xs i ≡ Some x → P x
  all_get P [] i x all e = absurd cc
  all_get P (z ∷ xs) zero x all e = let same : z ≡ x = cc in subst P same all.0
  all_get P (z ∷ xs) (suc i) x all e = all_get P xs i x all.1 e

  pub all_set : (P : A → Type 0) (xs : List A) (i : ℕ) (y : A) → P y → AllByRecursion P xs → AllByRecursion P (slice_set xs i y)
  all_set P [] i y p all = tt
  all_set P (x ∷ xs) zero y p all = (p, all.1)
  all_set P (x ∷ xs) (suc i) y p all = (all.0, all_set P xs i y p all.1)

  pub all_more : (P Q : A → Type 0) (xs : List A) → ((x : A) → P x → Q x) → AllByRecursion P xs → AllByRecursion Q xs
  all_more P Q [] step all = tt
  all_more P Q (x ∷ xs) step all = (step x all.0, all_more P Q xs step all.1)

  pub all_push : (P : A → Type 0) (xs : List A) (y : A) → AllByRecursion P xs → P y → AllByRecursion P (xs ++ y ∷ [])
  all_push P [] y all p = (p, tt)
  all_push P (x ∷ xs) y all p = (all.0, all_push P xs y all.1 p)

  pub all_left : (P : A → Type 0) (xs ys : List A) → AllByRecursion P (xs ++ ys) → AllByRecursion P xs
  all_left P [] ys all = tt
  all_left P (x ∷ xs) ys all = (all.0, all_left P xs ys all.1)

  pub all_right : (P : A → Type 0) (xs ys : List A) → AllByRecursion P (xs ++ ys) → AllByRecursion P ys
  all_right P [] ys all = all
  all_right P (x ∷ xs) ys all = all_right P xs ys all.1

  all_onto : (P : A → Type 0) (xs ys : List A) → AllByRecursion P xs → AllByRecursion P ys → AllByRecursion P (reverse_aux xs ys)
  all_onto P [] ys a b = b
  all_onto P (x ∷ xs) ys a b = all_onto P xs (x ∷ ys) a.1 (a.0, b)

  pub all_reverse : (P : A → Type 0) (xs : List A) → AllByRecursion P xs → AllByRecursion P (reverse xs)
  all_reverse P xs a = all_onto P xs [] a tt

  pub all_each : (P : A → Type 0) (xs : List A) → ((k : ℕ) (x : A) → slice_get xs k ≡ Some x → P x) → AllByRecursion P xs
  all_each P [] each = tt
  all_each P (x ∷ xs) each = (each 0 x refl, all_each P xs (λ k y e. each (suc k) y e))

  pub weigh_none : (f : A → ℕ) (xs : List A) → ((k : ℕ) (x : A) → slice_get xs k ≡ Some x → f x ≡ 0) → weigh f xs ≡ 0
  weigh_none f [] each = refl
  weigh_none f (x ∷ xs) each = omega (arith, each 0 x refl, weigh_none f xs (λ k y e. each (suc k) y e))

  pub set_length : (xs : List A) (i : ℕ) (y : A) → length (slice_set xs i y) ≡ length xs
  set_length [] i y = refl
  set_length (x ∷ xs) zero y = refl
  set_length (x ∷ xs) (suc i) y = omega (arith, set_length xs i y)

  -- a list that is gone through
  pub whole_step : (all front rest more : List A) (x : A) → all ≡ front ++ rest → rest ≡ x ∷ more → all ≡ (front ++ x ∷ []) ++ more
  whole_step all front rest more x e f = e ∙ ap (λ (l : List A). front ++ l) f ∙ sym (append_assoc front (x ∷ []) more)

  pub nothing : (xs : List A) → length xs ≡ 0 → xs ≡ []
  nothing [] e = refl
  nothing (x ∷ xs) e = absurd (omega (arith, e))

  pub whole_end : (all front rest : List A) → all ≡ front ++ rest → length rest ≡ 0 → all ≡ front
  whole_end all front rest e none = e ∙ ap (λ (l : List A). front ++ l) (nothing rest none) ∙ append-nil front

  pub all_at_end : (P : A → Type 0) (all front rest more : List A) (x : A) → AllByRecursion P all → all ≡ front ++ rest → rest ≡ x ∷ more → P x
  all_at_end P all front rest more x every e f = (all_right P front (x ∷ more) (subst (AllByRecursion P) (e ∙ ap (λ (l : List A). front ++ l) f) every)).0

  pub set_same : (xs : List A) (i : ℕ) (x : A) → slice_get xs i ≡ Some x → slice_set xs i x ≡ xs
  set_same [] i x e = refl
  set_same (y ∷ xs) zero x e = let same : y ≡ x = cc in ap (λ (z : A). z ∷ xs) (sym same)
  set_same (y ∷ xs) (suc i) x e = ap (λ (l : List A). y ∷ l) (set_same xs i x e)

  pub length_push : (xs : List A) (x : A) → length (xs ++ x ∷ []) ≡ length xs + 1
  length_push [] x = refl
  length_push (y ∷ xs) x = omega (arith, length_push xs x)

module _ {A B : Type 0} (f : A → B) where
  pub map_push : (xs : List A) (x : A) → map f (xs ++ x ∷ []) ≡ map f xs ++ f x ∷ []
  map_push [] x = refl
  map_push (y ∷ xs) x = ap (λ (l : List B). f y ∷ l) (map_push xs x)

  pub map_set : (xs : List A) (i : ℕ) (y : A) → map f (slice_set xs i y) ≡ slice_set (map f xs) i (f y)
  map_set [] i y = refl
  map_set (x ∷ xs) zero y = refl
  map_set (x ∷ xs) (suc i) y = ap (λ (l : List B). f x ∷ l) (map_set xs i y)

  pub map_keep : (xs : List A) (i : ℕ) (x y : A) → slice_get xs i ≡ Some x → f y ≡ f x → map f (slice_set xs i y) ≡ map f xs
  map_keep [] i x y e same = refl
  map_keep (z ∷ xs) zero x y e same = let is : z ≡ x = cc in ap (λ (b : B). b ∷ map f xs) (same ∙ ap f (sym is))
  map_keep (z ∷ xs) (suc i) x y e same = ap (λ (l : List B). f z ∷ l) (map_keep xs i x y e same)

  pub map_length : (xs ys : List A) → map f ys ≡ map f xs → length ys ≡ length xs
  map_length xs ys e = sym (counts ys) ∙ ap length e ∙ counts xs
    where
      counts : (zs : List A) → length (map f zs) ≡ length zs
      counts [] = refl
      counts (z ∷ zs) = omega (arith, counts zs)

  pub map_all : (P : A → Type 0) (xs ys : List A) → ((x y : A) → f y ≡ f x → P x → P y) → map f ys ≡ map f xs → AllByRecursion P xs → AllByRecursion P ys
  map_all P [] [] step e all = tt
  map_all P [] (y ∷ ys) step e all = absurd cc
  map_all P (x ∷ xs) [] step e all = absurd cc
  map_all P (x ∷ xs) (y ∷ ys) step e all =
      let first : f y ≡ f x = cc in
      let more : map f ys ≡ map f xs = cc in
      (step x y first all.0, map_all P xs ys step more all.1)

  pub map_at : (xs : List A) (k : ℕ) (x : A) → slice_get xs k ≡ Some x → slice_get (map f xs) k ≡ Some (f x)
  map_at [] k x e = absurd cc
  map_at (y ∷ xs) zero x e = let same : y ≡ x = cc in ap (λ (z : A). Some (f z)) same
  map_at (y ∷ xs) (suc k) x e = map_at xs k x e

  pub map_from : (xs : List A) (k : ℕ) (y : B) → slice_get (map f xs) k ≡ Some y → (x : A) × (slice_get xs k ≡ Some x) × (f x ≡ y)
  map_from [] k y e = absurd cc
  map_from (x ∷ xs) zero y e = (x, refl, cc)
  map_from (x ∷ xs) (suc k) y e = map_from xs k y e

-- ---- lists beside one another
module _ {A B : Type 0} (R : A → B → Type 0) where
  pub zip_push : (xs : List A) (ys : List B) (x : A) (y : B) → AllZip R xs ys → R x y → AllZip R (xs ++ x ∷ []) (ys ++ y ∷ [])
  zip_push [] [] x y b r = (r, tt)
  zip_push [] (v ∷ ys) x y b r = absurd b
  zip_push (u ∷ xs) [] x y b r = absurd b
  zip_push (u ∷ xs) (v ∷ ys) x y b r = (b.0, zip_push xs ys x y b.1 r)

  zip_onto : (xs : List A) (ys : List B) (us : List A) (vs : List B) → AllZip R xs ys → AllZip R us vs → AllZip R (reverse_aux xs us) (reverse_aux ys vs)
  zip_onto [] [] us vs a b = b
  zip_onto [] (y ∷ ys) us vs a b = absurd a
  zip_onto (x ∷ xs) [] us vs a b = absurd a
  zip_onto (x ∷ xs) (y ∷ ys) us vs a b = zip_onto xs ys (x ∷ us) (y ∷ vs) a.1 (a.0, b)

  zip_reverse : (xs : List A) (ys : List B) → AllZip R xs ys → AllZip R (reverse xs) (reverse ys)
  zip_reverse xs ys a = zip_onto xs ys [] [] a tt

  -- one of them is reversed before, the other after
  pub zip_reversed : (xs us : List A) (ys vs : List B) → us ≡ reverse xs → vs ≡ reverse ys → AllZip R us ys → AllZip R xs vs
  zip_reversed xs us ys vs e f a = subst (AllZip R xs) (sym f) (subst (λ (zs : List A). AllZip R zs (reverse ys)) (ap reverse e ∙ reverse-reverse xs) (zip_reverse us ys a))

  pub zip_length : (xs : List A) (ys : List B) → AllZip R xs ys → length ys ≡ length xs
  zip_length [] [] b = refl
  zip_length [] (v ∷ ys) b = absurd b
  zip_length (u ∷ xs) [] b = absurd b
  zip_length (u ∷ xs) (v ∷ ys) b = omega (arith, zip_length xs ys b.1)

  pub zip_map : {C : Type 0} (f : A → C) (g : B → C) (xs : List A) (ys : List B) → ((x : A) (y : B) → R x y → g y ≡ f x) → AllZip R xs ys → map g ys ≡ map f xs
  zip_map f g [] [] each b = refl
  zip_map f g [] (v ∷ ys) each b = absurd b
  zip_map f g (u ∷ xs) [] each b = absurd b
  zip_map f g (u ∷ xs) (v ∷ ys) each b = λ i. each u v b.0 i ∷ zip_map f g xs ys each b.1 i

  pub zip_all : (P : A → Type 0) (Q : B → Type 0) (xs : List A) (ys : List B) → ((x : A) (y : B) → R x y → P x → Q y) → AllZip R xs ys → AllByRecursion P xs → AllByRecursion Q ys
  zip_all P Q [] [] each b all = tt
  zip_all P Q [] (v ∷ ys) each b all = absurd b
  zip_all P Q (u ∷ xs) [] each b all = absurd b
  zip_all P Q (u ∷ xs) (v ∷ ys) each b all = (each u v b.0 all.0, zip_all P Q xs ys each b.1 all.1)

  pub zip_get : (xs : List A) (ys : List B) (k : ℕ) (y : B) → AllZip R xs ys → slice_get ys k ≡ Some y → (x : A) × (slice_get xs k ≡ Some x) × R x y
  zip_get [] [] k y b e = absurd cc
  zip_get [] (v ∷ ys) k y b e = absurd b
  zip_get (u ∷ xs) [] k y b e = absurd b
  zip_get (u ∷ xs) (v ∷ ys) zero y b e = let same : v ≡ y = cc in (u, refl, subst (R u) same b.0)
  zip_get (u ∷ xs) (v ∷ ys) (suc k) y b e = zip_get xs ys k y b.1 e

  pub zip_at : (xs : List A) (ys : List B) (k : ℕ) (x : A) → AllZip R xs ys → slice_get xs k ≡ Some x → (y : B) × (slice_get ys k ≡ Some y) × R x y
  zip_at [] [] k x b e = absurd cc
  zip_at [] (v ∷ ys) k x b e = absurd b
  zip_at (u ∷ xs) [] k x b e = absurd b
  zip_at (u ∷ xs) (v ∷ ys) zero x b e = let same : u ≡ x = cc in (v, refl, subst (λ (z : A). R z v) same b.0)
  zip_at (u ∷ xs) (v ∷ ys) (suc k) x b e = zip_at xs ys k x b.1 e

  pub zip_set : (xs : List A) (ys : List B) (i : ℕ) (y y' : B) → slice_get ys i ≡ Some y → ((x : A) → R x y → R x y') → AllZip R xs ys → AllZip R xs (slice_set ys i y')
  zip_set [] [] i y y' e step b = absurd cc
  zip_set [] (v ∷ ys) i y y' e step b = absurd b
  zip_set (u ∷ xs) [] i y y' e step b = absurd b
  zip_set (u ∷ xs) (v ∷ ys) zero y y' e step b = let same : v ≡ y = cc in (step u (subst (R u) same b.0), b.1)
  zip_set (u ∷ xs) (v ∷ ys) (suc i) y y' e step b = (b.0, zip_set xs ys i y y' e step b.1)

pub zip_self : {A : Type 0} (R : A → A → Type 0) (xs : List A) → ((x : A) → R x x) → AllZip R xs xs
zip_self R [] each = tt
zip_self R (x ∷ xs) each = (each x, zip_self R xs each)
