-- Changing leaves one after the other.
use Rattle.std.proofs.Common.{◌≡◌, ℕ, zero, suc, ◌+◌, ◌<◌, ◌≤◌, List, [], ◌∷◌, ◌++◌, length, take, drop, set, All, refl, sym, ap, subst, ◌∙◌, arith}
use Rattle.std.proofs.Math.ListN.{get_or}
use Rattle.std.specs.Prelude.{map}
use Rattle.spec_trees.specs.declared.tree.Leaf.{Leaf}
use Rattle.spec_trees.specs.Tree.{HasTime}

-- the first so many of a list, changed by f, and the rest as they were
abbrev pub begun : (Leaf → Leaf) → ℕ → List Leaf → List Leaf
begun f i xs = map f (take i xs) ++ drop i xs

begun_next : (f : Leaf → Leaf) (i : ℕ) (xs : List Leaf) (d : Leaf) → i < length xs → set (begun f i xs) i (f (get_or xs i d)) ≡ begun f (suc i) xs
begun_next f i [] d below = absurd (omega (arith, below))
begun_next f zero (x ∷ xs) d below = refl
begun_next f (suc i) (x ∷ xs) d below = ap (λ ls. f x ∷ ls) (begun_next f i xs d (omega (arith, below)))

begun_more : (f : Leaf → Leaf) (i : ℕ) (xs : List Leaf) (d : Leaf) → i < length xs → set (begun f i xs) i (f (get_or xs i d)) ≡ begun f (i + 1) xs
begun_more f i xs d below =
    let same : suc i ≡ i + 1 = omega arith in
    begun_next f i xs d below ∙ ap (λ (k : ℕ). begun f k xs) same

-- one that is not changed yet
unchanged : (f : Leaf → Leaf) (i : ℕ) (xs : List Leaf) (d : Leaf) → i < length xs → get_or (begun f i xs) i d ≡ get_or xs i d
unchanged f i [] d below = absurd (omega (arith, below))
unchanged f zero (x ∷ xs) d below = refl
unchanged f (suc i) (x ∷ xs) d below = unchanged f i xs d (omega (arith, below))

all_begun : (f : Leaf → Leaf) (xs : List Leaf) → begun f (length xs) xs ≡ map f xs
all_begun f [] = refl
all_begun f (x ∷ xs) = ap (λ ls. f x ∷ ls) (all_begun f xs)

-- ---- one step of a loop, and its end
module _ (f : Leaf → Leaf) (i : ℕ) (xs ls : List Leaf) (so_far : ls ≡ begun f i xs) where
  here : (d : Leaf) → i < length xs → get_or ls i d ≡ get_or xs i d
  here d below = ap (λ (ms : List Leaf). get_or ms i d) so_far ∙ unchanged f i xs d below

  pub changed : (d r : Leaf) → i < length xs → r ≡ f (get_or ls i d) → set ls i r ≡ begun f (i + 1) xs
  changed d r below is =
      let next = is ∙ ap f (here d below) in
      (λ k. set (so_far k) i (next k)) ∙ begun_more f i xs d below

  pub has_time : (d : Leaf) → i < length xs → All HasTime xs → HasTime (get_or ls i d)
  has_time d below time = subst HasTime (sym (here d below)) (time i d below)

  pub ended : length xs ≤ i → i ≤ length xs → ls ≡ map f xs
  ended all few =
      let same : i ≡ length xs = omega (arith, all, few) in
      so_far ∙ ap (λ (k : ℕ). begun f k xs) same ∙ all_begun f xs
