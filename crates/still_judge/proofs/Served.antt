-- Of spans in order one alone can serve a node: the last that begins no later than the node.
use Rattle.std.proofs.Common.{◌≡◌, ◌<◌, ◌≤◌, ◌+◌, ◌-◌, ℕ, zero, suc, Bool, true, false, ◌&&◌, ◌||◌, ◌<ℤ◌, List, [], ◌∷◌, length, Option, None, Some, inl, inr, refl, sym, ap, ◌∙◌, subst, arith}
use Rattle.std.proofs.Math.ListN.{get_or}
use Rattle.std.proofs.lemmas.Bool.{cases_lt}
use Rattle.std.proofs.lemmas.Int.{ints}
use Rattle.std.specs.Prelude.{int_le, if◌then◌else◌, is_some}
use Rattle.std.specs.List.Sorted.{IsPartitionPoint}
use Rattle.spec_trees.specs.declared.tree.Node.{Node}
use Rattle.spec_searches.specs.Search.{Search}
use Rattle.spec_stills.specs.declared.still.StillSpan.{StillSpan}
use Rattle.spec_stills.specs.Weights.{first_serving}
use Rattle.spec_stills.specs.Still.{is_fine_enough, is_near_enough, is_served, serves}
use Rattle.still_judge.specs.Order.{are_in_order}
use Rattle.still_judge.proofs.FollowingNodes.{ends_before, followed}

-- ---- the span that serves a node tells whether one does, and the weight of a leaf
served_by : (b : Bool) (x : StillSpan) (rest : Option StillSpan) (served : Bool) → served ≡ is_some rest → (b || served) ≡ is_some (if b then Some x else rest)
served_by true x rest served is = refl
served_by false x rest served is = is

pub is_served_is : (s : Search) (xs : List StillSpan) (n : Node) → is_served s xs n ≡ is_some (first_serving s xs n)
is_served_is s [] n = refl
is_served_is s (x ∷ xs) n = served_by (serves s x n) x (first_serving s xs n) (is_served s xs n) (is_served_is s xs n)

-- ---- one alone
module _ (s : Search) (n : Node) where
  passed : (b : Bool) (x : StillSpan) (rest : Option StillSpan) → b ≡ false → (if b then Some x else rest) ≡ rest
  passed b x rest e = rw e refl

  chosen : (b : Bool) (x : StillSpan) (rest : Option StillSpan) → rest ≡ None → (if b then Some x else rest) ≡ (if b then Some x else None)
  chosen b x rest e = rw e refl

  pub none_serves : (xs : List StillSpan) → ((j : ℕ) (d : StillSpan) → j < length xs → serves s (get_or xs j d) n ≡ false) → first_serving s xs n ≡ None
  none_serves [] never = refl
  none_serves (x ∷ xs) never = passed (serves s x n) x (first_serving s xs n) (never 0 x (omega arith)) ∙ none_serves xs (λ j d below. never (suc j) d (omega (arith, below)))

  pub one_serves : (xs : List StillSpan) (k : ℕ) (d : StillSpan) → k < length xs
      → ((j : ℕ) (e : StillSpan) → j < length xs → (j ≡ k → ⊥) → serves s (get_or xs j e) n ≡ false)
      → first_serving s xs n ≡ (if serves s (get_or xs k d) n then Some (get_or xs k d) else None)
  one_serves [] k d below never = absurd (omega (arith, below))
  one_serves (x ∷ xs) zero d below never =
      chosen (serves s x n) x (first_serving s xs n) (none_serves xs (λ j e less. never (suc j) e (omega (arith, less)) (λ same. absurd (omega (arith, same)))))
  one_serves (x ∷ xs) (suc k) d below never =
      passed (serves s x n) x (first_serving s xs n) (never 0 x (omega arith) (λ same. absurd (omega (arith, same))))
      ∙ one_serves xs k d (omega (arith, below)) (λ j e less other. never (suc j) e (omega (arith, less)) (λ same. other (omega (arith, same))))

  -- ---- where the node does not lie within a span
  begins_after : (x : StillSpan) → int_le x.from n.a ≡ false → serves s x n ≡ false
  begins_after x e = rw e refl

  ends_early : (x : StillSpan) → int_le n.b x.upto ≡ false → serves s x n ≡ false
  ends_early x e = by (int_le x.from n.a) (int_le n.b x.upto) (is_near_enough s x n && is_fine_enough s x) e
    where
      by : (p q r : Bool) → q ≡ false → ((p && q) && r) ≡ false
      by p q r e = grind arith

  module _ (xs : List StillSpan) (inside : n.a <ℤ n.b) (ordered : are_in_order xs ≡ true) where
    -- the node begins after an earlier span has ended
    earlier : (j k : ℕ) (d e : StillSpan) → j < k → k < length xs → int_le (get_or xs k e).from n.a ≡ true → serves s (get_or xs j d) n ≡ false
    earlier j k d e less below upto =
        let walk = followed xs ordered in
        let ends = ends_before walk.0 xs walk.1 j k d e less below in
        ends_early (get_or xs j d) (grind (arith, ints, ends, inside, upto))

    pub none_upto : IsPartitionPoint (λ x. int_le x.from n.a ≡ true) (λ x. int_le x.from n.a ≡ false) xs 0 → first_serving s xs n ≡ None
    none_upto point = none_serves xs (λ j d below. begins_after (get_or xs j d) (point.1 j d (omega arith) below))

    pub last_upto : (k : ℕ) (d : StillSpan) → k < length xs → IsPartitionPoint (λ x. int_le x.from n.a ≡ true) (λ x. int_le x.from n.a ≡ false) xs (k + 1)
        → first_serving s xs n ≡ (if serves s (get_or xs k d) n then Some (get_or xs k d) else None)
    last_upto k d below point = one_serves xs k d below other
      where
        other : (j : ℕ) (e : StillSpan) → j < length xs → (j ≡ k → ⊥) → serves s (get_or xs j e) n ≡ false
        other j e less differs =
            elim (cases_lt j k) [
              | inl before ↦ earlier j k e d before below (point.0 k d (omega arith) (omega arith))
              | inr after ↦ begins_after (get_or xs j e) (point.1 j e (by j k after differs) less)
            ]
          where
            by : (j k : ℕ) → k ≤ j → (j ≡ k → ⊥) → (k + 1) ≤ j
            by j k after differs = elim (cases_lt k j) [ inl less ↦ omega (arith, less) | inr no_more ↦ absurd (differs (omega (arith, after, no_more))) ]

    -- the place before the last is taken by subtraction
    module _ (count place : ℕ) (some : 1 ≤ count) (before : place ≡ count - 1) (within : count ≤ length xs) (point : IsPartitionPoint (λ x. int_le x.from n.a ≡ true) (λ x. int_le x.from n.a ≡ false) xs count)
        (x : StillSpan) (there : (d : StillSpan) → x ≡ get_or xs place d) where
      found : first_serving s xs n ≡ (if serves s x n then Some x else None)
      found =
          last_upto place x (omega (arith, some, before, within))
          (subst (IsPartitionPoint (λ x. int_le x.from n.a ≡ true) (λ x. int_le x.from n.a ≡ false) xs) (omega (arith, some, before)) point)
          ∙ ap (λ (y : StillSpan). if serves s y n then Some y else None) (sym (there x))

      pub this_serves : serves s x n ≡ true → Some x ≡ first_serving s xs n
      this_serves is = sym (found ∙ ap (λ (b : Bool). if b then Some x else None) is)

      pub this_fails : serves s x n ≡ false → None ≡ first_serving s xs n
      this_fails is = sym (found ∙ ap (λ (b : Bool). if b then Some x else None) is)
