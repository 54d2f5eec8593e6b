-- Of spans in order two alone can begin in a node: the last that begins no later than the node, and the first that begins later.
use Rattle.std.proofs.Common.{◌≡◌, ◌<◌, ◌≤◌, ◌+◌, ℕ, Bool, true, false, ◌&&◌, ◌<ℤ◌, List, length, inl, inr, refl, sym, ◌∙◌, subst, arith}
use Rattle.std.proofs.Math.ListN.{get_or}
use Rattle.std.proofs.lemmas.Bool.{and_parts, cases_lt, ltb-true, lt-ltb}
use Rattle.std.proofs.lemmas.Int.{ints}
use Rattle.std.proofs.lemmas.List.Elements.{All-from_get_or}
use Rattle.std.proofs.lemmas.List.Folds.{list_any_at, list_any_none}
use Rattle.std.specs.Prelude.{int_le, int_lt, nat_lt}
use Rattle.spec_trees.specs.declared.tree.Node.{Node}
use Rattle.spec_stills.specs.declared.still.StillSpan.{StillSpan}
use Rattle.spec_stills.specs.Eager.{begin_in}
use Rattle.still_judge.specs.Stands.{IsCount, begins_in}
use Rattle.still_judge.proofs.FollowingNodes.{ends_before, followed, has_time}

is_second : (p q : Bool) → p ≡ true → (p && q) ≡ false → q ≡ false
is_second p q e both = grind arith

module _ (n : Node) (xs : List StillSpan) where
  -- there is a span at the place, and it begins in the node
  abbrev pub at : ℕ → StillSpan → Bool
  at k d = nat_lt k (length xs) && begins_in (get_or xs k d) n

  pub begun_at : (k : ℕ) (d : StillSpan) → at k d ≡ true → begin_in xs n ≡ true
  begun_at k d e =
      let parts = and_parts (nat_lt k (length xs)) (begins_in (get_or xs k d) n) e in
      list_any_at (λ x. int_le n.a x.from && int_lt x.from n.b) xs k d (ltb-true k (length xs) parts.0) parts.1

  not_at : (k : ℕ) (d : StillSpan) → k < length xs → at k d ≡ false → begins_in (get_or xs k d) n ≡ false
  not_at k d below e = is_second (nat_lt k (length xs)) (begins_in (get_or xs k d) n) (lt-ltb k (length xs) below) e

  none_begins : (d : StillSpan) → ((k : ℕ) → k < length xs → begins_in (get_or xs k d) n ≡ false) → begin_in xs n ≡ false
  none_begins d never = list_any_none (λ x. int_le n.a x.from && int_lt x.from n.b) xs (All-from_get_or (λ x. begins_in x n ≡ false) xs d never)

  module _ (inside : n.a <ℤ n.b) (count : ℕ) (is : IsCount n xs count) (d : StillSpan) where
    -- one that begins earlier than another that begins no later than the node
    earlier : (j k : ℕ) → j < k → k < count → begins_in (get_or xs j d) n ≡ false
    earlier j k less few =
        let walk = followed xs is.order in
        let within = is.within in
        let ends = ends_before walk.0 xs walk.1 j k d d less (omega (arith, few, within)) in
        let some = has_time walk.0 xs walk.1 j d (omega (arith, less, few, within)) in
        let upto = is.upto.0 k d (omega arith) few in
        grind (arith, ints, ends, some, upto)

    -- one that begins later than another that begins after the node's first time, and not in it
    later : (j k : ℕ) → count ≤ j → j < k → k < length xs → begins_in (get_or xs j d) n ≡ false → begins_in (get_or xs k d) n ≡ false
    later j k many less below outside =
        let walk = followed xs is.order in
        let ends = ends_before walk.0 xs walk.1 j k d d less below in
        let some = has_time walk.0 xs walk.1 j d (omega (arith, less, below)) in
        let after = is.upto.1 j d many (omega (arith, less, below)) in
        grind (arith, ints, ends, some, after, outside)

    from_count : (k : ℕ) → count ≤ k → k < length xs → at count d ≡ false → begins_in (get_or xs k d) n ≡ false
    from_count k many below none =
        elim (cases_lt count k) [
          | inl less ↦ later count k (omega arith) less below (not_at count d (omega (arith, less, below)) none)
          | inr no_more ↦ subst (λ (j : ℕ). begins_in (get_or xs j d) n ≡ false) (omega (arith, many, no_more)) (not_at count d (omega (arith, many, below)) none)
        ]

    before_count : (place : ℕ) → place + 1 ≡ count → (k : ℕ) → k < count → at place d ≡ false → begins_in (get_or xs k d) n ≡ false
    before_count place before k few none =
        elim (cases_lt k place) [
          | inl less ↦ earlier k place less (omega (arith, before))
          | inr no_less ↦ subst (λ (j : ℕ). begins_in (get_or xs j d) n ≡ false) (omega (arith, before, few, no_less)) (not_at place d (let within = is.within in omega (arith, before, within)) none)
        ]

    pub none_begun : at count d ≡ false → count ≡ 0 → begin_in xs n ≡ false
    none_begun none first = none_begins d (λ k below. from_count k (omega (arith, first)) below none)

    pub begun_by : (place : ℕ) → place + 1 ≡ count → at count d ≡ false → begin_in xs n ≡ at place d
    begun_by place before none = by (at place d) refl
      where
        by : (b : Bool) → at place d ≡ b → begin_in xs n ≡ at place d
        by true e = begun_at place d e ∙ sym e
        by false e =
            none_begins d (λ k below. elim (cases_lt k count) [
              | inl few ↦ before_count place before k few e
              | inr many ↦ from_count k many below none
            ]) ∙ sym e
