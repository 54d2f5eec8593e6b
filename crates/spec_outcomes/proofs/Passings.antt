-- The search of a polynomial over a span that holds a time is one, and what it finds are the windows of its passings of 0.
use Rattle.std.proofs.Common.{◌≡◌, ◌⊎◌, ◌<◌, ◌≤◌, Bool, true, if◌then◌else◌, int_lt, ◌<ℤ◌, List, Ok, Err, sym, ap, ◌∙◌, subst, arith, inl, inr}
use Rattle.std.proofs.lemmas.Bool.{lt-ltb, le-ltb}
use Rattle.std.proofs.lemmas.Int.{ints}
use Rattle.spec_trees.specs.declared.tree.Leaf.{Leaf}
use Rattle.spec_trees.specs.Tree.{Covers, IsValid, leaf_count}
use Rattle.spec_trees.specs.Windows.{windows}
use Rattle.spec_trees.proofs.Covering.{leaves_cover}
use Rattle.spec_judged.proofs.Finding.{windows_of_tree}
use Rattle.spec_scalars.specs.QuadLaws.{quad_within}
use Rattle.spec_scalars.specs.Searches.{IsSearch, judged_by, rules}
use Rattle.spec_scalars.proofs.Sound.{is_judged, rules_are_sound}
use Rattle.spec_requests.specs.declared.request.ScalarAsk.{ScalarAsk}
use Rattle.spec_requests.specs.Limits.{IsScalarWithinLimits}
use Rattle.spec_output.specs.declared.limits.TheConstants.{MAX_LEAVES}
use Rattle.spec_outcomes.specs.declared.refusal.Refusal.{Refusal}
use Rattle.spec_outcomes.specs.declared.refusal.Refusal.TheVariants.{Memory, Outside, TooManyLeaves}
use Rattle.spec_outcomes.specs.Scalars.{ArePassings, AreScalarLeaves, found_scalar, quadratic_of, scalar_leaves, scalar_root, scalar_search, scalar_span, scalar_windows, searched_scalar, whole_scalar_span}

module _ (ask : ScalarAsk) where
  -- ---- the outcome of a search
  by_order : (ordered : Bool) → int_lt ask.from ask.to ≡ ordered → found_scalar ask ≡ (if ordered then searched_scalar ask else Err (Outside (scalar_span ask) whole_scalar_span))
  by_order ordered is = ap (λ (o : Bool). if o then searched_scalar ask else Err (Outside (scalar_span ask) whole_scalar_span)) is

  module _ (ordered : int_lt ask.from ask.to ≡ true) where
    pub few_found : leaf_count (rules (scalar_search ask)) (scalar_root ask) ≤ MAX_LEAVES → found_scalar ask ≡ Ok (scalar_leaves ask)
    unfolding searched_scalar
    few_found few =
        by_order true ordered ∙ ap (λ (many : Bool). if many then Err (TooManyLeaves MAX_LEAVES) else Ok (scalar_leaves ask))
        (le-ltb MAX_LEAVES (leaf_count (rules (scalar_search ask)) (scalar_root ask)) few)

    pub many_stop : MAX_LEAVES < leaf_count (rules (scalar_search ask)) (scalar_root ask) → found_scalar ask ≡ Err (TooManyLeaves MAX_LEAVES)
    unfolding searched_scalar
    many_stop many =
        by_order true ordered ∙ ap (λ (m : Bool). if m then Err (TooManyLeaves MAX_LEAVES) else Ok (scalar_leaves ask))
        (lt-ltb MAX_LEAVES (leaf_count (rules (scalar_search ask)) (scalar_root ask)) many)

  -- ---- the search
  module _ (limits : IsScalarWithinLimits ask) where
    pub is_search : IsSearch (scalar_search ask)
    is_search =
        let from = limits.from in
        let to = limits.to in
        let some = limits.some_width in
        record {
          scalar = record {
            low = omega (arith, ints, from);
            high = omega (arith, ints, to);
            keeps = λ a b p q r. quad_within (quadratic_of ask) a b;
          };
          some_width = omega (arith, some);
        }

    module _ (ordered : ask.from <ℤ ask.to) where
      pub root_valid : IsValid (rules (scalar_search ask)) (scalar_root ask)
      root_valid = record { from = omega (arith, ints); inside = ordered; to = omega (arith, ints); depth = omega arith }

      leaves_follow : Covers ask.from (scalar_leaves ask) ask.to
      leaves_follow = leaves_cover (rules (scalar_search ask)) (rules_are_sound (scalar_search ask) is_search) (scalar_root ask) root_valid

      pub passings_are : ArePassings ask (scalar_windows ask)
      passings_are = windows_of_tree (judged_by (scalar_search ask)) (is_judged (scalar_search ask) is_search) (scalar_root ask) root_valid

      -- no more leaves than a search may have are those that are found
      pub leaves_are : (ls : List Leaf) → ls ≡ scalar_leaves ask → leaf_count (rules (scalar_search ask)) (scalar_root ask) ≤ MAX_LEAVES → AreScalarLeaves ask ls
      leaves_are ls same few = record {
        outcome = few_found (grind (arith, ints, ordered)) few ∙ ap (λ (vs : List Leaf). Ok vs) (sym same);
        same = same;
        follow = subst (λ (vs : List Leaf). Covers ask.from vs ask.to) (sym same) leaves_follow;
        windows = subst (λ (vs : List Leaf). ArePassings ask (windows vs)) (sym same) passings_are;
      }

      -- too many stop the search
      pub leaves_stop : (r : Refusal) → (r ≡ Memory) ⊎ ((r ≡ TooManyLeaves MAX_LEAVES) × (MAX_LEAVES < leaf_count (rules (scalar_search ask)) (scalar_root ask)))
          → (r ≡ Memory) ⊎ (found_scalar ask ≡ Err r)
      leaves_stop r (inl none) = inl none
      leaves_stop r (inr many) = inr (many_stop (grind (arith, ints, ordered)) many.1 ∙ ap (λ (s : Refusal). Err s) (sym many.0))
