-- The search of a judge is one, its windows are those of its events, and the verdict of a node is found in stages.
use Rattle.std.proofs.Common.{◌≡◌, ◌^◌, ◌<◌, Bool, true, false, not, ◌||◌, ℤ, pos, neg_ℤ, ◌≤ℤ◌, ◌<ℤ◌, List, [], refl, ◌∙◌, sym, subst, Result, Ok, Err, ap, w64, to_z, of_z, arith}
use Rattle.std.specs.Prelude.{IfOk}
use Rattle.std.proofs.lemmas.Int.{ints, fits_signed_from_abs, to_z-of_z}
use mir.Val.{SFits}
use Rattle.spec_trees.specs.declared.tree.Leaf.{Leaf}
use Rattle.spec_trees.specs.declared.tree.Node.{Node}
use Rattle.spec_trees.specs.declared.tree.Verdict.TheVariants.{Clear}
use Rattle.spec_trees.specs.Cuts.{is_wide}
use Rattle.spec_trees.specs.Tree.{IsSound, IsValid, leaves}
use Rattle.spec_trees.specs.Windows.{windows}
use Rattle.spec_events.specs.Events.{AreWindows}
use Rattle.spec_events.specs.Soundness.{findings_of}
use Rattle.spec_events.specs.Stages.{end_verdict, limit_verdict, staged_verdict}
use Rattle.spec_events.specs.Verdict.{is_one_way}
use Rattle.spec_events.proofs.Stages.{staged}
use Rattle.spec_judged.proofs.Finding.{windows_of_tree}
use Rattle.spec_scalars.specs.declared.plan.Plan.{Plan}
use Rattle.spec_scalars.specs.declared.reach.Reach.{Reach}
use Rattle.spec_scalars.specs.Scalars.{KeepsReach, Scalar}
use Rattle.spec_scalars.specs.Searches.{IsLeftUndecided, IsSearch, Search, criteria, events, evidence_at, judged_by, rules, search_over, step_of, verdict_of}
use Rattle.spec_scalars.proofs.Sound.{is_judged, rules_are_sound}
use Rattle.gf_uds.specs.Found.{is_steady_by, is_turnless_by, reach_sign}

-- ---- a law over a span of its times
module _ (scalar : Scalar) (first last : ℤ) (plan : Plan) (keeps : KeepsReach scalar) (from : scalar.first ≤ℤ first) (to : last ≤ℤ scalar.last) (low : neg_ℤ (pos (2 ^ 50)) ≤ℤ first) (high : last ≤ℤ pos (2 ^ 50)) (some : 0 < plan.width) where
  pub is_search : IsSearch (search_over scalar first last plan)
  is_search = record {
    scalar = record { low = low; high = high; keeps = λ a b p q r. keeps a b (omega (arith, ints, from, p)) q (omega (arith, ints, r, to)) };
    some_width = some;
  }

  pub is_sound : IsSound (rules (search_over scalar first last plan))
  is_sound = rules_are_sound (search_over scalar first last plan) is_search

  -- what is made of the leaves of a tree has its windows
  pub windows_of_result : {X E : Type 0} (list : X → List Leaf) (n : Node) → IsValid (rules (search_over scalar first last plan)) n → (r : Result X E)
      → IfOk r (λ x. list x ≡ leaves (rules (search_over scalar first last plan)) n)
      → IfOk r (λ x. AreWindows (events (search_over scalar first last plan)) (IsLeftUndecided (search_over scalar first last plan) n) n.a n.b (windows (list x)))
  windows_of_result list n valid (Ok x) e =
      let s = search_over scalar first last plan in
      subst (λ (ls : List Leaf). AreWindows (events s) (IsLeftUndecided s n) n.a n.b (windows ls)) (sym e) (windows_of_tree (judged_by s) (is_judged s is_search) n valid)
  windows_of_result list n valid (Err e) f = tt

-- ---- the verdict in stages
-- the ends of a node, as they are read
module _ (first last : ℤ) (n : Node) (low : neg_ℤ (pos (2 ^ 50)) ≤ℤ first) (high : last ≤ℤ pos (2 ^ 50)) (from : first ≤ℤ n.a) (inside : n.a <ℤ n.b) (to : n.b ≤ℤ last) where
  a_fits : SFits w64 n.a
  a_fits = fits_signed_from_abs w64 n.a (omega (arith, ints, low, high, from, inside, to))

  b_fits : SFits w64 n.b
  b_fits = fits_signed_from_abs w64 n.b (omega (arith, ints, low, high, from, inside, to))

  pub as_read : (f : ℤ → ℤ → Reach) → f (to_z w64 (of_z w64 n.a)) (to_z w64 (of_z w64 n.b)) ≡ f n.a n.b
  as_read f = λ i. f (to_z-of_z w64 n.a a_fits i) (to_z-of_z w64 n.b b_fits i)

module _ (s : Search) (n : Node) (inside : n.a <ℤ n.b) (some : 0 < s.plan.width) (whole : Reach) (same : whole ≡ s.scalar.reach n.a n.b) where
  stages : verdict_of s n ≡ staged_verdict (criteria s) n (findings_of (evidence_at s n))
  unfolding verdict_of
  stages = staged (criteria s) n (findings_of (evidence_at s n)) inside some

  told : (b : Bool) → is_turnless_by s.plan whole ≡ b → is_turnless_by s.plan (s.scalar.reach n.a n.b) ≡ b
  told b e = ap (λ (r : Reach). is_turnless_by s.plan r) (sym same) ∙ e

  ends_tell : (b : Bool) → is_steady_by n whole ≡ b → is_steady_by n (s.scalar.reach n.a n.b) ≡ b
  ends_tell b e = ap (λ (r : Reach). is_steady_by n r) (sym same) ∙ e

  pub turnless : is_turnless_by s.plan whole ≡ true → verdict_of s n ≡ Clear
  turnless e = stages ∙ rw (told true e) refl

  -- where its ends tell
  pub ended : is_turnless_by s.plan whole ≡ false → is_steady_by n whole ≡ true
      → verdict_of s n ≡ end_verdict (criteria s) n [] (reach_sign (s.scalar.reach n.a n.a)) (reach_sign (s.scalar.reach n.b n.b))
  ended untold steady = by (is_wide n) (is_one_way (step_of (s.scalar.reach n.a n.b))) refl refl (ends_tell true steady)
    where
      by : (w o : Bool) → is_wide n ≡ w → is_one_way (step_of (s.scalar.reach n.a n.b)) ≡ o → (not w || o) ≡ true
          → verdict_of s n ≡ end_verdict (criteria s) n [] (reach_sign (s.scalar.reach n.a n.a)) (reach_sign (s.scalar.reach n.b n.b))
      by false o e f steady = stages ∙ rw (told false untold, e) refl
      by true true e f steady = stages ∙ rw (told false untold, e, f) refl
      by true false e f steady = absurd (cc)

  -- where they do not
  pub limited : is_turnless_by s.plan whole ≡ false → is_steady_by n whole ≡ false
      → verdict_of s n ≡ limit_verdict (criteria s) n
  limited untold unsteady = by (is_wide n) (is_one_way (step_of (s.scalar.reach n.a n.b))) refl refl (ends_tell false unsteady)
    where
      by : (w o : Bool) → is_wide n ≡ w → is_one_way (step_of (s.scalar.reach n.a n.b)) ≡ o → (not w || o) ≡ false → verdict_of s n ≡ limit_verdict (criteria s) n
      by true false e f unsteady = stages ∙ rw (told false untold, e, f) refl
      by true true e f unsteady = absurd (cc)
      by false o e f unsteady = absurd (cc)
