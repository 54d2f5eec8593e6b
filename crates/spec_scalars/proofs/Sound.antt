-- The rules of a search are sound, and what is found at its nodes is true of its scalar.
use Rattle.std.proofs.Common.{◌≡◌, ◌<◌, ℤ, pos, ◌+ℤ◌, ◌-ℤ◌, ◌*ℤ◌, ◌≤ℤ◌, ◌<ℤ◌, ◌*◌, true, int_lt, nat_lt, refl, arith}
use Rattle.std.proofs.lemmas.Int.{ints}
use Rattle.std.proofs.lemmas.Bool.{and_parts, ltb-true}
use Rattle.std.proofs.lemmas.List.Elements.{All-nil}
use Rattle.spec_intervals.specs.Fraction.{Holds, fraction}
use Rattle.spec_intervals.specs.Interval.{interval}
use Rattle.spec_intervals.specs.Enclosure.{IsEnclosure, middle}
use Rattle.spec_intervals.proofs.Centred.{middle_between}
use Rattle.spec_trees.specs.declared.tree.Node.{Node}
use Rattle.spec_trees.specs.declared.tree.Verdict.TheVariants.{Split}
use Rattle.spec_trees.specs.Cuts.{CanCut, is_wide}
use Rattle.spec_trees.specs.Tree.{IsCut, IsSound, IsValid}
use Rattle.spec_trees.proofs.Cutting.{cut_inside}
use Rattle.spec_events.specs.Soundness.{IsEvidence, IsGuardHeld, findings_of}
use Rattle.spec_events.proofs.Limits.{split_may_be_cut}
use Rattle.spec_judged.specs.Judged.{IsJudged}
use Rattle.spec_scalars.specs.declared.reach.Reach.{Reach}
use Rattle.spec_scalars.specs.Scalars.{IsReach}
use Rattle.spec_scalars.specs.Searches.{IsSearch, Search, criteria, enclosure_of, evidence_at, exact, judged_by, rules, verdict_of}

-- ---- what is known encloses the scalar
holds_value : (lo hi z : ℤ) → lo ≤ℤ z → z ≤ℤ hi → Holds (interval lo hi (pos 0)) (fraction z 1)
holds_value lo hi z low high = record { low = omega (arith, ints, low); high = omega (arith, ints, high) }

holds_change : (lo hi x y : ℤ) → lo ≤ℤ (y -ℤ x) → (y -ℤ x) ≤ℤ hi → Holds (interval lo hi (pos 0)) (fraction (y *ℤ pos 1 -ℤ x *ℤ pos 1) (1 * 1))
holds_change lo hi x y low high = record { low = omega (arith, ints, low); high = omega (arith, ints, high) }

reach_encloses : (at : ℤ → ℤ) (a b : ℤ) (r : Reach) → a ≤ℤ b → IsReach at a b r → IsEnclosure (exact at) a b (enclosure_of r)
reach_encloses at a b r ordered is =
    let between = middle_between a b ordered in
    let m = middle a b in
    record {
      mid = holds_value r.lo r.hi (at m) (is.low m between.0 between.1) (is.high m between.0 between.1);
      range = λ t after upto. holds_value r.lo r.hi (at t) (is.low t after upto) (is.high t after upto);
      step = λ t after before. holds_change r.step_lo r.step_hi (at t) (at (t +ℤ pos 1)) (is.step_low t after before) (is.step_high t after before);
    }

-- some time lies strictly inside
past_one : (a b : ℤ) → int_lt (pos 1) (b -ℤ a) ≡ true → (a +ℤ pos 1) <ℤ b
past_one a b e = grind (arith, ints)

module _ (s : Search) (is : IsSearch s) where
  module _ (n : Node) (valid : IsValid (rules s) n) where
    encloses : (a b : ℤ) → n.a ≤ℤ a → a ≤ℤ b → b ≤ℤ n.b → IsEnclosure (exact s.scalar.at) a b (enclosure_of (s.scalar.reach a b))
    encloses a b from ordered to =
        let early = valid.from in
        let late = valid.to in
        reach_encloses s.scalar.at a b (s.scalar.reach a b) ordered (is.scalar.keeps a b (omega (arith, ints, early, from)) ordered (omega (arith, ints, to, late)))

    pub is_evidence : IsEvidence (exact s.scalar.at) n (evidence_at s n)
    is_evidence =
        let inside = valid.inside in
        record {
          ordered = inside;
          numbers = λ t after upto. omega arith;
          first = encloses n.a n.a (omega (arith, ints)) (omega (arith, ints)) (omega (arith, ints, inside));
          last = encloses n.b n.b (omega (arith, ints, inside)) (omega (arith, ints)) (omega (arith, ints));
          whole = λ none. encloses n.a n.b (omega (arith, ints)) (omega (arith, ints, inside)) (omega (arith, ints));
          guards = λ readable. All-nil (IsGuardHeld n);
        }

    -- ---- the cut of a node that is split
    is_split : verdict_of s n ≡ Split → (is_wide n ≡ true) × (n.depth < s.plan.depth)
    unfolding verdict_of
    is_split split =
        let both = and_parts (is_wide n) (nat_lt n.depth s.plan.depth) (split_may_be_cut (criteria s) n (findings_of (evidence_at s n)) split) in
        (both.0, ltb-true n.depth s.plan.depth both.1)

    can_cut : is_wide n ≡ true → CanCut n.a n.b
    can_cut e =
        let low = is.scalar.low in
        let high = is.scalar.high in
        let from = valid.from in
        let to = valid.to in
        record { wide = past_one n.a n.b e; low = omega (arith, ints, low, from); high = omega (arith, ints, high, to) }

    is_cut : verdict_of s n ≡ Split → IsCut (rules s) n
    is_cut split =
        let above = is_split split in
        let inside = cut_inside s.plan.cut n.a n.b (can_cut above.0) in
        let after = inside.0 in
        let before = inside.1 in
        let deeper = above.1 in
        let from = valid.from in
        let to = valid.to in
        record {
          cuts = record { from = refl; meet = refl; to = refl };
          left = record { from = from; inside = after; to = omega (arith, ints, before, to); depth = omega (arith, deeper) };
          right = record { from = omega (arith, ints, from, after); inside = before; to = to; depth = omega (arith, deeper) };
        }

  pub rules_are_sound : IsSound (rules s)
  rules_are_sound = record { low = is.scalar.low; high = is.scalar.high; cut = is_cut }

  pub is_judged : IsJudged (judged_by s)
  unfolding verdict_of
  is_judged = record {
    sound = rules_are_sound;
    some_width = is.some_width;
    at = λ n valid. record { evidence = is_evidence n valid; guards = refl; follows = refl };
  }
