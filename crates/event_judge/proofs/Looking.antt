-- The verdict of a search at a node, by what its judge looks at.
use Rattle.std.proofs.Common.{◌≡◌, ◌<◌, Bool, true, false, List, [], ◌∷◌, map, ℤ, ◌<ℤ◌, refl, ap, ◌∙◌}
use Rattle.std.specs.Prelude.{if◌then◌else◌}
use Rattle.spec_bodies.specs.Views.{exact_state, state_enclosure}
use Rattle.spec_trees.specs.declared.tree.Node.{Node}
use Rattle.spec_trees.specs.declared.tree.Verdict.TheVariants.{Clear, Split}
use Rattle.spec_trees.specs.Cuts.{is_wide}
use Rattle.spec_events.specs.Soundness.{finding_of}
use Rattle.spec_events.specs.Stages.{end_verdict, limit_verdict, staged_verdict, unit_verdict, wide_verdict}
use Rattle.spec_events.specs.Verdict.{GuardFinding, is_one_way}
use Rattle.spec_events.proofs.Stages.{staged}
use Rattle.spec_searches.specs.Event.{Condition}
use Rattle.spec_searches.specs.Search.{Search, criteria, crosses, guard_evidence, guards_from, verdict_of}
use Rattle.event_judge.specs.Moments.{finding_in, findings_in, moment}
use Rattle.event_judge.specs.Found.{enclosure_at, findings_at, first_moment, guards_at, is_refuted_at, is_turnless_by, last_moment, sign_at, whole_moment}

-- what is known by the function over the whole node
abbrev pub is_turnless_at : Search → Node → Bool
is_turnless_at s n = is_turnless_by s (enclosure_at s (whole_moment s n))

abbrev pub is_one_way_at : Search → Node → Bool
is_one_way_at s n = is_one_way (enclosure_at s (whole_moment s n)).step

guards_are : (s : Search) (n : Node) → (findings_at s n).guards ≡ guards_at s (moment s.view (guards_from n) n.b)
guards_are s n = by s.event.conditions
  where
    by : (cs : List Condition) → map finding_of (map (guard_evidence (exact_state s.view) (state_enclosure s.view) n) cs) ≡ findings_in (moment s.view (guards_from n) n.b) cs
    by [] = refl
    by (c ∷ cs) = ap (λ gs. finding_in (moment s.view (guards_from n) n.b) c ∷ gs) (by cs)

from_wide : (n : Node) (wide : Bool) → is_wide n ≡ wide → guards_from n ≡ (if wide then n.a else n.b)
from_wide n wide e = ap (λ (w : Bool). if w then n.a else n.b) e

guards_by : (s : Search) (n : Node) (wide : Bool) → is_wide n ≡ wide → (findings_at s n).guards ≡ guards_at s (moment s.view (if wide then n.a else n.b) n.b)
guards_by s n wide e = guards_are s n ∙ ap (λ (from : ℤ). guards_at s (moment s.view from n.b)) (from_wide n wide e)

module _ (s : Search) (some : 0 < s.width) (n : Node) (inside : n.a <ℤ n.b) where
  stages : verdict_of s n ≡ staged_verdict (criteria s) n (findings_at s n)
  unfolding verdict_of
  stages = staged (criteria s) n (findings_at s n) inside some

  pub at_border : crosses s n ≡ true → is_wide n ≡ true → verdict_of s n ≡ Split
  at_border border wide = stages ∙ rw (border, wide) refl

  pub unit_at_border : crosses s n ≡ true → is_wide n ≡ false → verdict_of s n ≡ unit_verdict (criteria s) n (guards_at s (last_moment s n)) (sign_at s (first_moment s n)) (sign_at s (last_moment s n))
  unit_at_border border narrow =
      (stages ∙ rw (border, narrow) refl)
      ∙ ap (λ (gs : List GuardFinding). unit_verdict (criteria s) n gs (sign_at s (first_moment s n)) (sign_at s (last_moment s n))) (guards_by s n false narrow)

  module _ (open_node : crosses s n ≡ false) where
    pub turnless : is_turnless_at s n ≡ true → verdict_of s n ≡ Clear
    turnless tells = stages ∙ rw (open_node, tells) refl

    module _ (untold : is_turnless_at s n ≡ false) where
      pub open_unit : is_wide n ≡ false → verdict_of s n ≡ unit_verdict (criteria s) n (guards_at s (last_moment s n)) (sign_at s (first_moment s n)) (sign_at s (last_moment s n))
      open_unit narrow =
          (stages ∙ rw (open_node, untold, narrow) refl)
          ∙ ap (λ (gs : List GuardFinding). unit_verdict (criteria s) n gs (sign_at s (first_moment s n)) (sign_at s (last_moment s n))) (guards_by s n false narrow)

      open_wide : is_wide n ≡ true → verdict_of s n ≡ wide_verdict (criteria s) n (enclosure_at s (whole_moment s n)).step (guards_at s (whole_moment s n)) (sign_at s (first_moment s n)) (sign_at s (last_moment s n))
      open_wide wide =
          (stages ∙ rw (open_node, untold, wide) refl)
          ∙ ap (λ (gs : List GuardFinding). wide_verdict (criteria s) n (enclosure_at s (whole_moment s n)).step gs (sign_at s (first_moment s n)) (sign_at s (last_moment s n))) (guards_by s n true wide)

      module _ (wide : is_wide n ≡ true) where
        pub refuted : is_refuted_at s (whole_moment s n) ≡ true → verdict_of s n ≡ Clear
        refuted false_one = open_wide wide ∙ rw false_one refl

        pub one_way : is_refuted_at s (whole_moment s n) ≡ false → is_one_way_at s n ≡ true
            → verdict_of s n ≡ end_verdict (criteria s) n (guards_at s (whole_moment s n)) (sign_at s (first_moment s n)) (sign_at s (last_moment s n))
        one_way none leads = open_wide wide ∙ rw (none, leads) refl

        pub both_ways : is_refuted_at s (whole_moment s n) ≡ false → is_one_way_at s n ≡ false → verdict_of s n ≡ limit_verdict (criteria s) n
        both_ways none leads = open_wide wide ∙ rw (none, leads) refl
