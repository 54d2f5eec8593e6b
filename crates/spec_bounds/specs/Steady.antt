-- Steady spans: over such a span, and so over every span within it, the function of a search is monotone by its enclosure and
-- each condition is certified by its own. The signs at the two ends then tell the verdict of a node within it.
use Rattle.std.specs.Prelude.{◌≡◌, Bool, true, All, nat_le, ℤ, ◌<ℤ◌, if◌then◌else◌}
use Rattle.spec_intervals.specs.Signs.{sign_of}
use Rattle.spec_intervals.specs.declared.signs.Sign.{Sign}
use Rattle.spec_trees.specs.declared.tree.Node.{Node}
use Rattle.spec_trees.specs.declared.tree.Verdict.{Verdict}
use Rattle.spec_trees.specs.declared.tree.Verdict.TheVariants.{Clear, One}
use Rattle.spec_trees.specs.Tree.{width}
use Rattle.spec_events.specs.Stages.{has_no_turn, limit_verdict}
use Rattle.spec_events.specs.Verdict.{Criteria, certifies, is_one_way, turn_to}
use Rattle.spec_bodies.specs.Views.{Fits, state_enclosure}
use Rattle.spec_searches.specs.Event.{Condition}
use Rattle.spec_searches.specs.Search.{Search, enclosure_over}
use Rattle.spec_bounds.specs.Terms.{bound_over}

-- by its bound over the times from a to b, the condition holds at each of them
abbrev pub is_certified_over : Search → ℤ → ℤ → Condition → Bool
is_certified_over s a b c = certifies c.at_least (sign_of (bound_over s.view c.term a b).range)

-- by its enclosure at one time, the condition holds then
abbrev pub is_certified_at : Search → ℤ → Condition → Bool
is_certified_at s t c = certifies c.at_least (sign_of (enclosure_over (state_enclosure s.view) c.term t t).range)

-- several times between which no granule begins; by their bounds, the function is monotone there and each condition holds
pub record IsSteady (s : Search) (a b : ℤ) : Type 0 where
  pub fits : Fits s.view a b
  pub several : a <ℤ b
  pub one_way : is_one_way (bound_over s.view s.event.function a b).step ≡ true
  pub certified : All (λ c. is_certified_over s a b c ≡ true) s.event.conditions

-- the sign of the function at a time
abbrev pub sign_at : Search → ℤ → Sign
sign_at s t = sign_of (enclosure_over (state_enclosure s.view) s.event.function t t).range

-- the verdict of a node in a steady span, by signs at its ends that are both known
abbrev pub steady_verdict : Criteria → Node → Sign → Sign → Verdict
steady_verdict c n first last =
    if has_no_turn c.dir first last then Clear
    else if nat_le (width n) c.width then One (turn_to last)
    else limit_verdict c n
