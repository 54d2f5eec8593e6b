-- What is found at a valid node is true of the function and of its guards, and decides by stages.
use Rattle.std.proofs.Common.{◌≡◌, ℤ}
use Rattle.spec_intervals.specs.Fraction.{Fraction}
use Rattle.spec_expressions.specs.Term.{Term, exact_of}
use Rattle.spec_bodies.specs.Views.{exact_state}
use Rattle.spec_trees.specs.declared.tree.Node.{Node}
use Rattle.spec_trees.specs.Tree.{IsValid}
use Rattle.spec_events.specs.Functions.{GuardsHold, IsNotNegative}
use Rattle.spec_events.specs.Soundness.{AreSound, findings_of, guards_of}
use Rattle.spec_events.specs.Stages.{staged_verdict}
use Rattle.spec_events.specs.Verdict.{Findings}
use Rattle.spec_events.proofs.Evidence.{are_sound}
use Rattle.spec_events.proofs.Stages.{staged}
use Rattle.spec_searches.specs.Found.{rules}
use Rattle.spec_searches.specs.Search.{Search, IsSearch, criteria, evidence_at, verdict_of}
use Rattle.spec_searches.proofs.Evidence.{is_evidence}

abbrev pub found_at : Search → Node → Findings
found_at s n = findings_of (evidence_at s n)

-- the exact value of a formula at a time
abbrev pub exact_in : Search → Term → ℤ → Fraction
exact_in s = exact_of (exact_state s.view)

-- every guard of the event holds at a time
abbrev pub GuardsOfEvent : Search → Node → ℤ → Type 0
GuardsOfEvent s n = GuardsHold (guards_of (evidence_at s n))

module _ (s : Search) (is : IsSearch s) (n : Node) (valid : IsValid (rules s) n) where
  pub sound_at : AreSound (IsNotNegative (exact_in s s.event.function)) (GuardsOfEvent s n) n (found_at s n)
  sound_at = are_sound (exact_in s s.event.function) n (evidence_at s n) (is_evidence s is n valid)

  pub stages_of : verdict_of s n ≡ staged_verdict (criteria s) n (found_at s n)
  unfolding verdict_of
  stages_of = staged (criteria s) n (found_at s n) valid.inside is.some_width
