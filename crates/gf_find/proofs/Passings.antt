-- The report of what the search of a polynomial found.
use Rattle.std.proofs.Common.{◌≡◌, ◌⊎◌, ◌∙◌, ℕ, List, Ok, Err, sym, ap, subst, inl, inr}
use Rattle.spec_trees.specs.declared.tree.Leaf.{Leaf}
use Rattle.spec_trees.specs.Windows.{windows}
use Rattle.spec_requests.specs.declared.request.ScalarAsk.{ScalarAsk}
use Rattle.spec_outcomes.specs.declared.refusal.Refusal.{Refusal}
use Rattle.spec_outcomes.specs.declared.refusal.Refusal.TheVariants.{Memory}
use Rattle.spec_outcomes.specs.Outcomes.{text_by}
use Rattle.spec_outcomes.specs.Scalars.{ArePassings, AreScalarLeaves, found_scalar, scalar_of, scalar_report_by}
use Rattle.gf_find.specs.Scalars.{IsScalarReport}

module _ (ask : ScalarAsk) where
  pub scalar_printed : (ls shown : List Leaf) (text : List ℕ) → AreScalarLeaves ask ls → shown ≡ ls → text ≡ scalar_report_by ask shown → IsScalarReport ask text
  scalar_printed ls shown text found same printed = record {
    outcome = ap (text_by (scalar_report_by ask)) found.outcome ∙ ap (λ (t : List ℕ). Ok t) (sym (printed ∙ ap (scalar_report_by ask) same));
    printed = printed ∙ ap (scalar_report_by ask) (same ∙ found.same);
    windows = subst (λ (vs : List Leaf). ArePassings ask (windows vs)) found.same found.windows;
  }

  -- why there are no leaves is why there is no text of them
  pub scalar_stops : (r : Refusal) → (r ≡ Memory) ⊎ (found_scalar ask ≡ Err r) → (r ≡ Memory) ⊎ (scalar_of ask ≡ Err r)
  scalar_stops r (inl none) = inl none
  scalar_stops r (inr stops) = inr (ap (text_by (scalar_report_by ask)) stops)
