-- The texts of what a search of a generated text found.
use Rattle.std.proofs.Common.{◌≡◌, ◌⊎◌, ◌<◌, ℕ, true, List, [], ◌∷◌, length, None, Some, Ok, Err, refl, sym, ap, ◌∙◌, subst, arith, inl, inr}
use Rattle.spec_ephemeris.specs.Ephemeris.{Ephemeris, IsEphemeris}
use Rattle.spec_trees.specs.declared.tree.Leaf.{Leaf}
use Rattle.spec_trees.specs.Windows.{windows}
use Rattle.spec_kinds.specs.Faults.{fault_of}
use Rattle.spec_files.specs.Outcome.{outcome}
use Rattle.spec_files.specs.Texts.{end_line}
use Rattle.spec_generated.specs.Generated.{generated_ephemeris, generated_text}
use Rattle.spec_output.specs.declared.limits.TheConstants.{MAX_LEAVES}
use Rattle.spec_output.specs.Report.{generation}
use Rattle.gf_edges.specs.Edges.{Rose}
use Rattle.spec_outcomes.specs.declared.query.Query.{Query}
use Rattle.spec_outcomes.specs.declared.query.Span.{Span}
use Rattle.spec_outcomes.specs.declared.refusal.Refusal.{Refusal}
use Rattle.spec_outcomes.specs.declared.refusal.Refusal.TheVariants.{Memory}
use Rattle.spec_outcomes.specs.Outcomes.{IsFound, Stops, found, generated_search, generated_span, generation_by, generation_of, searched, text_by}
use Rattle.spec_outcomes.specs.Queries.{AreFound, conjunctions, is_within, whole_span}
use Rattle.spec_outcomes.proofs.Searching.{found_is, whole_within}
use Rattle.gf_find.specs.Outcomes.{FilesStop, HaveEphemeris}
use Rattle.gf_find.specs.Generates.{IsGeneration}
use Rattle.gf_find.proofs.Causes.{held_stops}

-- ---- a text that is the one file of a shelf
abbrev one_file : List ℕ → List (List ℕ × List ℕ)
one_file text = ([], text) ∷ []

text_held : (text : List ℕ) (e : Ephemeris) → outcome (text ∷ []) ≡ Ok e → HaveEphemeris (Some (one_file text)) ([] ∷ []) e
text_held text e is = record { end = end_line (text ∷ []); accepted = record { few = omega arith; texts = text ∷ []; there = (refl, tt); accepted = is; ends = refl } }

-- nothing stops the reading of a text that is accepted
pub text_is_read : (text kept : List ℕ) (names : List (List ℕ)) (e : Ephemeris) (r : Refusal) → outcome (text ∷ []) ≡ Ok e → kept ≡ text → names ≡ [] ∷ []
    → FilesStop (Some (one_file kept)) names 0 0 r → ⊥
text_is_read text kept names e r is same named stops =
    let here : FilesStop (Some (one_file text)) ([] ∷ []) 0 0 r =
    subst (λ (ns : List (List ℕ)). FilesStop (Some (one_file text)) ns 0 0 r) named
    (subst (λ (t : List ℕ). FilesStop (Some (one_file t)) names 0 0 r) same stops) in
    let rose : Rose 0 0 = held_stops (one_file text) ([] ∷ []) 0 0 (λ f. f ≡ e) r (record { ephemeris = e; held = text_held text e is; is = refl }) here in
    absurd (omega (arith, rose))

pub text_stops : (text kept : List ℕ) (names : List (List ℕ)) (e : Ephemeris) → outcome (text ∷ []) ≡ Ok e → kept ≡ text → names ≡ [] ∷ []
    → (r : Refusal) → (r ≡ Memory) ⊎ FilesStop (Some (one_file kept)) names 0 0 r → r ≡ Memory
text_stops text kept names e is same named r (inl none) = none
text_stops text kept names e is same named r (inr stops) = absurd (text_is_read text kept names e r is same named stops)

-- ---- a generated text
conjunctions_served : (blocks seed : ℕ) → fault_of (generated_ephemeris blocks seed) conjunctions.ask ≡ None
unfolding fault_of generated_ephemeris
conjunctions_served blocks seed = refl

pub some_blocks : (blocks seed : ℕ) → 0 < blocks → 0 < (generated_ephemeris blocks seed).blocks
unfolding generated_ephemeris
some_blocks blocks seed some = some

searched_there : (blocks seed : ℕ) (span : Span) → is_within span (generated_ephemeris blocks seed) ≡ true
    → found MAX_LEAVES conjunctions (generated_ephemeris blocks seed) span ≡ searched MAX_LEAVES (generated_search blocks seed) span
searched_there blocks seed span within = found_is MAX_LEAVES conjunctions (generated_ephemeris blocks seed) span within (conjunctions_served blocks seed)

abbrev lines_by : ℕ → ℕ → List Leaf → List ℕ
lines_by blocks seed ls = generation_by blocks seed (windows ls)

generation_here : (blocks seed : ℕ) (ls : List Leaf) (lines : List ℕ) → IsFound MAX_LEAVES conjunctions (generated_ephemeris blocks seed) (generated_span blocks seed) ls
    → lines ≡ lines_by blocks seed ls → IsGeneration blocks seed lines
generation_here blocks seed ls lines is printed = record {
  outcome = ap (text_by (lines_by blocks seed)) (sym (searched_there blocks seed (generated_span blocks seed) is.within) ∙ is.outcome) ∙ ap (λ (t : List ℕ). Ok t) (sym printed);
  printed = printed ∙ ap (lines_by blocks seed) is.same;
  windows = subst (λ (vs : List Leaf). AreFound (generated_search blocks seed) (generated_span blocks seed) vs) is.same is.windows;
}

module _ (blocks seed bytes : ℕ) (e : Ephemeris) (q : Query) (span : Span) (of : e ≡ generated_ephemeris blocks seed) (asks : q ≡ conjunctions) (whole : span ≡ whole_span e) (size : bytes ≡ length (generated_text blocks seed)) where
  abbrev all : Span
  all = generated_span blocks seed

  whole_of : span ≡ all
  whole_of = whole ∙ ap whole_span of

  pub generation_is : (ls : List Leaf) (lines : List ℕ) → IsFound MAX_LEAVES q e span ls → lines ≡ generation blocks seed bytes (windows ls) → IsGeneration blocks seed lines
  generation_is ls lines is printed =
      generation_here blocks seed ls lines
      (subst (λ (s : Span). IsFound MAX_LEAVES conjunctions (generated_ephemeris blocks seed) s ls) whole_of
      (subst (λ (f : Ephemeris). IsFound MAX_LEAVES conjunctions f span ls) of (subst (λ (p : Query). IsFound MAX_LEAVES p e span ls) asks is)))
      (printed ∙ ap (λ (n : ℕ). generation blocks seed n (windows ls)) size)

  pub generation_stops : IsEphemeris e → 0 < e.blocks → (r : Refusal) → Stops MAX_LEAVES q e span r → (r ≡ Memory) ⊎ (generation_of blocks seed ≡ Err r)
  generation_stops checked block r (inl none) = inl none
  generation_stops checked block r (inr stops) =
      let there : found MAX_LEAVES conjunctions (generated_ephemeris blocks seed) all ≡ Err r =
      subst (λ (s : Span). found MAX_LEAVES conjunctions (generated_ephemeris blocks seed) s ≡ Err r) whole_of
      (subst (λ (f : Ephemeris). found MAX_LEAVES conjunctions f span ≡ Err r) of (subst (λ (p : Query). found MAX_LEAVES p e span ≡ Err r) asks stops)) in
      let within : is_within all (generated_ephemeris blocks seed) ≡ true =
      subst (λ (f : Ephemeris). is_within (whole_span f) f ≡ true) of (whole_within e checked block) in
      inr (ap (text_by (lines_by blocks seed)) (sym (searched_there blocks seed all within) ∙ there))
