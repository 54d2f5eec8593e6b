-- A list in fixed room with one step more at its end.
use Rattle.std.proofs.Common.{◌≡◌, ◌∙◌, ℕ, ◌+◌, ◌<◌, ◌≤◌, ◌++◌, ◌∷◌, [], List, length, take, slice_index_or, slice_set, sym, subst, arith, get_or-take, length-take-le}
use Rattle.std.proofs.lemmas.List.{length-set, take_more_set}
use Rattle.spec_steps.specs.declared.sights.Sight.{Sight}
use Rattle.spec_steps.specs.declared.steps.Step.{Step}
use Rattle.spec_steps.specs.Parts.{IsPart}
use Rattle.spec_steps.specs.Steps.{AreParts, AreSteps, IsStepOf, step_term, terms_of}
use Rattle.column_steps.specs.Listed.{Listed, step_count}

abbrev pub IsKept : Sight → ℕ → List Step → Type 0
IsKept sight count steps = (count ≤ 512) × (length steps ≡ 512) × AreSteps (take count steps) × AreParts sight (terms_of (take count steps))

pub pushed : (sight : Sight) (count : ℕ) (steps : List Step) (s : Step) (l : Listed) → l ≡ record { sight = sight; steps = take count steps } → IsKept sight count steps → step_count l < 512
    → AreSteps (take count steps ++ s ∷ []) → AreParts sight (terms_of (take count steps ++ s ∷ [])) → IsKept sight (count + 1) (slice_set steps count s)
pushed sight count steps s l view kept room made parts =
    let few : length (take count steps) < 512 = subst (λ (m : Listed). step_count m < 512) view room in
    let most = kept.0 in
    let size = kept.1 in
    let own = length-take-le count steps (omega (arith, most, size)) in
    let whole : take (count + 1) (slice_set steps count s) ≡ take count steps ++ s ∷ [] = take_more_set steps count s (omega (arith, few, own, size)) in
    (omega (arith, few, own), length-set steps count s ∙ size, subst AreSteps (sym whole) made, subst (λ ss. AreParts sight (terms_of ss)) (sym whole) parts)

-- the step with a number stands for a part
pub step_part : (sight : Sight) (count : ℕ) (steps : List Step) (l : Listed) (place : ℕ) (d : Step) → record { sight = sight; steps = take count steps } ≡ l → IsKept sight count steps
    → ((ss : List Step) → length (terms_of ss) ≡ length ss) → ((ss : List Step) → AreSteps ss → (k : ℕ) → k < length ss → (e : Step) → IsStepOf (terms_of ss) k (slice_index_or ss k e))
    → place < step_count l → IsPart l.sight (step_term (terms_of l.steps) (slice_index_or steps place d))
step_part sight count steps l place d view kept as_many each below =
    subst (λ (m : Listed). IsPart m.sight (step_term (terms_of m.steps) (slice_index_or steps place d))) view
    (subst (λ s. IsPart sight (step_term (terms_of (take count steps)) s)) own (subst (IsPart sight) stands.term (kept.3 place (omega (arith, within, many)))))
  where
    within : place < length (take count steps)
    within = subst (λ (m : Listed). place < step_count m) (sym view) below

    many : length (terms_of (take count steps)) ≡ length (take count steps)
    many = as_many (take count steps)

    few : place < count
    few =
        let most = kept.0 in
        let size = kept.1 in
        let exact = length-take-le count steps (omega (arith, most, size)) in
        let h = within in
        omega (arith, h, exact)

    own : slice_index_or (take count steps) place d ≡ slice_index_or steps place d
    own = get_or-take count steps place d few

    stands : IsStepOf (terms_of (take count steps)) place (slice_index_or (take count steps) place d)
    stands = each (take count steps) kept.2 place within d
