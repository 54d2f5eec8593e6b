-- The terms of a list of steps, one after the other.
use Rattle.std.proofs.Common.{◌≡◌, ◌∙◌, ℕ, zero, suc, ◌+◌, ◌<◌, ◌≤◌, ◌++◌, ◌∷◌, [], ◌⊎◌, inl, inr, List, length, slice_index_or, ap, sym, subst, refl, arith}
use Rattle.std.proofs.lemmas.List.{get_or_append_left}
use Rattle.std.proofs.lemmas.Bool.{cases_lt}
use Rattle.std.proofs.Math.Seq.{get_or-append_seam}
use Rattle.std.proofs.Math.ListN.{length-append}
use Rattle.spec_steps.specs.ColumnTerms.{ColumnTerm, zero_term, scaled, sum, difference, product, signed_square}
use Rattle.spec_steps.specs.Parts.{IsPart}
use Rattle.spec_steps.specs.declared.sights.Sight.{Sight}
use Rattle.spec_steps.specs.declared.steps.Step.{Step}
use Rattle.spec_steps.specs.declared.steps.Step.TheVariants.{Column, Zero, Length, Cosine, Scaled, Sum, Difference, Product, SignedSquare}
use Rattle.spec_steps.specs.Steps.{AreParts, AreStepsAfter, IsStep, IsStepOf, step_term, term_at, terms_after, terms_of}

longer : (ts : List ColumnTerm) (x : ColumnTerm) → length (ts ++ x ∷ []) ≡ suc (length ts)
longer ts x = let e = length-append ts (x ∷ []) in omega (arith, e)

pub term_count : (ss : List Step) (ts : List ColumnTerm) → length (terms_after ts ss) ≡ length ts + length ss
term_count [] ts = omega arith
term_count (s ∷ ss) ts =
    let e = term_count ss (ts ++ step_term ts s ∷ []) in
    let more = longer ts (step_term ts s) in
    omega (arith, e, more)

pub as_many : (ss : List Step) → length (terms_of ss) ≡ length ss
as_many ss = let e = term_count ss [] in omega (arith, e)

-- ---- the terms of the steps before stay
pub term_kept : (ss : List Step) (ts : List ColumnTerm) (k : ℕ) → k < length ts → term_at (terms_after ts ss) k ≡ term_at ts k
term_kept [] ts k below = refl
term_kept (s ∷ ss) ts k below =
    let more = longer ts (step_term ts s) in
    term_kept ss (ts ++ step_term ts s ∷ []) k (omega (arith, below, more)) ∙ get_or_append_left ts (step_term ts s ∷ []) zero_term k below

-- a step has the same term over terms that agree where its operands are
pub same_step : (ts us : List ColumnTerm) (n : ℕ) → ((k : ℕ) → k < n → term_at us k ≡ term_at ts k) → (s : Step) → IsStep n s → step_term us s ≡ step_term ts s
same_step ts us n agree (Column quantity number axis) is = refl
same_step ts us n agree Zero is = refl
same_step ts us n agree (Length km) is = refl
same_step ts us n agree (Cosine number) is = refl
same_step ts us n agree (Scaled f x) is = λ i. scaled f (agree x is i)
same_step ts us n agree (Sum x y) is = λ i. sum (agree x is.0 i) (agree y is.1 i)
same_step ts us n agree (Difference x y) is = λ i. difference (agree x is.0 i) (agree y is.1 i)
same_step ts us n agree (Product x y) is = λ i. product (agree x is.0 i) (agree y is.1 i)
same_step ts us n agree (SignedSquare x) is = λ i. signed_square (agree x is i)

-- ---- each step stands for its term
pub step_of : (ss : List Step) (ts : List ColumnTerm) (n : ℕ) → length ts ≡ n → AreStepsAfter n ss → (k m : ℕ) → m ≡ n + k → k < length ss → (d : Step) → IsStepOf (terms_after ts ss) m (slice_index_or ss k d)
step_of [] ts n count are k m is below d = absurd (omega (arith, below))
step_of (s ∷ ss) ts n count are zero m is below d =
    let own : n ≡ m = omega (arith, is) in
    let size : length ts ≡ m = count ∙ own in
    let more = longer ts (step_term ts s) in
    let after = ts ++ step_term ts s ∷ [] in
    record {
      operands = subst (λ j. IsStep j s) own are.0;
      term = term_kept ss after m (omega (arith, size, more))
          ∙ subst (λ j. term_at after j ≡ step_term ts s) size (get_or-append_seam ts (step_term ts s) [] zero_term)
          ∙ sym (same_step ts (terms_after ts (s ∷ ss)) n (λ k h. term_kept (s ∷ ss) ts k (omega (arith, h, count))) s are.0);
    }
step_of (s ∷ ss) ts n count are (suc k) m is below d =
    let more = longer ts (step_term ts s) in
    step_of ss (ts ++ step_term ts s ∷ []) (suc n) (omega (arith, count, more)) are.1 k m (omega (arith, is)) (omega (arith, below)) d

-- ---- one step more
pub terms_more : (ss : List Step) (s : Step) (ts : List ColumnTerm) → terms_after ts (ss ++ s ∷ []) ≡ terms_after ts ss ++ step_term (terms_after ts ss) s ∷ []
terms_more [] s ts = refl
terms_more (t ∷ ss) s ts = terms_more ss s (ts ++ step_term ts t ∷ [])

pub steps_more : (ss : List Step) (s : Step) (n m : ℕ) → m ≡ n + length ss → AreStepsAfter n ss → IsStep m s → AreStepsAfter n (ss ++ s ∷ [])
steps_more [] s n m is are step = (subst (λ j. IsStep j s) (omega (arith, is)) step, tt)
steps_more (t ∷ ss) s n m is are step = (are.0, steps_more ss s (suc n) m (omega (arith, is)) are.1 step)

pub kept_more : (ss : List Step) (s : Step) (k : ℕ) → k < length ss → term_at (terms_of (ss ++ s ∷ [])) k ≡ term_at (terms_of ss) k
kept_more ss s k below =
    let count = as_many ss in
    ap (λ ts. term_at ts k) (terms_more ss s []) ∙ get_or_append_left (terms_of ss) (step_term (terms_of ss) s ∷ []) zero_term k (omega (arith, below, count))

pub last_more : (ss : List Step) (s : Step) → term_at (terms_of (ss ++ s ∷ [])) (length ss) ≡ step_term (terms_of ss) s
last_more ss s =
    ap (λ ts. term_at ts (length ss)) (terms_more ss s [])
    ∙ subst (λ j. term_at (terms_of ss ++ step_term (terms_of ss) s ∷ []) j ≡ step_term (terms_of ss) s) (as_many ss) (get_or-append_seam (terms_of ss) (step_term (terms_of ss) s) [] zero_term)

pub parts_more : (sight : Sight) (ss : List Step) (s : Step) → AreParts sight (terms_of ss) → IsPart sight (step_term (terms_of ss) s) → AreParts sight (terms_of (ss ++ s ∷ []))
parts_more sight ss s are is k below = by (cases_lt k (length ss))
  where
    count : length (terms_of (ss ++ s ∷ [])) ≡ suc (length ss)
    count =
        let whole = ap length (terms_more ss s []) in
        let more = longer (terms_of ss) (step_term (terms_of ss) s) in
        let few = as_many ss in
        omega (arith, whole, more, few)

    by : (k < length ss) ⊎ (length ss ≤ k) → IsPart sight (term_at (terms_of (ss ++ s ∷ [])) k)
    by (inl before) =
        let few = as_many ss in
        subst (IsPart sight) (sym (kept_more ss s k before)) (are k (omega (arith, before, few)))
    by (inr after) =
        let e = count in
        let own : length ss ≡ k = omega (arith, after, below, e) in
        subst (IsPart sight) (sym (last_more ss s) ∙ ap (term_at (terms_of (ss ++ s ∷ []))) own) is
