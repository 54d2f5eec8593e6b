-- Lists of steps, the terms that they stand for, and which lists are well made.
use Rattle.std.specs.Prelude.{◌≡◌, ℕ, suc, ◌<◌, ◌++◌, ◌∷◌, [], List, length, slice_index_or, ⊤}
use Rattle.spec_steps.specs.ColumnTerms.{ColumnTerm, column, zero_term, length as length_of, cosine, scaled, sum, difference, product, signed_square}
use Rattle.spec_steps.specs.Parts.{IsPart}
use Rattle.spec_steps.specs.declared.sights.Sight.{Sight}
use Rattle.spec_steps.specs.declared.steps.Step.{Step}
use Rattle.spec_steps.specs.declared.steps.Step.TheVariants.{Column, Zero, Length, Cosine, Scaled, Sum, Difference, Product, SignedSquare}

-- the term with a number, counted from 0; that of no step is never asked for
abbrev pub term_at : List ColumnTerm → ℕ → ColumnTerm
term_at ts k = slice_index_or ts k zero_term

-- the term of a step, by those of earlier steps
abbrev pub step_term : List ColumnTerm → Step → ColumnTerm
step_term ts (Column quantity number axis) = column quantity number axis
step_term ts Zero = zero_term
step_term ts (Length km) = length_of km
step_term ts (Cosine number) = cosine number
step_term ts (Scaled f x) = scaled f (term_at ts x)
step_term ts (Sum x y) = sum (term_at ts x) (term_at ts y)
step_term ts (Difference x y) = difference (term_at ts x) (term_at ts y)
step_term ts (Product x y) = product (term_at ts x) (term_at ts y)
step_term ts (SignedSquare x) = signed_square (term_at ts x)

-- the terms of a list of steps, each after those before it
abbrev pub terms_after : List ColumnTerm → List Step → List ColumnTerm
terms_after ts [] = ts
terms_after ts (s ∷ ss) = terms_after (ts ++ step_term ts s ∷ []) ss

abbrev pub terms_of : List Step → List ColumnTerm
terms_of ss = terms_after [] ss

-- each operand of a step is one of the n steps before it
abbrev pub IsStep : ℕ → Step → Type 0
IsStep n (Column quantity number axis) = ⊤
IsStep n Zero = ⊤
IsStep n (Length km) = ⊤
IsStep n (Cosine number) = ⊤
IsStep n (Scaled f x) = x < n
IsStep n (Sum x y) = (x < n) × (y < n)
IsStep n (Difference x y) = (x < n) × (y < n)
IsStep n (Product x y) = (x < n) × (y < n)
IsStep n (SignedSquare x) = x < n

-- a list is well made, where n steps come before it
abbrev pub AreStepsAfter : ℕ → List Step → Type 0
AreStepsAfter n [] = ⊤
AreStepsAfter n (s ∷ ss) = IsStep n s × AreStepsAfter (suc n) ss

abbrev pub AreSteps : List Step → Type 0
AreSteps ss = AreStepsAfter 0 ss

-- a step stands for the term with number k, by those before it
pub record IsStepOf (ts : List ColumnTerm) (k : ℕ) (s : Step) : Type 0 where
  pub operands : IsStep k s
  pub term : term_at ts k ≡ step_term ts s

-- each term is a part of what is seen
abbrev pub AreParts : Sight → List ColumnTerm → Type 0
AreParts s ts = (k : ℕ) → k < length ts → IsPart s (term_at ts k)
