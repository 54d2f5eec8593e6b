-- Lists of steps for a sight, and what is known of a term that was entered into one.
use Rattle.std.specs.Prelude.{◌≡◌, Bool, true, false, ℕ, ◌+◌, ◌<◌, ◌≤◌, List, length}
use Rattle.spec_bodies.specs.declared.factor.Factor.TheVariants.{Cosine, Sine}
use Rattle.spec_steps.specs.declared.sights.Sight.{Sight}
use Rattle.spec_steps.specs.declared.steps.Step.{Step}
use Rattle.spec_steps.specs.declared.steps.Step.TheVariants.{Sum, Difference}
use Rattle.spec_steps.specs.ColumnTerms.{ColumnTerm, difference, scaled, sum}
use Rattle.spec_steps.specs.Parts.{IsPart}
use Rattle.spec_steps.specs.Steps.{IsStep, step_term, term_at, terms_of}

pub record Listed : Type 0 where
  pub sight : Sight
  pub steps : List Step

abbrev pub step_count : Listed → ℕ
step_count l = length l.steps

-- the term of the step with a number
abbrev pub listed_term : Listed → ℕ → ColumnTerm
listed_term l k = term_at (terms_of l.steps) k

-- a step of earlier ones that stands for what may be listed
pub record CanEnter (l : Listed) (s : Step) : Type 0 where
  pub operands : IsStep (step_count l) s
  pub part : IsPart l.sight (step_term (terms_of l.steps) s)

-- the step with this number stands for the term
pub record Stands (l : Listed) (place : ℕ) (t : ColumnTerm) : Type 0 where
  pub below : place < step_count l
  pub term : listed_term l place ≡ t

-- what stands for a term in the list before does so in the list after, which has at most n steps more
pub record Grows (before after : Listed) (n : ℕ) : Type 0 where
  pub sight : after.sight ≡ before.sight
  pub kept : (place : ℕ) (t : ColumnTerm) → Stands before place t → Stands after place t
  pub few : step_count after ≤ step_count before + n

-- after at most n steps more, the step with this number stands for the term
pub record Enters (before after : Listed) (n place : ℕ) (t : ColumnTerm) : Type 0 where
  pub grown : Grows before after n
  pub stands : Stands after place t

-- both numbers are of steps, of which a term is made that may be listed
pub record AreListed (l : Listed) (x y : ℕ) (whole : ColumnTerm → ColumnTerm → ColumnTerm) : Type 0 where
  pub first : ColumnTerm
  pub second : ColumnTerm
  pub of_first : Stands l x first
  pub of_second : Stands l y second
  pub part : IsPart l.sight (whole first second)

-- ---- turned by the obliquity: y and z along the axes of the ecliptic
-- the sum of two terms, or the first less the second
abbrev pub combined : Bool → ColumnTerm → ColumnTerm → ColumnTerm
combined true = sum
combined false = difference

-- and the step of it, by the numbers of the steps of both
abbrev pub combination : Bool → ℕ → ℕ → Step
combination true = Sum
combination false = Difference

-- y' = turned true y z and z' = turned false z y
abbrev pub turned : Bool → ColumnTerm → ColumnTerm → ColumnTerm
turned sums p q = combined sums (scaled Cosine p) (scaled Sine q)

-- of how many steps values are made at most
abbrev pub slot_limit : ℕ
slot_limit = 256

-- the step stands for the term, and there is a slot for its value
pub record IsMadeAt (l : Listed) (place : ℕ) (t : ColumnTerm) : Type 0 where
  pub stands : Stands l place t
  pub slot : place < slot_limit
