-- Two parts that are each multiplied by a factor and then combined.
use Rattle.std.proofs.Common.{◌≡◌, ◌∙◌, Bool, true, false, ℕ, ◌<◌, refl, ap, sym, subst, arith}
use Rattle.spec_bodies.specs.declared.factor.Factor.{Factor}
use Rattle.spec_steps.specs.declared.steps.Step.TheVariants.{Scaled}
use Rattle.spec_steps.specs.ColumnTerms.{ColumnTerm, scaled}
use Rattle.spec_steps.specs.Parts.{IsPart}
use Rattle.spec_steps.specs.Steps.{step_term, terms_of}
use Rattle.spec_steps.proofs.Parts.{difference_parts, sum_parts}
use Rattle.column_steps.specs.Listed.{CanEnter, Enters, Grows, Listed, Stands, combination, combined, listed_term, step_count}
use Rattle.column_steps.proofs.Entered.{both_below, both_entered, both_part}

pub can_scale : (l : Listed) (f : Factor) (x : ℕ) (p : ColumnTerm) → Stands l x p → IsPart l.sight (scaled f p) → CanEnter l (Scaled f x)
can_scale l f x p is part = record { operands = is.below; part = subst (λ t. IsPart l.sight (scaled f t)) (sym is.term) part }

pub can_scale_later : (l b : Listed) (n : ℕ) → Grows l b n → (f : Factor) (x : ℕ) (p : ColumnTerm) → Stands l x p → IsPart l.sight (scaled f p) → CanEnter b (Scaled f x)
can_scale_later l b n grown f x p is part = can_scale b f x p (grown.kept x p is) (subst (λ s. IsPart s (scaled f p)) (sym grown.sight) part)

pub scaled_as : (l b : Listed) (f : Factor) (x u : ℕ) (p : ColumnTerm) → Stands l x p → Enters l b 1 u (scaled f (listed_term l x)) → Enters l b 1 u (scaled f p)
scaled_as l b f x u p is entered = record { grown = entered.grown; stands = record { below = entered.stands.below; term = entered.stands.term ∙ ap (scaled f) is.term } }

module _ (whole : ColumnTerm → ColumnTerm → ColumnTerm) (f g : Factor) (l b c : Listed) (x y u w : ℕ)
    (first : Enters l b 1 u (scaled f (listed_term l x))) (second : Enters b c 1 w (scaled g (listed_term b y))) where
  module _ (p q : ColumnTerm) (of_x : Stands l x p) (of_y : Stands l y q) where
    first_as : Enters l b 1 u (scaled f p)
    first_as = scaled_as l b f x u p of_x first

    second_as : Enters b c 1 w (scaled g q)
    second_as = scaled_as b c g y w q (first.grown.kept y q of_y) second

    pub turned_below : (u < step_count c) × (w < step_count c)
    turned_below = both_below whole l b c 1 1 u w _ _ first_as second_as

    pub turned_part : IsPart l.sight (whole (scaled f p) (scaled g q)) → IsPart c.sight (whole (listed_term c u) (listed_term c w))
    turned_part part = both_part whole l b c 1 1 u w _ _ first_as second_as part

    pub turned_entered : (d : Listed) (z : ℕ) → Enters c d 1 z (whole (listed_term c u) (listed_term c w)) → Enters l d 3 z (whole (scaled f p) (scaled g q))
    turned_entered d z last = both_entered whole l b c 1 1 u w _ _ first_as second_as d 3 z (omega arith) last

-- ---- a sum or a difference
pub combined_parts : (sums : Bool) (l : Listed) (p q : ColumnTerm) → IsPart l.sight (combined sums p q) → IsPart l.sight p × IsPart l.sight q
combined_parts true l p q part = sum_parts _ _ _ part
combined_parts false l p q part = difference_parts _ _ _ part

pub can_combine : (sums : Bool) (l : Listed) (x y : ℕ) → (x < step_count l) × (y < step_count l) → IsPart l.sight (combined sums (listed_term l x) (listed_term l y)) → CanEnter l (combination sums x y)
can_combine true l x y below part = record { operands = below; part = part }
can_combine false l x y below part = record { operands = below; part = part }

pub combination_term : (sums : Bool) (l : Listed) (x y : ℕ) → step_term (terms_of l.steps) (combination sums x y) ≡ combined sums (listed_term l x) (listed_term l y)
combination_term true l x y = refl
combination_term false l x y = refl
