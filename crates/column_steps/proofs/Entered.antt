-- What is known of a term that is entered after its parts.
use Rattle.std.proofs.Common.{◌≡◌, ◌∙◌, ℕ, ◌+◌, ◌<◌, ◌≤◌, arith, sym, subst, refl}
use Rattle.spec_bodies.specs.Coordinates.{Coordinate}
use Rattle.spec_steps.specs.declared.steps.Step.TheVariants.{Difference, Sum}
use Rattle.spec_steps.specs.ColumnTerms.{ColumnTerm, difference, sum}
use Rattle.spec_steps.specs.Parts.{IsPart, IsSeen}
use Rattle.column_steps.specs.Listed.{CanEnter, Enters, Grows, Listed, Stands, listed_term, step_count}

-- ---- lists that grow
pub grows_on : (a b c : Listed) (m n k : ℕ) → m + n ≤ k → Grows a b m → Grows b c n → Grows a c k
grows_on a b c m n k all first second =
    let p = first.few in
    let q = second.few in
    record {
      sight = second.sight ∙ first.sight;
      kept = λ place t is. second.kept place t (first.kept place t is);
      few = omega (arith, p, q, all);
    }

pub grows_more : (a b : Listed) (m n : ℕ) → m ≤ n → Grows a b m → Grows a b n
grows_more a b m n all first = let p = first.few in record { sight = first.sight; kept = first.kept; few = omega (arith, p, all) }

pub enters_more : (a b : Listed) (m n place : ℕ) (t : ColumnTerm) → m ≤ n → Enters a b m place t → Enters a b n place t
enters_more a b m n place t all is = record { grown = grows_more a b m n all is.grown; stands = is.stands }

pub grows_none : (a : Listed) → Grows a a 0
grows_none a = record { sight = refl; kept = λ place t is. is; few = omega arith }

-- what is seen in the list before is seen in the list after
pub still_seen : (a b : Listed) (n : ℕ) (c : Coordinate) → Grows a b n → IsSeen a.sight c → IsSeen b.sight c
still_seen a b n c grown seen = subst (λ s. IsSeen s c) (sym grown.sight) seen

-- ---- one part
module _ (whole : ColumnTerm → ColumnTerm) (a b : Listed) (m x : ℕ) (p : ColumnTerm) (first : Enters a b m x p) where
  pub one_part : IsPart a.sight (whole p) → IsPart b.sight (whole (listed_term b x))
  one_part part = subst (λ s. IsPart s (whole (listed_term b x))) (sym first.grown.sight) (subst (λ t. IsPart a.sight (whole t)) (sym first.stands.term) part)

  pub one_entered : (c : Listed) (k z : ℕ) → m + 1 ≤ k → Enters b c 1 z (whole (listed_term b x)) → Enters a c k z (whole p)
  one_entered c k z all last = record {
    grown = grows_on a b c m 1 k all first.grown last.grown;
    stands = record { below = last.stands.below; term = last.stands.term ∙ (λ i. whole (first.stands.term i)) };
  }

-- ---- two parts
module _ (whole : ColumnTerm → ColumnTerm → ColumnTerm) (a b c : Listed) (m n x y : ℕ) (p q : ColumnTerm) (first : Enters a b m x p) (second : Enters b c n y q) where
  pub first_stays : Stands c x p
  first_stays = second.grown.kept x p first.stands

  pub both_below : (x < step_count c) × (y < step_count c)
  both_below = (first_stays.below, second.stands.below)

  both_terms : whole (listed_term c x) (listed_term c y) ≡ whole p q
  both_terms = λ i. whole (first_stays.term i) (second.stands.term i)

  pub both_part : IsPart a.sight (whole p q) → IsPart c.sight (whole (listed_term c x) (listed_term c y))
  both_part part = subst (λ s. IsPart s (whole (listed_term c x) (listed_term c y))) (sym (second.grown.sight ∙ first.grown.sight)) (subst (IsPart a.sight) (sym both_terms) part)

  pub both_entered : (d : Listed) (k z : ℕ) → m + n + 1 ≤ k → Enters c d 1 z (whole (listed_term c x) (listed_term c y)) → Enters a d k z (whole p q)
  both_entered d k z all last = record {
    grown = grows_on a c d (m + n) 1 k all (grows_on a b c m n (m + n) (omega arith) first.grown second.grown) last.grown;
    stands = record { below = last.stands.below; term = last.stands.term ∙ both_terms };
  }

-- a part that stands is there with no step more
pub again : (a b : Listed) (m x : ℕ) (p : ColumnTerm) → Enters a b m x p → Enters b b 0 x p
again a b m x p is = record { grown = grows_none b; stands = is.stands }

-- ---- the step of two parts may be entered after them
pub can_enter_sum : (a b c : Listed) (m n x y : ℕ) (p q : ColumnTerm) → Enters a b m x p → Enters b c n y q → IsPart a.sight (sum p q) → CanEnter c (Sum x y)
can_enter_sum a b c m n x y p q first second part = record { operands = both_below sum a b c m n x y p q first second; part = both_part sum a b c m n x y p q first second part }

pub can_enter_difference : (a b c : Listed) (m n x y : ℕ) (p q : ColumnTerm) → Enters a b m x p → Enters b c n y q → IsPart a.sight (difference p q) → CanEnter c (Difference x y)
can_enter_difference a b c m n x y p q first second part =
    record { operands = both_below difference a b c m n x y p q first second; part = both_part difference a b c m n x y p q first second part }
