-- The terms of formulas that are entered after their parts.
use Rattle.std.proofs.Common.{◌≡◌, inr, ℕ, ◌+◌, ◌<◌, ◌≤◌, [], refl, ap, sym, subst, arith}
use Rattle.event_expr.specs.Leaves.{Names}
use Rattle.spec_expressions.specs.Term.{IsFormula, IsLeaf, Leaf, Term, leaf, node_limit, nodes}
use Rattle.spec_steps.specs.declared.sights.Sight.{Sight}
use Rattle.spec_steps.specs.ColumnTerms.{ColumnTerm, of_leaf, of_term}
use Rattle.spec_steps.specs.Parts.{IsPart}
use Rattle.column_steps.specs.Listed.{Enters, Grows, IsMadeAt, Listed, Stands, listed_term, step_count}
use Rattle.column_steps.specs.Places.{ArePlaced, LeafPlaces, entry_of}
use Rattle.column_steps.proofs.Entered.{both_below, both_entered, both_part, grows_more, grows_none, grows_on}

-- ---- coordinates
pub placed_later : (a b : Listed) (n : ℕ) (p : LeafPlaces) (e d : Term) → Grows a b n → ((l : Leaf) → Names d l → Names e l) → ArePlaced a p e → ArePlaced b p d
placed_later a b n p e d grown inside are = λ l is named. subst (λ s. Stands b (entry_of p l) (of_leaf s l)) (sym grown.sight) (grown.kept _ _ (are l is (inside l named)))

pub leaf_entered : (a : Listed) (p : LeafPlaces) (k : ℕ) (l : Leaf) → k ≡ entry_of p l → IsLeaf l → ArePlaced a p (leaf l) → Enters a a 1 k (of_leaf a.sight l)
leaf_entered a p k l same is are = record { grown = grows_more a a 0 1 (omega arith) (grows_none a); stands = subst (λ j. Stands a j (of_leaf a.sight l)) (sym same) (are l is refl) }

-- the room for a second part
pub second_room : (a b k l : ℕ) → a + (1 + k + l) ≤ 512 → b ≤ a + k → b + l ≤ 512
second_room a b k l whole few = omega (arith, whole, few)

-- ---- two parts
at_sight : (a b c : Listed) (m n y : ℕ) (e : Term) → Grows a b m → Enters b c n y (of_term b.sight e) → Enters b c n y (of_term a.sight e)
at_sight a b c m n y e grown is = subst (λ s. Enters b c n y (of_term s e)) grown.sight is

module _ (whole : ColumnTerm → ColumnTerm → ColumnTerm) (of : Term → Term → Term) (same : (s : Sight) (d e : Term) → of_term s (of d e) ≡ whole (of_term s d) (of_term s e))
    (a b c : Listed) (m n x y : ℕ) (d e : Term) (first : Enters a b m x (of_term a.sight d)) (second : Enters b c n y (of_term b.sight e)) where
  second_as : Enters b c n y (of_term a.sight e)
  second_as = at_sight a b c m n y e first.grown second

  pub terms_below : (x < step_count c) × (y < step_count c)
  terms_below = both_below whole a b c m n x y _ _ first second_as

  pub terms_part : IsFormula (of d e) → IsPart c.sight (whole (listed_term c x) (listed_term c y))
  terms_part is = both_part whole a b c m n x y _ _ first second_as (inr (record { whole = of d e; formula = is; term = same a.sight d e }))

  pub terms_entered : (f : Listed) (k z : ℕ) → m + n + 1 ≤ k → Enters c f 1 z (whole (listed_term c x) (listed_term c y)) → Enters a f k z (of_term a.sight (of d e))
  terms_entered f k z all last = subst (Enters a f k z) (sym (same a.sight d e)) (both_entered whole a b c m n x y _ _ first second_as f k z all last)

-- ---- a whole formula
pub after_places : (a b c : Listed) (n r : ℕ) (e : Term) → Grows a b 120 → Enters b c n r (of_term b.sight e) → Enters a c (120 + n) r (of_term a.sight e)
after_places a b c n r e grown is = record {
  grown = grows_on a b c 120 n (120 + n) (omega arith) grown is.grown;
  stands = subst (λ s. Stands c r (of_term s e)) grown.sight is.stands;
}

pub first_made : (l m : Listed) (sight : Sight) (e : Term) (place : ℕ) → l ≡ record { sight = sight; steps = [] } → nodes e ≤ node_limit
    → Enters l m (120 + nodes e) place (of_term l.sight e) → IsMadeAt m place (of_term sight e)
first_made l m sight e place none few is =
    let start : step_count l ≡ 0 = ap step_count none in
    let below = is.stands.below in
    let grown = is.grown.few in
    record { stands = subst (λ (k : Listed). Stands m place (of_term k.sight e)) none is.stands; slot = omega (arith, start, below, grown, few) }
