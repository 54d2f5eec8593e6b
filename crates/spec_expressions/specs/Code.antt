-- The code of a term: its parts in a row, operands before their operation, from which the term is read again.
use Rattle.std.specs.Prelude.{◌≡◌, ℕ, ℤ, Bool, true, false, List, [], ◌∷◌, ◌⊎◌}
use Rattle.std.specs.Coded.{Coded, code_by, coded×, coded⊎, coded_ℕ, coded_ℤ, coded_bool, coded_list}
use mathlib.Core.Logic.{inl, inr}
use mathlib.Core.Path.{refl, ◌∙◌, ap}
use Rattle.spec_expressions.specs.Term.{position, velocity, Term, leaf, length, cosine, sum, difference, product, signed_square}

-- a leaf, which may be a velocity, by target and axis; a constant, which may be a cosine; or one of four operations
abbrev Part : Type 0
Part = (Bool × (ℕ × ℕ)) ⊎ ((Bool × (ℤ × ℤ)) ⊎ (Bool × Bool))

abbrev part_code : Coded Part
part_code = coded⊎ (coded× coded_bool (coded× coded_ℕ coded_ℕ)) (coded⊎ (coded× coded_bool (coded× coded_ℤ coded_ℤ)) (coded× coded_bool coded_bool))

-- the parts of a term, before those that follow
abbrev parts : Term → List Part → List Part
parts (leaf (position target axis)) after = inl (false, (target, axis)) ∷ after
parts (leaf (velocity target axis)) after = inl (true, (target, axis)) ∷ after
parts (length d) after = inr (inl (false, (d.mant, d.exp))) ∷ after
parts (cosine d) after = inr (inl (true, (d.mant, d.exp))) ∷ after
parts (sum x y) after = parts x (parts y (inr (inr (false, false)) ∷ after))
parts (difference x y) after = parts x (parts y (inr (inr (false, true)) ∷ after))
parts (product x y) after = parts x (parts y (inr (inr (true, false)) ∷ after))
parts (signed_square x) after = parts x (inr (inr (true, true)) ∷ after)

-- the terms that were read, the latest first, after one more part
abbrev read : Part → List Term → List Term
read (inl (false, (target, axis))) read_terms = leaf (position target axis) ∷ read_terms
read (inl (true, (target, axis))) read_terms = leaf (velocity target axis) ∷ read_terms
read (inr (inl (false, (m, e)))) read_terms = length (record { mant = m; exp = e }) ∷ read_terms
read (inr (inl (true, (m, e)))) read_terms = cosine (record { mant = m; exp = e }) ∷ read_terms
read (inr (inr (false, false))) (y ∷ (x ∷ read_terms)) = sum x y ∷ read_terms
read (inr (inr (false, true))) (y ∷ (x ∷ read_terms)) = difference x y ∷ read_terms
read (inr (inr (true, false))) (y ∷ (x ∷ read_terms)) = product x y ∷ read_terms
read (inr (inr (true, true))) (x ∷ read_terms) = signed_square x ∷ read_terms
read (inr (inr operation)) read_terms = read_terms

abbrev read_all : List Part → List Term → List Term
read_all [] read_terms = read_terms
read_all (p ∷ after) read_terms = read_all after (read p read_terms)

abbrev first : List Term → Term
first [] = leaf (position 0 0)
first (x ∷ read_terms) = x

abbrev row : Term → List Part
row x = parts x []

abbrev from_row : List Part → Term
from_row ps = first (read_all ps [])

read_all-parts : (x : Term) (after : List Part) (read_terms : List Term) → read_all (parts x after) read_terms ≡ read_all after (x ∷ read_terms)
read_all-parts (leaf (position target axis)) after ts = refl
read_all-parts (leaf (velocity target axis)) after ts = refl
read_all-parts (length d) after ts = refl
read_all-parts (cosine d) after ts = refl
read_all-parts (sum x y) after ts = read_all-parts x (parts y (inr (inr (false, false)) ∷ after)) ts ∙ read_all-parts y (inr (inr (false, false)) ∷ after) (x ∷ ts)
read_all-parts (difference x y) after ts = read_all-parts x (parts y (inr (inr (false, true)) ∷ after)) ts ∙ read_all-parts y (inr (inr (false, true)) ∷ after) (x ∷ ts)
read_all-parts (product x y) after ts = read_all-parts x (parts y (inr (inr (true, false)) ∷ after)) ts ∙ read_all-parts y (inr (inr (true, false)) ∷ after) (x ∷ ts)
read_all-parts (signed_square x) after ts = read_all-parts x (inr (inr (true, true)) ∷ after) ts

pub from_row-row : (x : Term) → from_row (row x) ≡ x
from_row-row x = ap first (read_all-parts x [] [])

abbrev pub term_code : Coded Term
term_code = code_by (List Part) (coded_list part_code) row from_row from_row-row
