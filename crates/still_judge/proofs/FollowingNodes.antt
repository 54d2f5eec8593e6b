-- Spans that follow one another: a walk over them, and what their order says of two of them.
use Rattle.std.proofs.Common.{◌≡◌, ◌<◌, ◌≤◌, ◌+◌, ℕ, zero, suc, Bool, true, false, ◌&&◌, ℤ, ◌≤ℤ◌, ◌<ℤ◌, pos, inl, inr, List, [], ◌∷◌, length, drop, refl, sym, ap, ◌∙◌, subst, arith}
use Rattle.std.proofs.Math.ListN.{get_or}
use Rattle.std.proofs.lemmas.Int.{ints}
use Rattle.std.proofs.lemmas.Bool.{and_parts, cases_lt, leb-true}
use Rattle.std.proofs.lemmas.List.{at_drop_more}
use Rattle.std.specs.Prelude.{int_le, int_lt, nat_le}
use Rattle.std.specs.List.Sorted.{IsPartitionedBy}
use Rattle.spec_stills.specs.declared.still.StillSpan.{StillSpan}
use Rattle.still_judge.specs.declared.limits.TheConstants.{MAX_HALVINGS}
use Rattle.still_judge.specs.Order.{are_in_order, follow, is_next}

-- ---- a walk
pub follow_more : (time : ℤ) (xs : List StillSpan) (i : ℕ) (d : StillSpan) → i < length xs
    → follow time (drop i xs) ≡ (is_next time (get_or xs i d) && follow (get_or xs i d).upto (drop (i + 1) xs))
follow_more time xs i d below = at_drop_more (follow time) xs i d below

is_next_too : (next rest : Bool) → next ≡ true → (next && rest) ≡ rest
is_next_too next rest e = grind arith

module _ (first time : ℤ) (xs : List StillSpan) (i : ℕ) (x : StillSpan) (below : i < length xs) (there : x ≡ get_or xs i x) (so_far : follow first xs ≡ follow time (drop i xs)) where
  more : follow first xs ≡ (is_next time x && follow x.upto (drop (i + 1) xs))
  more = so_far ∙ follow_more time xs i x below ∙ ap (λ (y : StillSpan). is_next time y && follow y.upto (drop (i + 1) xs)) (sym there)

  pub stops : is_next time x ≡ false → follow first xs ≡ false
  stops e = more ∙ ap (λ (next : Bool). next && follow x.upto (drop (i + 1) xs)) e

  pub goes_on : is_next time x ≡ true → follow first xs ≡ follow x.upto (drop (i + 1) xs)
  goes_on e = more ∙ is_next_too (is_next time x) _ e

-- ---- the order
record IsNext (time : ℤ) (x : StillSpan) : Type 0 where
  from : time ≤ℤ x.from
  some : x.from <ℤ x.upto

next_is : (time : ℤ) (x : StillSpan) → is_next time x ≡ true → IsNext time x
next_is time x e = record { from = grind (arith, ints, e); some = grind (arith, ints, e) }

-- none begins earlier
pub begins_later : (time : ℤ) (xs : List StillSpan) → follow time xs ≡ true → (k : ℕ) (d : StillSpan) → k < length xs → time ≤ℤ (get_or xs k d).from
begins_later time [] e k d below = absurd (omega (arith, below))
begins_later time (x ∷ xs) e zero d below = (next_is time x (and_parts (is_next time x) (follow x.upto xs) e).0).from
begins_later time (x ∷ xs) e (suc k) d below =
    let parts = and_parts (is_next time x) (follow x.upto xs) e in
    let next = next_is time x parts.0 in
    let from = next.from in
    let some = next.some in
    let later = begins_later x.upto xs parts.1 k d (omega (arith, below)) in
    omega (arith, ints, from, some, later)

-- each ends before a later one begins
pub ends_before : (time : ℤ) (xs : List StillSpan) → follow time xs ≡ true → (j k : ℕ) (d e : StillSpan) → j < k → k < length xs → (get_or xs j d).upto ≤ℤ (get_or xs k e).from
ends_before time [] is j k d e less below = absurd (omega (arith, below))
ends_before time (x ∷ xs) is j zero d e less below = absurd (omega (arith, less))
ends_before time (x ∷ xs) is zero (suc k) d e less below = begins_later x.upto xs (and_parts (is_next time x) (follow x.upto xs) is).1 k e (omega (arith, below))
ends_before time (x ∷ xs) is (suc j) (suc k) d e less below = ends_before x.upto xs (and_parts (is_next time x) (follow x.upto xs) is).1 j k d e (omega (arith, less)) (omega (arith, below))

-- each has some time
pub has_time : (time : ℤ) (xs : List StillSpan) → follow time xs ≡ true → (k : ℕ) (d : StillSpan) → k < length xs → (get_or xs k d).from <ℤ (get_or xs k d).upto
has_time time [] e k d below = absurd (omega (arith, below))
has_time time (x ∷ xs) e zero d below = (next_is time x (and_parts (is_next time x) (follow x.upto xs) e).0).some
has_time time (x ∷ xs) e (suc k) d below = has_time x.upto xs (and_parts (is_next time x) (follow x.upto xs) e).1 k d (omega (arith, below))

-- ---- spans that begin no later than a time stand first
parted_by : (first time : ℤ) (xs : List StillSpan) → follow first xs ≡ true → (i j : ℕ) (d : StillSpan) → i < j → j < length xs
    → int_le (get_or xs j d).from time ≡ true → int_le (get_or xs i d).from time ≡ true
parted_by first time xs is i j d less below upto =
    let ends = ends_before first xs is i j d d less below in
    let some = has_time first xs is i d (omega (arith, less, below)) in
    grind (arith, ints, ends, some, upto)

parted_cases : (first time : ℤ) (xs : List StillSpan) → follow first xs ≡ true → IsPartitionedBy (λ x. int_le x.from time) xs
parted_cases first time xs is i j d no_later below upto =
    elim (cases_lt i j) [ inl less ↦ parted_by first time xs is i j d less below upto | inr more ↦ subst (λ (k : ℕ). int_le (get_or xs k d).from time ≡ true) (omega (arith, no_later, more)) upto ]

-- the walk begins where the first of them does
pub followed : (xs : List StillSpan) → are_in_order xs ≡ true → (first : ℤ) × (follow first xs ≡ true)
followed [] is = (pos 0, refl)
followed (x ∷ xs) is = (x.from, is)

pub are_parted : (time : ℤ) (xs : List StillSpan) → are_in_order xs ≡ true → IsPartitionedBy (λ x. int_le x.from time) xs
are_parted time xs is = let walk = followed xs is in parted_cases walk.0 time xs walk.1

-- ---- no span asks for too many halvings
halved_in : (time : ℤ) (xs : List StillSpan) → follow time xs ≡ true → (k : ℕ) (d : StillSpan) → k < length xs → (get_or xs k d).halvings ≤ MAX_HALVINGS
halved_in time [] is k d below = absurd (omega (arith, below))
halved_in time (x ∷ xs) is zero d below = few_in time x (and_parts (is_next time x) (follow x.upto xs) is).0
  where
    few_in : (time : ℤ) (x : StillSpan) → is_next time x ≡ true → x.halvings ≤ MAX_HALVINGS
    few_in time x is =
        let parts = and_parts (int_le time x.from) (int_lt x.from x.upto && nat_le x.halvings MAX_HALVINGS) is in
        leb-true x.halvings MAX_HALVINGS (and_parts (int_lt x.from x.upto) (nat_le x.halvings MAX_HALVINGS) parts.1).1
halved_in time (x ∷ xs) is (suc k) d below = halved_in x.upto xs (and_parts (is_next time x) (follow x.upto xs) is).1 k d (omega (arith, below))

pub few_halvings : (xs : List StillSpan) → are_in_order xs ≡ true → (k : ℕ) (d : StillSpan) → k < length xs → (get_or xs k d).halvings ≤ MAX_HALVINGS
few_halvings xs is k d below = let walk = followed xs is in halved_in walk.0 xs walk.1 k d below
