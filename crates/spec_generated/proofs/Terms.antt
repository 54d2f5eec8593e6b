-- The term of the place of a coefficient.
use Rattle.std.proofs.Common.{◌≡◌, ◌+◌, ◌-◌, ◌*◌, ◌%◌, ◌<◌, ◌≤◌, ◌&&◌, ℕ, zero, suc, Bool, true, false, List, [], ◌∷◌, Some, refl, ap, ◌∙◌, arith, rules, subst, nat_le}
use Rattle.std.specs.Prelude.{slice_get}
use Rattle.std.proofs.Math.Nat.{add-mul-mod_self_left, mod-eq_of_lt}
use Rattle.std.proofs.lemmas.Bool.{and_from, le-leb, le-ltb, lt-ltb}
use Rattle.std.proofs.lemmas.Option.{none-some, same_Some}
use Rattle.spec_numbers.proofs.Naturals.{row_fits}
use Rattle.spec_ephemeris.specs.declared.header.Column.{Column}
use Rattle.spec_ephemeris.specs.Header.{column_size, components, granule_size, is_present}
use Rattle.spec_files.specs.BlockRules.{is_place}
use Rattle.spec_generated.specs.Coefficients.{IsTermAt, ScaledColumn, place_of, scaled_columns, term_among, term_at}
use Rattle.spec_generated.specs.declared.columns.CoefficientShape.{CoefficientShape}

-- these columns, the first of which has this number and begins at this place, follow one another
abbrev AreJoined : ℕ → ℕ → List ScaledColumn → Type 0
AreJoined number place [] = Unit {0}
AreJoined number place (c ∷ cs) = (c.column.start ≡ place) × AreJoined (suc number) (place + column_size number c.column) cs

-- a later column begins no earlier
begins_after : (number place : ℕ) (cs : List ScaledColumn) (i : ℕ) (c : ScaledColumn) → AreJoined number place cs → slice_get cs i ≡ Some c → place ≤ c.column.start
begins_after number place [] i c joined at = absurd (none-some c at)
begins_after number place (d ∷ cs) zero c joined at = let same = same_Some d c at in omega (arith, joined.0, ap (λ (s : ScaledColumn). s.column.start) same)
begins_after number place (d ∷ cs) (suc i) c joined at = omega (arith, begins_after (suc number) (place + column_size number d.column) cs i c joined.1 at)

-- a place before the end of a column, from its start on
pub record IsInside (number : ℕ) (c : Column) (place : ℕ) : Type 0 where
  pub from : c.start ≤ place
  pub before : place < c.start + column_size number c

is_inside : (number : ℕ) (c : Column) (place : ℕ) → is_present c ≡ true → IsInside number c place → is_place number c place ≡ true
is_inside number c place present inside =
    and_from _ _ present (and_from _ _ (le-leb c.start place inside.from) (lt-ltb place (c.start + column_size number c) inside.before))

never : (a b : Bool) → (a && (b && false)) ≡ false
never true true = refl
never true false = refl
never false b = refl

is_outside : (number : ℕ) (c : Column) (place : ℕ) → c.start + column_size number c ≤ place → is_place number c place ≡ false
is_outside number c place after =
    rw (le-ltb place (c.start + column_size number c) after) (never (is_present c) (nat_le c.start place))

found : (number place : ℕ) (cs : List ScaledColumn) (i at : ℕ) (c : ScaledColumn) → AreJoined number place cs → slice_get cs i ≡ Some c → is_present c.column ≡ true
    → IsInside (number + i) c.column at → term_among number cs at ≡ record { scale = c.scale; degree = (at - c.column.start) % c.column.coefs }
found number place [] i at c joined get present inside = absurd (none-some c get)
found number place (d ∷ cs) zero at c joined get present inside =
    let same = same_Some d c get in
    let n : number + 0 ≡ number = omega arith in
    rw (same, is_inside number c.column at present (subst (λ (m : ℕ). IsInside m c.column at) n inside)) refl
found number place (d ∷ cs) (suc i) at c joined get present inside =
    let n : number + suc i ≡ suc number + i = omega arith in
    let after = begins_after (suc number) (place + column_size number d.column) cs i c joined.1 get in
    rw (is_outside number d.column at (omega (arith, after, inside.from, joined.0)))
    (found (suc number) (place + column_size number d.column) cs i at c joined.1 get present (subst (λ (m : ℕ). IsInside m c.column at) n inside))

table_joined : AreJoined 1 3 scaled_columns
table_joined = search rules

inside_is : (number : ℕ) (c : Column) (granule axis k : ℕ) → granule < c.granules → axis < components number → k < c.coefs → IsInside number c (place_of number c granule axis k)
inside_is number c granule axis k granule_is axis_is k_is =
    let size = granule_size number c in
    let row : axis * c.coefs + c.coefs ≤ size = row_fits axis (components number) c.coefs axis_is in
    let rows : granule * size + size ≤ c.granules * size = row_fits granule c.granules size granule_is in
    let all : c.granules * size ≡ size * c.granules = omega arith in
    record { from = omega arith; before = omega (arith, row, rows, all, k_is) }

degree_is : (number : ℕ) (c : Column) (granule axis k : ℕ) → k < c.coefs → (place_of number c granule axis k - c.start) % c.coefs ≡ k
degree_is number c granule axis k below =
    let rest : place_of number c granule axis k - c.start ≡ k + c.coefs * (granule * components number + axis) = omega arith in
    ap (λ (n : ℕ). n % c.coefs) rest ∙ add-mul-mod_self_left k c.coefs (granule * components number + axis) ∙ mod-eq_of_lt below

pub term_place : (number : ℕ) (c : ScaledColumn) (granule axis k : ℕ) → IsTermAt number c granule axis k
    → term_at (place_of number c.column granule axis k) ≡ record { scale = c.scale; degree = k }
unfolding term_at
term_place zero c granule axis k is = absurd (none-some c is.listed)
term_place (suc i) c granule axis k is =
    let number : suc i ≡ 1 + i = omega arith in
    let place = place_of (suc i) c.column granule axis k in
    let inside = subst (λ (n : ℕ). IsInside n c.column place) number (inside_is (suc i) c.column granule axis k is.granules is.axes is.degrees) in
    let present : is_present c.column ≡ true = and_from _ _ (lt-ltb 0 c.column.coefs (omega (arith, is.degrees))) (lt-ltb 0 c.column.granules (omega (arith, is.granules))) in
    let degree : (place - c.column.start) % c.column.coefs ≡ k = degree_is (suc i) c.column granule axis k is.degrees in
    let term : ℕ → CoefficientShape = λ d. record { scale = c.scale; degree = d } in
    found 1 3 scaled_columns i place c table_joined is.listed present inside ∙ ap term degree
