-- The columns of an accepted header meet the rules of their places.
use Rattle.std.proofs.Common.{◌≡◌, ℕ, zero, suc, ◌+◌, ◌&&◌, nat_le, nat_lt, Bool, true, false, List, [], ◌∷◌, ◌++◌, length, take, Some, Ok, Err, refl, sym, ap, ◌∙◌, inl, inr, arith, eq-eqb, ne_eqb, if◌then◌else◌}
use Rattle.std.specs.Prelude.{slice_get}
use Rattle.std.proofs.lemmas.Bool.{and_parts, cases_Bool, cases_eq, false≢true, leb-true, lt-ltb, or_parts}
use Rattle.std.proofs.lemmas.List.{append-nil, append_assoc, length-append}
use Rattle.std.proofs.lemmas.Option.{none-some, same_Some}
use Rattle.spec_text.specs.Reading.{whole_of}
use Rattle.spec_ephemeris.specs.Header.{AreApart, IsColumnCount, column_size, is_present}
use Rattle.spec_ephemeris.specs.declared.header.Column.{Column}
use Rattle.spec_files.specs.declared.rules.BrokenRule.{BrokenRule}
use Rattle.spec_files.specs.ColumnRules.{column_rule, columns_of, columns_rule, first_row, is_column_count, overlap, overlaps_any, row_of, whole_number, whole_numbers}
use Rattle.spec_files.proofs.Holding.{Holds, holds_also, then_any}

-- a row has a number for each column
numbers_length : (before : List ℕ) (words : List (List ℕ)) → Holds (λ ns. length ns ≡ length before + length words) (whole_numbers before words)
numbers_length before [] = omega arith
numbers_length before (word ∷ words) =
    then_any (λ (ns : List ℕ). length ns ≡ length before + length (word ∷ words)) (whole_number (whole_of word)) _ (λ n is.
    holds_also (λ ns. length ns ≡ length (before ++ n ∷ []) + length words) (λ ns. length ns ≡ length before + length (word ∷ words)) _
    (λ ns same. omega (arith, same, length-append before (n ∷ []))) (numbers_length (before ++ n ∷ []) words))

pub row_holds : (count : ℕ) (words : List (List ℕ)) → Holds (λ ns. length ns ≡ count) (row_of count words)
row_holds count words = elim (cases_eq (length words) count) [
  | inl all ↦ rw (eq-eqb (length words) count all)
      (holds_also (λ ns. length ns ≡ 0 + length words) (λ ns. length ns ≡ count) (whole_numbers [] words) (λ ns same. omega (arith, same, all)) (numbers_length [] words))
  | inr other ↦ rw (ne_eqb (length words) count other) tt
]

pub count_is : (count : ℕ) → is_column_count count ≡ true → IsColumnCount count
count_is count holds =
    let both = and_parts (nat_le 13 count) (nat_le count 15) holds in
    (leb-true 13 count both.0, leb-true count 15 both.1)

pub first_row_holds : (words : List (List ℕ)) → Holds (λ ns. IsColumnCount (length ns)) (first_row words)
first_row_holds words = elim (cases_Bool (is_column_count (length words))) [
  | inl fits ↦ rw fits
      (let count = count_is (length words) fits in
      holds_also (λ ns. length ns ≡ 0 + length words) (λ ns. IsColumnCount (length ns)) (whole_numbers [] words) (λ ns same. (omega (arith, same, count.0), omega (arith, same, count.1))) (numbers_length [] words))
  | inr other ↦ rw other tt
]

pub columns_length : (n : ℕ) (ss cs gs : List ℕ) → length ss ≡ n → length cs ≡ n → length gs ≡ n → length (columns_of ss cs gs) ≡ n
columns_length n [] cs gs a b d = a
columns_length n (s ∷ ss) [] gs a b d = b
columns_length n (s ∷ ss) (c ∷ cs) [] a b d = d
columns_length zero (s ∷ ss) (c ∷ cs) (g ∷ gs) a b d = absurd (omega (arith, a))
columns_length (suc n) (s ∷ ss) (c ∷ cs) (g ∷ gs) a b d = omega (arith, columns_length n ss cs gs (omega (arith, a)) (omega (arith, b)) (omega (arith, d)))

-- each of these columns after the earlier ones meets its rule
abbrev pub EachMeets : ℕ → ℕ → List Column → List Column → Type 0
EachMeets n s before cs = (i : ℕ) (c : Column) → slice_get cs i ≡ Some c → column_rule n s (before ++ take i cs) c ≡ Ok tt

each_meets : (n s : ℕ) (before : List Column) (c : Column) (cs : List Column) → column_rule n s before c ≡ Ok tt → EachMeets n s (before ++ c ∷ []) cs
    → EachMeets n s before (c ∷ cs)
each_meets n s before c cs here later zero d get =
    ap (λ (l : List Column). column_rule n s l d) (append-nil before) ∙ ap (column_rule n s before) (sym (same_Some c d get)) ∙ here
each_meets n s before c cs here later (suc i) d get =
    ap (λ (l : List Column). column_rule n s l d) (sym (append_assoc before (c ∷ []) (take i cs))) ∙ later i d get

pub rule_holds : (n s : ℕ) (before cs : List Column) → Holds (λ all. (all ≡ before ++ cs) × EachMeets n s before cs) (columns_rule n s before cs)
rule_holds n s before [] = (sym (append-nil before), λ i c get. absurd (none-some c get))
rule_holds n s before (c ∷ cs) =
    then_any (λ (all : List Column). (all ≡ before ++ c ∷ cs) × EachMeets n s before (c ∷ cs)) (column_rule n s before c) _ (λ u is.
    holds_also (λ all. (all ≡ (before ++ c ∷ []) ++ cs) × EachMeets n s (before ++ c ∷ []) cs) (λ all. (all ≡ before ++ c ∷ cs) × EachMeets n s before (c ∷ cs)) _
    (λ all facts. (facts.0 ∙ append_assoc before (c ∷ []) cs, each_meets n s before c cs is facts.1)) (rule_holds n s (before ++ c ∷ []) cs))

-- the first of three rules that is broken
pub first_broken : (a b c : Bool) (x y z : BrokenRule) → Holds (λ (u : Unit {0}). (a ≡ false) × (b ≡ false) × (c ≡ true))
    (if a then Err x else if b then Err y else if c then Ok tt else Err z)
first_broken true b c x y z = tt
first_broken false true c x y z = tt
first_broken false false true x y z = (refl, refl, refl)
first_broken false false false x y z = tt

pub no_overlap : (i : ℕ) (c : Column) (j : ℕ) (ds : List Column) → overlaps_any i c j ds ≡ false → (k : ℕ) (d : Column) → slice_get ds k ≡ Some d
    → is_present d ≡ true → overlap i c (j + k) d ≡ false
no_overlap i c j [] none k d get present = absurd (none-some d get)
no_overlap i c j (e ∷ ds) none zero d get present =
    let parts = or_parts (is_present e && overlap i c j e) (overlaps_any i c (suc j) ds) none in
    let same : e ≡ d = same_Some e d get in
    let here : (is_present d && overlap i c j d) ≡ false = ap (λ (x : Column). is_present x && overlap i c j x) (sym same) ∙ parts.0 in
    let number : j + 0 ≡ j = omega arith in
    ap (λ (k : ℕ). overlap i c k d) number ∙ ap (λ (b : Bool). b && overlap i c j d) (sym present) ∙ here
no_overlap i c j (e ∷ ds) none (suc k) d get present =
    let parts = or_parts (is_present e && overlap i c j e) (overlaps_any i c (suc j) ds) none in
    let number : j + suc k ≡ suc j + k = omega arith in
    ap (λ (m : ℕ). overlap i c m d) number ∙ no_overlap i c (suc j) ds parts.1 k d get present

pub apart : (i : ℕ) (c : Column) (j : ℕ) (d : Column) → overlap j d i c ≡ false → AreApart i c j d
apart i c j d none place one other =
    let first : nat_lt d.start (c.start + column_size i c) ≡ true = lt-ltb _ _ (omega (arith, one.before, other.from)) in
    let second : nat_lt c.start (d.start + column_size j d) ≡ true = lt-ltb _ _ (omega (arith, other.before, one.from)) in
    let both : overlap j d i c ≡ true = rw (first, second) refl in
    false≢true (sym none ∙ both)
