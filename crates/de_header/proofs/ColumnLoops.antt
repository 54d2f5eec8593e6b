-- The words of a row, and the columns of three rows, one after the other.
use Rattle.std.proofs.Common.{◌≡◌, ℕ, zero, suc, ◌+◌, ◌<◌, List, [], ◌∷◌, ◌++◌, length, get_or, take, drop, set, None, Some, Result, Err, refl, sym, ap, ◌∙◌, arith}
use Rattle.std.specs.Prelude.{slice_get}
use Rattle.std.proofs.lemmas.List.{take_more_set}
use Rattle.spec_faults.specs.declared.numbers.TheConstants.{HEADER_NUMBER}
use Rattle.spec_ephemeris.specs.declared.header.Column.{Column}
use Rattle.spec_files.specs.declared.rules.BrokenRule.{BrokenRule}
use Rattle.spec_files.specs.ColumnRules.{columns_of, whole_numbers}
use Rattle.spec_files.specs.Sections.{broken}
use Rattle.spec_text.specs.Reading.{whole_at}

abbrev column_at : List ℕ → List ℕ → List ℕ → ℕ → Column
column_at starts coefs granules i = record { start = get_or starts i 0; coefs = get_or coefs i 0; granules = get_or granules i 0 }

columns_snoc : (i : ℕ) (ss cs gs : List ℕ) → i < length ss → i < length cs → i < length gs
    → columns_of (take (suc i) ss) (take (suc i) cs) (take (suc i) gs) ≡ columns_of (take i ss) (take i cs) (take i gs) ++ column_at ss cs gs i ∷ []
columns_snoc i [] cs gs a b d = absurd (omega (arith, a))
columns_snoc i (s ∷ ss) [] gs a b d = absurd (omega (arith, b))
columns_snoc i (s ∷ ss) (c ∷ cs) [] a b d = absurd (omega (arith, d))
columns_snoc zero (s ∷ ss) (c ∷ cs) (g ∷ gs) a b d = refl
columns_snoc (suc i) (s ∷ ss) (c ∷ cs) (g ∷ gs) a b d =
    ap (λ (l : List Column). record { start = s; coefs = c; granules = g } ∷ l) (columns_snoc i ss cs gs (omega (arith, a)) (omega (arith, b)) (omega (arith, d)))

pub columns_more : (i : ℕ) (ss cs gs : List ℕ) (out : List Column) → i < length out → i < length ss → i < length cs → i < length gs
    → take i out ≡ columns_of (take i ss) (take i cs) (take i gs)
    → take (i + 1) (set out i (column_at ss cs gs i)) ≡ columns_of (take (i + 1) ss) (take (i + 1) cs) (take (i + 1) gs)
columns_more i ss cs gs out o a b d is =
    let next : suc i ≡ i + 1 = omega arith in
    take_more_set out i (column_at ss cs gs i) o ∙ ap (λ (l : List Column). l ++ column_at ss cs gs i ∷ []) is ∙ sym (columns_snoc i ss cs gs a b d)
    ∙ ap (λ (k : ℕ). columns_of (take k ss) (take k cs) (take k gs)) next

pub row_stops : (words : List (List ℕ)) (i : ℕ) (before : List ℕ) → i < length words → None ≡ whole_at (slice_get words i)
    → whole_numbers before (drop i words) ≡ Err (broken HEADER_NUMBER 1)
row_stops [] i before below none = absurd (omega (arith, below))
row_stops (w ∷ ws) zero before below none = rw (← none) refl
row_stops (w ∷ ws) (suc i) before below none = row_stops ws i before (omega (arith, below)) none

row_goes_on : (words : List (List ℕ)) (i n : ℕ) (before : List ℕ) → i < length words → Some n ≡ whole_at (slice_get words i)
    → whole_numbers before (drop i words) ≡ whole_numbers (before ++ n ∷ []) (drop (suc i) words)
row_goes_on [] i n before below some = absurd (omega (arith, below))
row_goes_on (w ∷ ws) zero n before below some = rw (← some) refl
row_goes_on (w ∷ ws) (suc i) n before below some = row_goes_on ws i n before (omega (arith, below)) some

pub row_more : (words : List (List ℕ)) (i n : ℕ) (out : List ℕ) (whole : Result (List ℕ) BrokenRule) → i < length words → i < length out → Some n ≡ whole_at (slice_get words i)
    → whole_numbers (take i out) (drop i words) ≡ whole → whole_numbers (take (i + 1) (set out i n)) (drop (i + 1) words) ≡ whole
row_more words i n out whole below within some is =
    let next : suc i ≡ i + 1 = omega arith in
    ap (λ (l : List ℕ). whole_numbers l (drop (i + 1) words)) (take_more_set out i n within)
    ∙ ap (λ (k : ℕ). whole_numbers (take i out ++ n ∷ []) (drop k words)) (sym next)
    ∙ sym (row_goes_on words i n (take i out) below some) ∙ is
