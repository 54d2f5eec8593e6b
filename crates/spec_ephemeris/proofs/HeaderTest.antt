-- A test of a header's rules that computes.
use Rattle.std.proofs.Common.{◌≡◌, ℕ, zero, suc, ◌+◌, ◌/◌, ◌%◌, ◌<◌, ◌==◌, nat_le, Bool, true, false, not, ◌&&◌, ◌||◌, IsTrue, List, [], ◌∷◌, length, take, slice_get, Some, None, pos, ◌≤ℤ◌, int_le, unsigned_abs, subst, ◌∙◌, arith}
use Rattle.std.proofs.lemmas.Nat.{div-add-mod'}
use Rattle.std.proofs.lemmas.Int.{ints}
use Rattle.spec_numbers.proofs.Booleans.{both_first, both_second}
use Rattle.spec_numbers.proofs.Lists.{get_take}
use Rattle.spec_ephemeris.specs.declared.header.Column.{Column}
use Rattle.spec_ephemeris.specs.declared.header.Header.{Header}
use Rattle.spec_ephemeris.specs.declared.limits.TheConstants.{READ_COLUMNS}
use Rattle.spec_ephemeris.specs.Header.{IsColumn, IsColumnCount, IsHeader, IsMassRatio, MeetsColumnRules, AreApart, column_at, column_size, is_present}
use Rattle.spec_ephemeris.proofs.ColumnRules.{listed}

-- the rules of one column, where it is present
abbrev pub column_test : Header → ℕ → Column → Bool
column_test h n c = nat_le c.coefs 32 && (nat_le 3 c.start && (nat_le (c.start + column_size n c) (h.ncoeff + 1) && (unsigned_abs h.block_seconds % c.granules == 0)))

abbrev pub apart_test : ℕ → Column → ℕ → Column → Bool
apart_test i c j d = nat_le (c.start + column_size i c) d.start || nat_le (d.start + column_size j d) c.start

-- the column is apart from each of the later ones that are present
abbrev pub later_test : ℕ → Column → ℕ → List Column → Bool
later_test i c j [] = true
later_test i c j (d ∷ ds) = (not (is_present d) || apart_test i c j d) && later_test i c (suc j) ds

abbrev pub columns_test : Header → ℕ → List Column → Bool
columns_test h n [] = true
columns_test h n (c ∷ cs) = (not (is_present c) || (column_test h n c && later_test n c (suc n) cs)) && columns_test h (suc n) cs

column_rules : (h : Header) (n : ℕ) (c : Column) → pos 0 ≤ℤ h.block_seconds → column_test h n c ≡ true → MeetsColumnRules h n c
column_rules h n c positive holds =
    let whole : unsigned_abs h.block_seconds % c.granules ≡ 0 = grind (arith, holds) in
    let split = div-add-mod' (unsigned_abs h.block_seconds) c.granules in
    record {
      coefficients = grind (arith, holds);
      start = grind (arith, holds);
      last = grind (arith, holds);
      granules = record {
        seconds = unsigned_abs h.block_seconds / c.granules;
        whole = omega (arith, ints, positive, whole, split);
      };
    }

columns_apart : (i j : ℕ) (c d : Column) → apart_test i c j d ≡ true → AreApart i c j d
columns_apart i j c d holds = λ place one other. grind (arith, holds, one.from, one.before, other.from, other.before)

same_column : (c d : Column) → Some c ≡ Some d → c ≡ d
same_column c d e = cc

no_column : {P : Type 0} (c : Column) → None ≡ Some c → P
no_column c e = absurd (cc)

-- of a test that is passed over where the column is absent
of_present : (present test : Bool) → IsTrue present → (not present || test) ≡ true → test ≡ true
of_present true test is holds = holds
of_present false test is holds = let never : false ≡ true = is in absurd (cc)

rules_at : (h : Header) (n : ℕ) (cs : List Column) → pos 0 ≤ℤ h.block_seconds → columns_test h n cs ≡ true
    → (i : ℕ) (c : Column) → slice_get cs i ≡ Some c → IsTrue (is_present c) → MeetsColumnRules h (n + i) c
rules_at h n [] positive holds i c at present = no_column c at
rules_at h n (d ∷ ds) positive holds zero c at present =
    let one : d ≡ c = same_column d c at in
    let here : column_test h n c && later_test n c (suc n) ds ≡ true = of_present (is_present c) _ present (both_first _ _ (rw one at holds)) in
    let place : n ≡ n + 0 = omega arith in
    let P : ℕ → Type 0 = λ m. MeetsColumnRules h m c in
    subst P place (column_rules h n c positive (both_first (column_test h n c) (later_test n c (suc n) ds) here))
rules_at h n (d ∷ ds) positive holds (suc i) c at present =
    let rest : columns_test h (suc n) ds ≡ true = both_second _ (columns_test h (suc n) ds) holds in
    let place : suc n + i ≡ n + suc i = omega arith in
    let P : ℕ → Type 0 = λ m. MeetsColumnRules h m c in
    subst P place (rules_at h (suc n) ds positive rest i c at present)

later_at : (i : ℕ) (c : Column) (j : ℕ) (ds : List Column) → later_test i c j ds ≡ true
    → (k : ℕ) (d : Column) → slice_get ds k ≡ Some d → IsTrue (is_present d) → AreApart i c (j + k) d
later_at i c j [] holds k d at present = no_column d at
later_at i c j (e ∷ es) holds zero d at present =
    let one : e ≡ d = same_column e d at in
    let here : apart_test i c j d ≡ true = of_present (is_present d) _ present (both_first _ _ (rw one at holds)) in
    let place : j ≡ j + 0 = omega arith in
    let P : ℕ → Type 0 = λ m. AreApart i c m d in
    subst P place (columns_apart i j c d here)
later_at i c j (e ∷ es) holds (suc k) d at present =
    let rest : later_test i c (suc j) es ≡ true = both_second _ (later_test i c (suc j) es) holds in
    let place : suc j + k ≡ j + suc k = omega arith in
    let P : ℕ → Type 0 = λ m. AreApart i c m d in
    subst P place (later_at i c (suc j) es rest k d at present)

apart_at : (h : Header) (n : ℕ) (cs : List Column) → columns_test h n cs ≡ true
    → (i j : ℕ) (c d : Column) → i < j → slice_get cs i ≡ Some c → slice_get cs j ≡ Some d → IsTrue (is_present c) → IsTrue (is_present d)
    → AreApart (n + i) c (n + j) d
apart_at h n [] holds i j c d before at_i at_j here there = no_column c at_i
apart_at h n (e ∷ es) holds i zero c d before at_i at_j here there = absurd (omega (arith, before))
apart_at h n (e ∷ es) holds zero (suc j) c d before at_i at_j here there =
    let one : e ≡ c = same_column e c at_i in
    let both : column_test h n c && later_test n c (suc n) es ≡ true = of_present (is_present c) _ here (both_first _ _ (rw one at holds)) in
    let first : n ≡ n + 0 = omega arith in
    let second : suc n + j ≡ n + suc j = omega arith in
    let P : ℕ → Type 0 = λ m. AreApart m c (n + suc j) d in
    let Q : ℕ → Type 0 = λ m. AreApart n c m d in
    subst P first (subst Q second (later_at n c (suc n) es (both_second (column_test h n c) (later_test n c (suc n) es) both) j d at_j there))
apart_at h n (e ∷ es) holds (suc i) (suc j) c d before at_i at_j here there =
    let rest : columns_test h (suc n) es ≡ true = both_second _ (columns_test h (suc n) es) holds in
    let first : suc n + i ≡ n + suc i = omega arith in
    let second : suc n + j ≡ n + suc j = omega arith in
    let P : ℕ → Type 0 = λ m. AreApart m c (n + suc j) d in
    let Q : ℕ → Type 0 = λ m. AreApart (suc n + i) c m d in
    subst P first (subst Q second (apart_at h (suc n) es rest i j c d (omega (arith, before)) at_i at_j here there))

-- a column that is read is one of the first
among_first : (columns : List Column) (i : ℕ) (c : Column) → column_at columns (suc i) ≡ Some c → slice_get (take READ_COLUMNS columns) i ≡ Some c
among_first columns i c is = let there = listed columns i c is in get_take columns READ_COLUMNS i there.0 ∙ there.1

all_rules : (h : Header) → pos 0 ≤ℤ h.block_seconds → columns_test h 1 (take READ_COLUMNS h.columns) ≡ true
    → (number : ℕ) (c : Column) → IsColumn h number c → MeetsColumnRules h number c
all_rules h positive holds zero c is = no_column c is.listed
all_rules h positive holds (suc i) c is =
    let place : 1 + i ≡ suc i = omega arith in
    let P : ℕ → Type 0 = λ m. MeetsColumnRules h m c in
    subst P place (rules_at h 1 (take READ_COLUMNS h.columns) positive holds i c (among_first h.columns i c is.listed) is.present)

all_apart : (h : Header) → columns_test h 1 (take READ_COLUMNS h.columns) ≡ true
    → (i j : ℕ) (c d : Column) → i < j → IsColumn h i c → IsColumn h j d → AreApart i c j d
all_apart h holds zero j c d before one other = no_column c one.listed
all_apart h holds (suc i) zero c d before one other = no_column d other.listed
all_apart h holds (suc i) (suc j) c d before one other =
    let first : 1 + i ≡ suc i = omega arith in
    let second : 1 + j ≡ suc j = omega arith in
    let P : ℕ → Type 0 = λ m. AreApart m c (suc j) d in
    let Q : ℕ → Type 0 = λ m. AreApart (1 + i) c m d in
    subst P first (subst Q second (apart_at h 1 (take READ_COLUMNS h.columns) holds i j c d (omega (arith, before))
    (among_first h.columns i c one.listed) (among_first h.columns j d other.listed) one.present other.present))

abbrev pub count_test : ℕ → Bool
count_test count = nat_le 13 count && nat_le count 15

-- the rules that are tests of numbers
abbrev pub numbers_test : Header → Bool
numbers_test h = nat_le 3 h.ncoeff && (nat_le h.ncoeff 4096 && (int_le (pos 1) h.block_seconds && (int_le h.block_seconds (pos 5529600000) && count_test (length h.columns))))

count_is : (count : ℕ) → count_test count ≡ true → IsColumnCount count
count_is count holds = (grind (arith, holds), grind (arith, holds))

-- a header that passes the tests meets the rules
pub passes : (h : Header) → IsMassRatio h.emrat → numbers_test h ≡ true → columns_test h 1 (take READ_COLUMNS h.columns) ≡ true → IsHeader h
passes h ratio numbers columns =
    let positive : pos 0 ≤ℤ h.block_seconds = grind (arith, ints, numbers) in
    record {
      fewest = grind (arith, numbers);
      most = grind (arith, numbers);
      shortest = grind (arith, ints, numbers);
      longest = grind (arith, ints, numbers);
      ratio = ratio;
      count =
          count_is (length h.columns) (both_second (int_le h.block_seconds (pos 5529600000)) _
          (both_second (int_le (pos 1) h.block_seconds) _ (both_second (nat_le h.ncoeff 4096) _ (both_second (nat_le 3 h.ncoeff) _ numbers))));
      columns = all_rules h positive columns;
      apart = all_apart h columns;
    }
