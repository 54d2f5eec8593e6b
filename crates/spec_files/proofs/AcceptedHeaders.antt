-- An accepted header meets the rules of a header.
use Rattle.std.proofs.Common.{◌≡◌, ℕ, zero, suc, ◌+◌, ◌*◌, ◌/◌, ◌%◌, ◌<◌, ◌==◌, nat_lt, true, false, List, [], length, take, Some, Ok, refl, sym, ap, ◌∙◌, subst, arith, pos, ◌≤ℤ◌}
use Rattle.std.specs.Prelude.{slice_get, codes}
use Rattle.std.proofs.lemmas.Bool.{eqb-true, lt-ltb, ltb-false, or_parts}
use Rattle.std.proofs.lemmas.List.{length-take-le}
use Rattle.std.proofs.lemmas.Option.{none-some, slice_get_within}
use Rattle.std.proofs.lemmas.Int.{ints}
use Rattle.std.proofs.Math.Nat.{div-add-mod, mul_comm}
use Rattle.spec_numbers.proofs.Lists.{get_take}
use Rattle.spec_text.specs.declared.decimals.Decimal.{Decimal}
use Rattle.spec_ephemeris.specs.Header.{AreApart, IsColumn, IsColumnCount, IsHeader, IsShared, MeetsColumnRules, column_size, is_present}
use Rattle.spec_ephemeris.specs.declared.header.Column.{Column}
use Rattle.spec_ephemeris.specs.declared.limits.TheConstants.{FIRST_PLACE, LONGEST_BLOCK, MAX_COEFFICIENTS, READ_COLUMNS}
use Rattle.spec_ephemeris.specs.declared.header.Header.{Header}
use Rattle.spec_ephemeris.proofs.ColumnRules.{listed}
use Rattle.spec_faults.specs.declared.numbers.TheConstants.{ENDED}
use Rattle.spec_files.specs.ColumnRules.{columns_of, columns_row, first_row, is_out_of_place, overlap, present_column, row_of}
use Rattle.spec_files.specs.HeaderLines.{header, names}
use Rattle.spec_files.specs.HeaderRules.{emrat_from, first_line, group, is_mass_ratio, name_count, span, value_count}
use Rattle.spec_files.specs.Sections.{FileLine, from_word}
use Rattle.spec_files.proofs.Bounds.{IsBlock, IsNcoeff, first_line_holds, span_holds, then_ratio}
use Rattle.spec_files.proofs.ColumnsMeet.{EachMeets, apart, columns_length, first_broken, first_row_holds, no_overlap, row_holds, rule_holds}
use Rattle.spec_files.proofs.Holding.{holds_also, Holds, holds_ok, then_any, then_line}
use Rattle.spec_files.proofs.Ratios.{mass_ratio_is}

module _ (n s : ℕ) (d : Decimal) (cs : List Column) (each : EachMeets n s [] cs) where
  abbrev h : Header
  h = record { ncoeff = n; block_seconds = pos s; emrat = d; columns = cs }

  -- what the rules say of a present column
  pub record Facts (i : ℕ) (c : Column) : Type 0 where
    pub few : nat_lt MAX_COEFFICIENTS c.coefs ≡ false
    pub place : is_out_of_place n (take i cs) (suc i) c ≡ false
    pub whole : (s % c.granules == 0) ≡ true

  facts : (i : ℕ) (c : Column) → i < READ_COLUMNS → slice_get cs i ≡ Some c → is_present c ≡ true → Facts i c
  facts i c first get present =
      let within : i < length cs = slice_get_within cs i c get in
      let read : nat_lt (length (take i cs)) READ_COLUMNS ≡ true = lt-ltb _ _ (omega (arith, first, length-take-le i cs (omega (arith, within)))) in
      let number : length (take i cs) + 1 ≡ suc i = omega (arith, length-take-le i cs (omega (arith, within))) in
      let met : present_column n s (take i cs) (suc i) c ≡ Ok tt = rw (read, present, number) at (each i c get) in
      let parts = holds_ok _ (present_column n s (take i cs) (suc i) c) tt met
      (first_broken (nat_lt MAX_COEFFICIENTS c.coefs) (is_out_of_place n (take i cs) (suc i) c) (s % c.granules == 0) _ _ _) in
      record { few = parts.0; place = parts.1; whole = parts.2 }

  get_at : (number : ℕ) (c : Column) → IsColumn h number c → (i : ℕ) × (number ≡ suc i) × (i < READ_COLUMNS) × (slice_get cs i ≡ Some c)
  get_at zero c is = absurd (none-some c is.listed)
  get_at (suc i) c is = let there = listed cs i c is.listed in (i, refl, there.0, there.1)

  granules_share : (g : ℕ) → (s % g == 0) ≡ true → IsShared (pos s) g
  granules_share g is =
      let whole : s % g ≡ 0 = eqb-true (s % g) 0 is in
      let same : s ≡ s / g * g = omega (arith, div-add-mod s g, mul_comm g (s / g), whole) in
      record { seconds = s / g; whole = ap pos same }

  meets_at : (i : ℕ) (c : Column) → Facts i c → MeetsColumnRules h (suc i) c
  meets_at i c f =
      let place = or_parts (nat_lt c.start FIRST_PLACE) _ f.place in
      let rest = or_parts (nat_lt (n + 1) (c.start + column_size (suc i) c)) _ place.1 in
      record { coefficients = ltb-false MAX_COEFFICIENTS c.coefs f.few; start = ltb-false c.start FIRST_PLACE place.0; last = ltb-false (n + 1) _ rest.0; granules = granules_share c.granules f.whole }

  meets : (number : ℕ) (c : Column) → IsColumn h number c → MeetsColumnRules h number c
  meets number c is =
      let at = get_at number c is in
      subst (λ (k : ℕ). MeetsColumnRules h k c) (sym at.1) (meets_at at.0 c (facts at.0 c at.2 at.3 is.present))

  apart_at : (i j : ℕ) (c d : Column) → i < j → j < READ_COLUMNS → slice_get cs i ≡ Some c → slice_get cs j ≡ Some d → is_present c ≡ true → is_present d ≡ true → AreApart (suc i) c (suc j) d
  apart_at i j c d less read one other present both =
      let f = facts j d read other both in
      let place = or_parts (nat_lt d.start FIRST_PLACE) _ f.place in
      let rest = or_parts (nat_lt (n + 1) (d.start + column_size (suc j) d)) _ place.1 in
      let number : suc i ≡ 1 + i = omega arith in
      apart (suc i) c (suc j) d (ap (λ (k : ℕ). overlap (suc j) d k c) number ∙ no_overlap (suc j) d 1 (take j cs) rest.1 i c (get_take cs j i less ∙ one) present)

  are_apart : (i j : ℕ) (c d : Column) → i < j → IsColumn h i c → IsColumn h j d → AreApart i c j d
  are_apart i j c d less one other =
      let at = get_at i c one in
      let to = get_at j d other in
      subst (λ (k : ℕ). AreApart k c j d) (sym at.1) (subst (λ (m : ℕ). AreApart (suc at.0) c m d) (sym to.1)
      (apart_at at.0 to.0 c d (omega (arith, less, at.1, to.1)) to.2 at.3 to.3 one.present other.present))

  is_header : IsNcoeff n → IsBlock s → is_mass_ratio d ≡ true → IsColumnCount (length cs) → IsHeader h
  is_header ncoeff block ratio count = record {
    fewest = ncoeff.0;
    most = ncoeff.1;
    shortest = omega (arith, ints, block.0);
    longest = omega (arith, ints, block.1);
    ratio = mass_ratio_is d ratio;
    count = count;
    columns = meets;
    apart = are_apart;
  }

abbrev IsAccepted : Header × List FileLine → Type 0
IsAccepted x = IsHeader x.0 × (x.0.block_seconds ≤ℤ LONGEST_BLOCK)

-- a block is no longer than the longest, in seconds
not_longer : (s : ℕ) → IsBlock s → pos s ≤ℤ LONGEST_BLOCK
not_longer s block = omega (arith, ints, block.1)

pub columns_hold : (n s : ℕ) (starts coefs : List ℕ) (words : List (List ℕ)) → length coefs ≡ length starts
    → Holds (λ cs. (length cs ≡ length starts) × EachMeets n s [] cs) (columns_row n s starts coefs words)
columns_hold n s starts coefs words coefs_is =
    then_any (λ (cs : List Column). (length cs ≡ length starts) × EachMeets n s [] cs) (row_of (length starts) words) _ (λ granules is.
    holds_also (λ all. (all ≡ columns_of starts coefs granules) × EachMeets n s [] (columns_of starts coefs granules)) (λ cs. (length cs ≡ length starts) × EachMeets n s [] cs) _
    (λ all facts. (
      ap length facts.0 ∙ columns_length (length starts) starts coefs granules refl coefs_is (holds_ok (λ ns. length ns ≡ length starts) (row_of (length starts) words) granules is (row_holds (length starts) words)),
      subst (EachMeets n s []) (sym facts.0) facts.1,
    ))
    (rule_holds n s [] (columns_of starts coefs granules)))

pub accepted : (lines : List FileLine) → Holds IsAccepted (header lines)
unfolding header
accepted lines =
    then_line IsAccepted ENDED first_line lines _ (λ w0 ncoeff ncoeff_is.
    then_line IsAccepted ENDED (group (codes "1010") 1010) ncoeff.1 _ (λ w1 titles titles_is.
    then_line IsAccepted ENDED (group (codes "1030") 1030) (from_word (codes "GROUP") titles.1) _ (λ w2 dates dates_is.
    then_line IsAccepted ENDED span dates.1 _ (λ w3 block block_is.
    then_line IsAccepted ENDED (group (codes "1040") 1040) block.1 _ (λ w4 constants constants_is.
    then_line IsAccepted ENDED name_count constants.1 _ (λ w5 count count_is.
    then_any IsAccepted (names count.0 count.1) _ (λ named named_is.
    then_line IsAccepted ENDED (group (codes "1041") 1041) named.1 _ (λ w6 values values_is.
    then_line IsAccepted ENDED (value_count count.0 (emrat_from 0 named.0)) values.1 _ (λ w7 place place_is.
    then_ratio IsAccepted _ (λ emrat emrat_is.
    then_line IsAccepted ENDED (group (codes "1050") 1050) emrat.1 _ (λ w8 places places_is.
    then_line IsAccepted ENDED first_row places.1 _ (λ w9 starts starts_is.
    then_line IsAccepted ENDED (row_of (length starts.0)) starts.1 _ (λ w10 coefs coefs_is.
    then_line IsAccepted ENDED (columns_row ncoeff.0 block.0 starts.0 coefs.0) coefs.1 _ (λ w11 columns columns_is.
    then_line IsAccepted ENDED (group (codes "1070") 1070) columns.1 _ (λ w12 end end_is.
    let some = holds_ok (λ (ns : List ℕ). IsColumnCount (length ns)) (first_row w9) starts.0 starts_is (first_row_holds w9) in
    let more = holds_ok (λ ns. length ns ≡ length starts.0) (row_of (length starts.0) w10) coefs.0 coefs_is (row_holds (length starts.0) w10) in
    let days = holds_ok IsBlock (span w3) block.0 block_is (span_holds w3) in
    let met = holds_ok _ (columns_row ncoeff.0 block.0 starts.0 coefs.0 w11) columns.0 columns_is (columns_hold ncoeff.0 block.0 starts.0 coefs.0 w11 more) in (
      is_header ncoeff.0 block.0 emrat.0 columns.0 met.1 (holds_ok IsNcoeff (first_line w0) ncoeff.0 ncoeff_is (first_line_holds w0))
          days emrat_is (subst IsColumnCount (sym met.0) some),
      not_longer block.0 days,
    ))))))) count.0 place.0 place.1)))))))))

pub accepted_header : (lines : List FileLine) (h : Header) (rest : List FileLine) → header lines ≡ Ok (h, rest) → IsHeader h
accepted_header lines h rest is = (holds_ok IsAccepted (header lines) (h, rest) is (accepted lines)).0

pub accepted_length : (lines : List FileLine) (h : Header) (rest : List FileLine) → header lines ≡ Ok (h, rest) → h.block_seconds ≤ℤ LONGEST_BLOCK
accepted_length lines h rest is = (holds_ok IsAccepted (header lines) (h, rest) is (accepted lines)).1
