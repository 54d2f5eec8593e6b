-- Over times that fit, each column in use stays within one granule, and its enclosures hold its coordinates.
use Rattle.std.proofs.Common.{◌≡◌, ◌⊎◌, ℕ, ◌+◌, ◌*◌, ◌/◌, ◌%◌, ◌<◌, ◌≤◌, Bool, true, false, nat_eq, IsTrue, List, length, take, drop, refl, ap, ◌∙◌, arith, inl, inr, ℤ, pos, ◌+ℤ◌, ◌<ℤ◌, ◌≤ℤ◌, length-take-le, length-drop}
use Rattle.std.specs.Prelude.{if◌then◌else◌}
use Rattle.std.proofs.lemmas.Int.{ints}
use Rattle.std.proofs.lemmas.Nat.{mul-le, div_below, mod_below}
use Rattle.std.proofs.lemmas.Bool.{cases_lt, eqb-true}
use Rattle.std.proofs.lemmas.List.Elements.{All-take, All-drop}
use Rattle.spec_text.specs.declared.decimals.Decimal.{Decimal}
use Rattle.spec_ephemeris.specs.declared.header.Column.{Column}
use Rattle.spec_ephemeris.specs.declared.limits.TheConstants.{BODY_COLUMNS, NUTATIONS}
use Rattle.spec_ephemeris.specs.Header.{has_column, is_present, components}
use Rattle.spec_ephemeris.specs.Ephemeris.{Ephemeris, Granule, IsEphemeris, IsGranuleAt, IsBorder, IsBodyNumber, granule_end, end_of, axis_series}
use Rattle.spec_ephemeris.proofs.Granules.{one_granule, granules_end as end_by_granules}
use Rattle.spec_ephemeris.proofs.GranuleNumbers.{numbers_count, numbers_bounded}
use Rattle.spec_motions.specs.Enclosures.{IsSeries, IsSpanOf}
use Rattle.spec_ephemeris.specs.Granules.{column_of, granule_length, granule_index, granule_of_index, granule_at, series_at}
use Rattle.spec_ephemeris.proofs.GranuleAt.{IsIndex, shares, some_length, at_index, from_start, index_of_time, granule_of_time}
use Rattle.spec_ephemeris.proofs.ColumnRules.{is_column, some_granules}

some_coefficients : (c : Column) → IsTrue (is_present c) → 1 ≤ c.coefs
some_coefficients c present = grind (arith, present)

abbrev IsThree : ℕ → Type 0
IsThree n = n ≡ 3

-- every column of a body has three components
pub three_components : (number : ℕ) → number ≤ BODY_COLUMNS → components number ≡ 3
three_components number body = by (nat_eq number NUTATIONS) refl
  where
    by : (b : Bool) → nat_eq number NUTATIONS ≡ b → IsThree (if b then 2 else 3)
    by true is = absurd (omega (arith, body, eqb-true number NUTATIONS is))
    by false is = refl

-- the end of a granule before the end of all is a border
pub end_is_border : (e : Ephemeris) (number : ℕ) (index : ℕ) → IsEphemeris e → IsTrue (has_column e.header number)
    → index + 1 < e.blocks * (column_of e number).granules → IsBorder e number (granule_end (granule_of_index e number (column_of e number) index))
end_is_border e number index checked there below =
    let some : 0 < granule_length e (column_of e number) = some_length e number checked there in
    let more : (index + 1) * granule_length e (column_of e number) ≡ index * granule_length e (column_of e number) + granule_length e (column_of e number) = next index (granule_length e (column_of e number)) in
    record {
      granule = granule_of_index e number (column_of e number) (index + 1);
      is = at_index e number (index + 1) checked there below;
      begins = omega (arith, ints, more);
      later = omega (arith, ints, some);
    }
  where
    next : (i l : ℕ) → (i + 1) * l ≡ i * l + l
    next i l = omega arith

-- the span from a to b stays within the granule of a
module _ (e : Ephemeris) (number : ℕ) (checked : IsEphemeris e) (there : IsTrue (has_column e.header number)) (blocks : 0 < e.blocks)
    (a b : ℤ) (from : e.start ≤ℤ a) (ab : a ≤ℤ b) (upto : b ≤ℤ end_of e) (none : (t : ℤ) → IsBorder e number t → a <ℤ t → t ≤ℤ b → ⊥) where
  abbrev here : Granule
  here = granule_at e number a

  after_start : granule_end here ≡ end_of e ⊎ ((IsBorder e number (granule_end here)) × (a <ℤ granule_end here))
  after_start =
      let known = index_of_time e number a checked there blocks from (omega (arith, ints, ab, upto)) in
      let is = from_start e.start a from in
      let last = end_by_granules e (granule_length e (column_of e number)) (column_of e number).granules (shares e number checked there) in
      elim (cases_lt (granule_index e (column_of e number) a + 1) (e.blocks * (column_of e number).granules)) [
        | inl below ↦ inr (end_is_border e number (granule_index e (column_of e number) a) checked there below, inner e.start a _ _ _ _ is known below)
        | inr past ↦ inl (at_end e.start _ _ (granule_length e (column_of e number)) (end_of e) (omega (arith, past, known.inside)) last)
      ]
    where
      inner : (start a : ℤ) (n l count i : ℕ) → a ≡ start +ℤ pos n → IsIndex n l count i → i + 1 < count → a <ℤ ((start +ℤ pos (i * l)) +ℤ pos l)
      inner start a n l count i is known below = elim known.upto [
        | inl before ↦ omega (arith, ints, is, before)
        | inr last ↦ absurd (omega (arith, last.1, below))
      ]

      at_end : (start : ℤ) (i count l : ℕ) (last : ℤ) → i + 1 ≡ count → last ≡ start +ℤ pos (count * l) → (start +ℤ pos (i * l)) +ℤ pos l ≡ last
      at_end start i count l last is end = let more : (i + 1) * l ≡ i * l + l = next i l in let all : count * l ≡ i * l + l = rw (← is) more in omega (arith, ints, all, end)
        where
          next : (i l : ℕ) → (i + 1) * l ≡ i * l + l
          next i l = omega arith

  -- every time of the span is before its end, or the last time of all
  pub stays : (t : ℤ) → a ≤ℤ t → t ≤ℤ b → IsGranuleAt e number t here
  stays t at to =
      let own = granule_of_time e number a checked there blocks from (omega (arith, ints, ab, upto)) in
      let begins = own.from in
      record { granule = own.granule; from = omega (arith, ints, begins, at); upto = by after_start }
    where
      by : granule_end here ≡ end_of e ⊎ ((IsBorder e number (granule_end here)) × (a <ℤ granule_end here)) → (t <ℤ granule_end here) ⊎ ((t ≡ granule_end here) × (t ≡ end_of e))
      by (inl last) = at_last t b (granule_end here) (end_of e) to upto last
        where
          at_last : (t b g last : ℤ) → t ≤ℤ b → b ≤ℤ last → g ≡ last → (t <ℤ g) ⊎ ((t ≡ g) × (t ≡ last))
          at_last t b g last to upto is = elim (before_or_at t g (omega (arith, ints, to, upto, is))) [ inl before ↦ inl before | inr at ↦ inr (at, at ∙ is) ]
            where
              before_or_at : (t g : ℤ) → t ≤ℤ g → (t <ℤ g) ⊎ (t ≡ g)
              before_or_at t g within = grind (arith, ints)
      by (inr (border, after)) = elim (past_or_not (granule_end here) b) [ inl past ↦ inl (omega (arith, ints, to, past)) | inr within ↦ absurd (none (granule_end here) border after within) ]
        where
          past_or_not : (g b : ℤ) → (b <ℤ g) ⊎ (g ≤ℤ b)
          past_or_not g b = grind (arith, ints)

  stays_here : (t : ℤ) → a ≤ℤ t → t ≤ℤ b → granule_at e number t ≡ here
  stays_here t at to =
      one_granule e number t (granule_at e number t) here checked (granule_of_time e number t checked there blocks (omega (arith, ints, from, at)) (omega (arith, ints, to, upto))) (stays t at to)

  pub same_series : (axis : ℕ) (t : ℤ) → a ≤ℤ t → t ≤ℤ b → series_at e number axis t ≡ series_at e number axis a
  same_series axis t at to = ap (λ g. axis_series g (column_of e number).coefs axis) (stays_here t at to)

  pub span_of : (axis : ℕ) → IsSpanOf (series_at e number axis a) a b
  span_of axis =
      let first = stays a (omega (arith, ints)) ab in
      let last = stays b ab (omega (arith, ints)) in
      record { from = first.from; ordered = ab; to = by last.upto }
    where
      by : (b <ℤ granule_end here) ⊎ ((b ≡ granule_end here) × (b ≡ end_of e)) → b ≤ℤ granule_end here
      by (inl before) = omega (arith, ints, before)
      by (inr at) = omega (arith, ints, at.0)

  -- an axis of a body's column has a series
  pub series_of : (axis : ℕ) → axis < 3 → number ≤ BODY_COLUMNS → IsSeries (series_at e number axis a)
  series_of axis three body =
      let is = is_column e number there in
      let rules = checked.header.columns number (column_of e number) is in
      let known = index_of_time e number a checked there blocks from (omega (arith, ints, ab, upto)) in
      let some = some_granules (column_of e number) e.header number is in
      let of_ephemeris : granule_index e (column_of e number) a / (column_of e number).granules < e.blocks = div_below (granule_index e (column_of e number) a) (column_of e number).granules e.blocks some known.inside in
      let of_block : granule_index e (column_of e number) a % (column_of e number).granules < (column_of e number).granules = mod_below (granule_index e (column_of e number) a) (column_of e number).granules some in
      let count = numbers_count e number (column_of e number) _ _ checked is of_ephemeris of_block in
      let bounded = numbers_bounded e number (column_of e number) _ _ checked is of_ephemeris of_block body in
      let length_is = length_of_axis number (column_of e number).coefs axis here.coefs three body count in
      let present = is.present in
      let coefficients = rules.coefficients in
      record {
        long = some_length e number checked there;
        some = rw length_is (some_coefficients (column_of e number) present);
        few = rw length_is coefficients;
        bodies = All-take IsBodyNumber (column_of e number).coefs (drop (axis * (column_of e number).coefs) here.coefs) (All-drop IsBodyNumber (axis * (column_of e number).coefs) here.coefs bounded);
      }
    where
      length_of_axis : (number n axis : ℕ) (coefs : List Decimal) → axis < 3 → number ≤ BODY_COLUMNS → length coefs ≡ components number * n → length (take n (drop (axis * n) coefs)) ≡ n
      length_of_axis number n axis coefs three body count =
          let whole : length coefs ≡ 3 * n = rw (three_components number body) at count in
          let fits : (axis + 1) * n ≤ 3 * n = mul-le (axis + 1) n 3 n (omega (arith, three)) (omega arith) in
          length-take-le n (drop (axis * n) coefs) (rw (length-drop (axis * n) coefs) (omega (arith, whole, fits)))
