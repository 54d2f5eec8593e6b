-- The nearest border of columns, as the function gives it, is the nearest of all their borders.
use Rattle.std.proofs.Common.{◌≡◌, ◌⊎◌, ℕ, zero, suc, ◌+◌, ◌*◌, ◌<◌, ◌≤◌, Bool, true, false, ◌&&◌, if◌then◌else◌, IsTrue, List, [], ◌∷◌, Option, Some, None, ℤ, pos, ◌+ℤ◌, ◌<ℤ◌, ◌≤ℤ◌, int_lt, int_le, refl, arith, inl, inr, ap, sym, ◌∙◌}
use Rattle.std.specs.Prelude.{All, Contains}
use Rattle.std.proofs.lemmas.Int.{ints}
use Rattle.std.proofs.lemmas.Nat.{mul-le}
use Rattle.std.proofs.lemmas.Bool.{cases_lt}
use Rattle.std.proofs.Math.Nat.{eq_of_mul-eq-mul_right}
use Rattle.spec_numbers.proofs.Naturals.{row_fits}
use Rattle.spec_ephemeris.specs.declared.header.Column.{Column}
use Rattle.spec_ephemeris.specs.Header.{IsColumn, has_column}
use Rattle.spec_ephemeris.specs.Ephemeris.{Ephemeris, IsEphemeris, Granule, IsGranule, IsBorder, IsBorderIn, IsNearest, IsNearestBorder}
use Rattle.spec_ephemeris.specs.Granules.{column_of, granule_length, granule_of_index}
use Rattle.spec_ephemeris.specs.Borders.{time_in, granule_start, nearest_of, border_count, nearest_of_column, nearest_border}
use Rattle.spec_ephemeris.proofs.ColumnRules.{one_column, is_column, some_granules}
use Rattle.spec_ephemeris.proofs.GranuleAt.{shares, some_length, at_index}
use Rattle.spec_ephemeris.proofs.Nearer.{nearest_of_two, same}

-- ---- one time
-- s is this time and lies in (a, b]
pub record IsTimeIn (a b t s : ℤ) : Type 0 where
  pub is : s ≡ t
  pub after : a <ℤ s
  pub upto : s ≤ℤ b

inside : (a b t : ℤ) → (int_lt a t && int_le t b) ≡ true → (a <ℤ t) × (t ≤ℤ b)
inside a b t holds = grind (arith, ints, holds)

outside : (a b t : ℤ) → (int_lt a t && int_le t b) ≡ false → a <ℤ t → t ≤ℤ b → ⊥
outside a b t fails after upto = grind (arith, ints, fails, after, upto)

time_if : (a b t : ℤ) (test : Bool) → (int_lt a t && int_le t b) ≡ test → IsNearest (IsTimeIn a b t) a b (if test then Some t else None)
time_if a b t true holds = (
  record { is = refl; after = (inside a b t holds).0; upto = (inside a b t holds).1 },
  λ s is. rw is.is (same a b t),
)
time_if a b t false fails = λ s is. outside a b t fails (rw is.is at is.after) (rw is.is at is.upto)

one_time : (a b t : ℤ) → IsNearest (IsTimeIn a b t) a b (time_in a b t)
one_time a b t = time_if a b t (int_lt a t && int_le t b) refl

-- ---- the first borders of a column
-- s is the start of one of the granules from the second on, so many, and lies in (a, b]
pub record IsAmong (e : Ephemeris) (c : Column) (a b : ℤ) (count : ℕ) (s : ℤ) : Type 0 where
  pub index : ℕ
  pub later : 0 < index
  pub within : index ≤ count
  pub is : s ≡ granule_start e c index
  pub after : a <ℤ s
  pub upto : s ≤ℤ b

last_or_before : (e : Ephemeris) (c : Column) (a b : ℤ) (count : ℕ) (s : ℤ) → IsAmong e c a b (suc count) s
    → (IsAmong e c a b count s) ⊎ (IsTimeIn a b (granule_start e c (suc count)) s)
last_or_before e c a b count s is = elim (cases_lt count is.index) [
  | inr before ↦ inl (record { index = is.index; later = is.later; within = before; is = is.is; after = is.after; upto = is.upto })
  | inl last ↦ (let index : is.index ≡ suc count = omega (arith, last, is.within) in
      inr (record { is = is.is ∙ ap (granule_start e c) index; after = is.after; upto = is.upto }))
]

nearest_among : (e : Ephemeris) (c : Column) (a b : ℤ) (count : ℕ) → IsNearest (IsAmong e c a b count) a b (nearest_of e c a b count)
nearest_among e c a b zero = λ s is. let later = is.later in let within = is.within in absurd (omega (arith, later, within))
nearest_among e c a b (suc count) =
    nearest_of_two (IsAmong e c a b count) (IsTimeIn a b (granule_start e c (suc count))) (IsAmong e c a b (suc count)) a b _ _
    (nearest_among e c a b count) (one_time a b (granule_start e c (suc count)))
    (λ s is. record { index = is.index; later = is.later; within = omega (arith, is.within); is = is.is; after = is.after; upto = is.upto })
    (λ s is. record { index = suc count; later = omega arith; within = omega arith; is = is.is; after = is.after; upto = is.upto })
    (λ s is. elim (last_or_before e c a b count s is) [
      | inl before ↦ inl (s, before, same a b s)
      | inr last ↦ inr (s, last, same a b s)
    ])

-- ---- the borders of a column
-- s is a border of the column in (a, b]
pub record IsColumnBorder (e : Ephemeris) (number : ℕ) (a b s : ℤ) : Type 0 where
  pub border : IsBorder e number s
  pub after : a <ℤ s
  pub upto : s ≤ℤ b

-- where all that holds of one holds of the other, they have one nearest
pub nearest_as : (P Q : ℤ → Type 0) (a b : ℤ) (o : Option ℤ) → ((s : ℤ) → P s → Q s) → ((s : ℤ) → Q s → P s) → IsNearest P a b o → IsNearest Q a b o
nearest_as P Q a b None there back nearest = λ s is. nearest s (back s is)
nearest_as P Q a b (Some t) there back nearest = (there t nearest.0, λ s is. nearest.1 s (back s is))

module _ (e : Ephemeris) (number : ℕ) (checked : IsEphemeris e) (there : IsTrue (has_column e.header number)) where
  pub border_of : (a b s : ℤ) → IsAmong e (column_of e number) a b (border_count e (column_of e number)) s → IsColumnBorder e number a b s
  border_of a b s is =
      let l : ℕ = granule_length e (column_of e number) in
      let past : 1 * 1 ≤ is.index * l = mul-le 1 1 is.index l is.later (some_length e number checked there) in
      let at = is.is in
      let later = is.later in
      let within = is.within in
      record {
        border = record {
          granule = granule_of_index e number (column_of e number) is.index;
          is = at_index e number is.index checked there (omega (arith, later, within));
          begins = sym at;
          later = omega (arith, ints, past, at);
        };
        after = is.after;
        upto = is.upto;
      }

  length_of : (g : Granule) → IsGranule e number g → g.duration ≡ granule_length e (column_of e number)
  length_of g granule =
      let c : Column = column_of e number in
      let is : IsColumn e.header number c = is_column e number there in
      let one : granule.column ≡ c = one_column e.header number granule.column c granule.is is in
      let own : e.header.block_seconds ≡ pos (g.duration * c.granules) = rw one at granule.shares in
      let both : pos (g.duration * c.granules) ≡ pos (granule_length e c * c.granules) = sym own ∙ shares e number checked there in
      let products : g.duration * c.granules ≡ granule_length e c * c.granules = omega (arith, ints, both) in
      eq_of_mul-eq-mul_right c.granules (some_granules c e.header number is) g.duration (granule_length e c) products

  not_first : (index l : ℕ) (start s : ℤ) → s ≡ start +ℤ pos (index * l) → start <ℤ s → 0 < index
  not_first index l start s is later = elim (cases_lt 0 index) [
    | inl some ↦ some
    | inr none ↦ (let nothing : index * l ≤ 0 * l = mul-le index l 0 l none (omega arith) in absurd (omega (arith, ints, nothing, is, later)))
  ]

  pub among : (a b s : ℤ) → IsColumnBorder e number a b s → IsAmong e (column_of e number) a b (border_count e (column_of e number)) s
  among a b s is =
      let c : Column = column_of e number in
      let granule : IsGranule e number is.border.granule = is.border.is in
      let one : granule.column ≡ c = one_column e.header number granule.column c granule.is (is_column e number there) in
      let index : ℕ = granule.block * c.granules + granule.inner in
      let duration : is.border.granule.duration ≡ granule_length e c = length_of is.border.granule granule in
      let starts : is.border.granule.start ≡ e.start +ℤ pos (index * granule_length e c) = rw (one, duration) at granule.start in
      let at : s ≡ e.start +ℤ pos (index * granule_length e c) = sym is.border.begins ∙ starts in
      let fits : granule.block * c.granules + c.granules ≤ e.blocks * c.granules = row_fits granule.block e.blocks c.granules granule.of_ephemeris in
      let inner : granule.inner < c.granules = rw one at granule.of_block in
      record {
        index = index;
        later = not_first index (granule_length e c) e.start s at is.border.later;
        within = omega (arith, fits, inner);
        is = at;
        after = is.after;
        upto = is.upto;
      }

  nearest_of_one : (a b : ℤ) → IsNearest (IsColumnBorder e number a b) a b (nearest_of_column e number a b)
  unfolding nearest_of_column
  nearest_of_one a b =
      nearest_as (IsAmong e (column_of e number) a b (border_count e (column_of e number))) (IsColumnBorder e number a b) a b _
      (border_of a b) (among a b) (nearest_among e (column_of e number) a b (border_count e (column_of e number)))

-- ---- the borders of columns
first_listed : (x : ℕ) (xs : List ℕ) → Contains (x ∷ xs) x
first_listed x xs = (0, omega arith, refl)

listed_later : (x y : ℕ) (xs : List ℕ) → Contains xs y → Contains (x ∷ xs) y
listed_later x y xs there = (suc there.0, omega (arith, there.1), there.2)

first_or_later : (x y : ℕ) (xs : List ℕ) → Contains (x ∷ xs) y → (x ≡ y) ⊎ Contains xs y
first_or_later x y xs (zero, below, is) = inl is
first_or_later x y xs (suc k, below, is) = inr (k, omega (arith, below), is)

pub nearest_of_all : (e : Ephemeris) (numbers : List ℕ) (a b : ℤ) → IsEphemeris e → All (λ number. IsTrue (has_column e.header number)) numbers
    → IsNearestBorder e numbers a b (nearest_border e numbers a b)
unfolding nearest_border
nearest_of_all e [] a b checked there = λ s border. let none = border.listed.1 in absurd (omega (arith, none))
nearest_of_all e (number ∷ numbers) a b checked there =
    let rest : All (λ number. IsTrue (has_column e.header number)) numbers = λ k d below. there (suc k) d (omega (arith, below)) in
    nearest_of_two (IsColumnBorder e number a b) (IsBorderIn e numbers a b) (IsBorderIn e (number ∷ numbers) a b) a b _ _
    (nearest_of_one e number checked (there 0 0 (omega arith)) a b) (nearest_of_all e numbers a b checked rest)
    (λ s is. record { number = number; listed = first_listed number numbers; border = is.border; after = is.after; upto = is.upto })
    (λ s is. record { number = is.number; listed = listed_later number is.number numbers is.listed; border = is.border; after = is.after; upto = is.upto })
    (λ s is. elim (first_or_later number is.number numbers is.listed) [
      | inl own ↦ inl (s, record { border = rw (sym own) at is.border; after = is.after; upto = is.upto }, same a b s)
      | inr later ↦ inr (s, record { number = is.number; listed = later; border = is.border; after = is.after; upto = is.upto }, same a b s)
    ])
