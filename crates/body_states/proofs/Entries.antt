-- What is entered of the columns in use.
use Rattle.std.proofs.Common.{◌≡◌, ◌∙◌, ℕ, zero, suc, ◌+◌, ◌*◌, ◌<◌, ◌≤◌, ◌⊎◌, inl, inr, true, false, IfSome, List, length, slice_index_or, slice_set, arith, refl, sym, subst, ap, take, min, Bool}
use Rattle.std.specs.Prelude.{Any, Contains, IsSome}
use Rattle.std.proofs.lemmas.Bool.{cases_lt}
use Rattle.std.proofs.lemmas.List.{get_or-set_same, get_or-set_other, get_or-take, get_or_default, length-take}
use Rattle.spec_intervals.specs.Enclosure.{Enclosure}
use Rattle.spec_bodies.specs.Views.{columns_of}
use Rattle.event_expr.specs.declared.axes.Axes.{Axes}
use Rattle.event_expr.specs.Leaves.{has_axis}
use Rattle.granule_values.specs.declared.axis_entries.AxisEntries.{AxisEntries}
use Rattle.granule_values.specs.Parts.{entry_at, if_wanted, wanted_along}
use Rattle.body_states.specs.declared.column_entries.ColumnEntry.{ColumnEntry}
use Rattle.body_states.specs.declared.sources.TheConstants.{KEPT_COLUMNS}
use Rattle.body_states.specs.Ranges.{Asked, AreEntries, IsEntryAt, column_parts, entry_of, kept_columns, nothing_entered, turn_of}

-- ---- along the wanted axes
pub same_wanted : (axes : Axes) (f g : ℕ → Enclosure) → ((axis : ℕ) → axis < 3 → f axis ≡ g axis) → wanted_along axes f ≡ wanted_along axes g
same_wanted axes f g same = λ i. record {
  x = if_wanted axes.x (same 0 (omega arith) i);
  y = if_wanted axes.y (same 1 (omega arith) i);
  z = if_wanted axes.z (same 2 (omega arith) i);
}

right_if : (wanted : Bool) (parts : Enclosure) → IfSome (if_wanted wanted parts) (λ r. r ≡ parts)
right_if true parts = refl
right_if false parts = tt

right_at : (axes : Axes) (f : ℕ → Enclosure) (axis : ℕ) → axis < 3 → IfSome (entry_at (wanted_along axes f) axis) (λ r. r ≡ f axis)
right_at axes f zero three = right_if axes.x (f 0)
right_at axes f (suc zero) three = right_if axes.y (f 1)
right_at axes f (suc (suc zero)) three = right_if axes.z (f 2)
right_at axes f (suc (suc (suc axis))) three = absurd (omega (arith, three))

made_if : (wanted : Bool) (parts : Enclosure) → wanted ≡ true → IsSome (if_wanted wanted parts)
made_if wanted parts is = rw is refl

made_at : (axes : Axes) (f : ℕ → Enclosure) (axis : ℕ) → has_axis axes axis ≡ true → IsSome (entry_at (wanted_along axes f) axis)
made_at axes f zero has = made_if axes.x (f 0) has
made_at axes f (suc zero) has = made_if axes.y (f 1) has
made_at axes f (suc (suc axis)) has = made_if axes.z (f 2) has

-- ---- the columns that are written before a turn
abbrev pub WrittenBefore : Bool → Asked → ℕ → List ℕ → ℕ → List ColumnEntry → Type 0
WrittenBefore centred q count entries turn columns = (place : ℕ) → place < count → turn_of count (slice_index_or entries place 0) place < turn → IsEntryAt centred q columns place

pub turn_below : (count entries place : ℕ) → place < count → turn_of count entries place < 2 * count
turn_below count zero place below = omega (arith, below)
turn_below count (suc entries) place below = omega (arith, below)

-- a turn is that of one place
same_place : (count entries place turn own : ℕ) → place < count → turn_of count entries place ≡ turn → (turn < count → own ≡ turn) → (count ≤ turn → count + own ≡ turn) → place ≡ own
same_place count zero place turn own below is first second = let same = second (omega (arith, is)) in omega (arith, is, same)
same_place count (suc entries) place turn own below is first second = let same = first (omega (arith, is, below)) in omega (arith, is, same)

module _ (centred : Bool) (q : Asked) (count : ℕ) (entries : List ℕ) (turn own : ℕ) (first : turn < count → own ≡ turn) (second : count ≤ turn → count + own ≡ turn) (columns : List ColumnEntry) (before : WrittenBefore centred q count entries turn columns) where
  earlier : (place : ℕ) → place < count → turn_of count (slice_index_or entries place 0) place < turn + 1 → (place ≡ own → ⊥) → IsEntryAt centred q columns place
  earlier place below less apart = by (cases_lt (turn_of count (slice_index_or entries place 0) place) turn)
    where
      by : (turn_of count (slice_index_or entries place 0) place < turn) ⊎ (turn ≤ turn_of count (slice_index_or entries place 0) place) → IsEntryAt centred q columns place
      by (inl sooner) = before place below sooner
      by (inr now) = absurd (apart (same_place count (slice_index_or entries place 0) place turn own below (omega (arith, less, now)) first second))

  pub written_with : (c : ColumnEntry) → own < length columns → c ≡ entry_of centred q (slice_index_or (columns_of q.view) own 0) → WrittenBefore centred q count entries (turn + 1) (slice_set columns own c)
  written_with c inside is place below less = by (cases_lt place own) (cases_lt own place)
    where
      other : (place ≡ own → ⊥) → IsEntryAt centred q (slice_set columns own c) place
      other apart = get_or-set_other columns own place c nothing_entered apart ∙ earlier place below less apart

      by : (place < own) ⊎ (own ≤ place) → (own < place) ⊎ (place ≤ own) → IsEntryAt centred q (slice_set columns own c) place
      by (inl sooner) d = other (λ same. omega (arith, sooner, same))
      by (inr from) (inl later) = other (λ same. omega (arith, later, same))
      by (inr from) (inr upto) =
          let same : own ≡ place = omega (arith, from, upto) in
          subst (IsEntryAt centred q (slice_set columns own c)) same (get_or-set_same columns own c nothing_entered inside ∙ is)

  pub written_without : (turn_of count (slice_index_or entries own 0) own ≡ turn → ⊥) → WrittenBefore centred q count entries (turn + 1) columns
  written_without not place below less = by (cases_lt (turn_of count (slice_index_or entries place 0) place) turn)
    where
      by : (turn_of count (slice_index_or entries place 0) place < turn) ⊎ (turn ≤ turn_of count (slice_index_or entries place 0) place) → IsEntryAt centred q columns place
      by (inl sooner) = before place below sooner
      by (inr now) =
          let is : turn_of count (slice_index_or entries place 0) place ≡ turn = omega (arith, less, now) in
          absurd (not (subst (λ (k : ℕ). turn_of count (slice_index_or entries k 0) k ≡ turn) (same_place count (slice_index_or entries place 0) place turn own below is first second) is))

-- ---- the columns that are written one after the other
abbrev pub EnteredBefore : Bool → Asked → ℕ → List ColumnEntry → Type 0
EnteredBefore centred q count columns = (place : ℕ) → place < count → IsEntryAt centred q columns place

pub entered_next : (centred : Bool) (q : Asked) (columns : List ColumnEntry) (own : ℕ) (c : ColumnEntry) → own < length columns → EnteredBefore centred q own columns
    → c ≡ entry_of centred q (slice_index_or (columns_of q.view) own 0) → EnteredBefore centred q (own + 1) (slice_set columns own c)
entered_next centred q columns own c inside before is place less = by (cases_lt place own)
  where
    by : (place < own) ⊎ (own ≤ place) → IsEntryAt centred q (slice_set columns own c) place
    by (inl sooner) = get_or-set_other columns own place c nothing_entered (λ same. omega (arith, sooner, same)) ∙ before place sooner
    by (inr from) =
        let same : own ≡ place = omega (arith, less, from) in
        subst (IsEntryAt centred q (slice_set columns own c)) same (get_or-set_same columns own c nothing_entered inside ∙ is)

-- ---- what is found of a column among the first
abbrev pub AreFirst : Bool → Asked → List ColumnEntry → ℕ → Type 0
AreFirst centred q entries n = (n ≡ min (length (columns_of q.view)) KEPT_COLUMNS) × (length entries ≡ KEPT_COLUMNS) × AreEntries centred q entries

module _ (centred : Bool) (q : Asked) (entries : List ColumnEntry) (n : ℕ) (first : AreFirst centred q entries n) where
  is_entry : (place : ℕ) → place < n → IsEntryAt centred q entries place
  is_entry place less = let count = first.0 in first.2 place (omega (arith, less, count)) (omega (arith, less, count))

  along_is : (number : ℕ) (along : AxisEntries) → Contains (take n entries) (record { number = number; along = along }) → along ≡ wanted_along q.axes (column_parts centred q number)
  along_is number along there = ap (λ (e : ColumnEntry). e.along) is ∙ λ i. wanted_along q.axes (column_parts centred q (sym (ap (λ (e : ColumnEntry). e.number) is) i))
    where
      own : ColumnEntry
      own = record { number = number; along = along }

      below : there.0 < n
      below = let long = length-take n entries in let inside = there.1 in omega (arith, long, inside)

      listed : there.0 < length entries
      listed = let long = length-take n entries in let inside = there.1 in omega (arith, long, inside)

      is : own ≡ entry_of centred q (slice_index_or (columns_of q.view) there.0 0)
      is = sym there.2 ∙ get_or-take n entries there.0 own below ∙ get_or_default entries there.0 own nothing_entered listed ∙ is_entry there.0 below

  pub right_of : (number axis : ℕ) (along : AxisEntries) → axis < 3 → Contains (take n entries) (record { number = number; along = along }) → IfSome (entry_at along axis) (λ r. r ≡ column_parts centred q number axis)
  right_of number axis along three there = rw (along_is number along there) (right_at q.axes (column_parts centred q number) axis three)

  pub made_of : (number axis : ℕ) (along : AxisEntries) → has_axis q.axes axis ≡ true → Contains (take n entries) (record { number = number; along = along }) → IsSome (entry_at along axis)
  made_of number axis along has there = rw (along_is number along there) (made_at q.axes (column_parts centred q number) axis has)

  pub any_entered : (number : ℕ) → Contains (kept_columns q.view) number → Any (λ (e : ColumnEntry). e.number ≡ number) (take n entries)
  any_entered number there = (there.0, entry_of centred q (slice_index_or (columns_of q.view) there.0 0), inside, is, same)
    where
      kept : there.0 < KEPT_COLUMNS
      kept = let long = length-take KEPT_COLUMNS (columns_of q.view) in let less = there.1 in omega (arith, long, less)

      listed : there.0 < length (columns_of q.view)
      listed = let long = length-take KEPT_COLUMNS (columns_of q.view) in let less = there.1 in omega (arith, long, less)

      below : there.0 < n
      below = let count = first.0 in omega (arith, count, kept, listed)

      long : there.0 < length entries
      long = let count = first.1 in omega (arith, count, kept)

      inside : there.0 < length (take n entries)
      inside = let taken = length-take n entries in omega (arith, taken, below, long)

      is : slice_index_or (take n entries) there.0 (entry_of centred q (slice_index_or (columns_of q.view) there.0 0)) ≡ entry_of centred q (slice_index_or (columns_of q.view) there.0 0)
      is = get_or-take n entries there.0 _ below ∙ get_or_default entries there.0 _ nothing_entered long ∙ is_entry there.0 below

      same : slice_index_or (columns_of q.view) there.0 0 ≡ number
      same = get_or_default (columns_of q.view) there.0 0 number listed ∙ sym (get_or-take KEPT_COLUMNS (columns_of q.view) there.0 number kept) ∙ there.2
