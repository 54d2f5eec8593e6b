-- The borders of a grid are those of its column, and the nearest border of one column more.
use Rattle.std.proofs.Common.{◌≡◌, ℕ, ◌+◌, ◌<◌, IsTrue, List, [], ◌∷◌, ◌++◌, length, take, slice_index_or, Option, None, ℤ, ◌<ℤ◌, ◌≤ℤ◌, arith, inl, inr, sym, ◌∙◌}
use Rattle.std.proofs.lemmas.List.{take_more}
use Rattle.std.proofs.lemmas.List.Elements.{Contains-append_left, Contains-push, Contains-push_cases}
use Rattle.spec_ephemeris.specs.Header.{has_column}
use Rattle.spec_ephemeris.specs.Ephemeris.{Ephemeris, IsEphemeris, IsBorderIn, IsNearest, end_of}
use Rattle.spec_ephemeris.specs.Granules.{column_of}
use Rattle.spec_ephemeris.specs.Borders.{preferred, border_count}
use Rattle.eph_model.specs.declared.grid.Grid.{Grid}
use Rattle.eph_model.specs.Grids.{IsGridOf, IsGridBorder}
use Rattle.eph_model.specs.Short.{IsShort}
use Rattle.eph_model.proofs.BorderLemmas.{short_in_grid}
use Rattle.eph_model.proofs.GridLemmas.{starts_at, count_is, ends}
use Rattle.spec_ephemeris.proofs.Nearer.{nearest_of_two, same, IsCovered}
use Rattle.spec_ephemeris.proofs.NearestBorders.{IsAmong, IsColumnBorder, border_of, among, nearest_as}

module _ (e : Ephemeris) (number : ℕ) (g : Grid) (checked : IsEphemeris e) (there : IsTrue (has_column e.header number)) (is : IsGridOf e number g) where
  -- a border of the grid is one of the column
  of_column : (a b s : ℤ) → IsGridBorder g a b s → IsColumnBorder e number a b s
  of_column a b s border =
      let later = border.border.later in
      let inside = border.border.inside in
      border_of e number checked there a b s (record {
        index = border.index;
        later = later;
        within = omega (arith, inside, count_is e number g is);
        is = border.border.is ∙ starts_at e number g border.index is;
        after = border.border.after;
        upto = border.border.upto;
      })

  -- a border of the column is one of the grid
  of_grid : (a b s : ℤ) → IsColumnBorder e number a b s → IsGridBorder g a b s
  of_grid a b s border =
      let own : IsAmong e (column_of e number) a b (border_count e (column_of e number)) s = among e number checked there a b s border in
      let later = own.later in
      let within = own.within in
      record {
        index = own.index;
        border = record {
          later = later;
          inside = omega (arith, later, within, count_is e number g is);
          is = own.is ∙ sym (starts_at e number g own.index is);
          after = own.after;
          upto = own.upto;
        };
      }

  -- the nearest border of the grid is that of the column
  pub nearest_of_grid : (a b : ℤ) (o : Option ℤ) → IsNearest (IsGridBorder g a b) a b o → IsNearest (IsColumnBorder e number a b) a b o
  nearest_of_grid a b o = nearest_as (IsGridBorder g a b) (IsColumnBorder e number a b) a b o (of_column a b) (of_grid a b)

-- no column has no border
pub none_yet : (e : Ephemeris) (a b : ℤ) → IsNearest (IsBorderIn e [] a b) a b None
none_yet e a b = λ s border. let some = border.listed.1 in absurd (omega (arith, some))

-- a border of the columns with one more is one of those before, or of the last
one_of : (e : Ephemeris) (columns : List ℕ) (number : ℕ) (a b s : ℤ)
    → IsBorderIn e (columns ++ number ∷ []) a b s → IsCovered (IsBorderIn e columns a b) (IsColumnBorder e number a b) a b s
one_of e columns number a b s border = elim (Contains-push_cases columns number border.number border.listed) [
  | inl earlier ↦ inl (s, record { number = border.number; listed = earlier; border = border.border; after = border.after; upto = border.upto }, same a b s)
  | inr last ↦ inr (s, record { border = rw (← last) at border.border; after = border.after; upto = border.upto }, same a b s)
]

-- the nearest border of one column more
pub one_more : (e : Ephemeris) (columns : List ℕ) (i : ℕ) (a b : ℤ) (x y : Option ℤ) → i < length columns
    → IsNearest (IsBorderIn e (take i columns) a b) a b x → IsNearest (IsColumnBorder e (slice_index_or columns i 0) a b) a b y
    → IsNearest (IsBorderIn e (take (i + 1) columns) a b) a b (preferred a b x y)
one_more e columns i a b x y within one other =
    let number : ℕ = slice_index_or columns i 0 in
    let more : take (i + 1) columns ≡ take i columns ++ number ∷ [] = take_more columns i 0 within in
    rw more (nearest_of_two (IsBorderIn e (take i columns) a b) (IsColumnBorder e number a b) (IsBorderIn e (take i columns ++ number ∷ []) a b) a b x y one other
    (λ s border. record { number = border.number; listed = Contains-append_left (take i columns) (number ∷ []) border.number border.listed; border = border.border; after = border.after; upto = border.upto })
    (λ s border. record { number = number; listed = Contains-push (take i columns) number; border = border.border; after = border.after; upto = border.upto })
    (λ s border. one_of e (take i columns) number a b s border))

-- times in a span of the ephemeris are far from the ends of 64 bits
pub short : (P : ℤ → Type 0) (e : Ephemeris) (number : ℕ) (g : Grid) (a b : ℤ) (o : Option ℤ) → IsGridOf e number g
    → e.start ≤ℤ a → b ≤ℤ end_of e → ((s : ℤ) → P s → (a <ℤ s) × (s ≤ℤ b)) → IsNearest P a b o → IsShort a b o
short P e number g a b o is from upto = short_in_grid P g a b o (rw is.start from) (rw (← ends e number g is) upto)
