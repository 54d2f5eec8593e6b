-- The border of two blocks is a border of every column, and so a time at which a span can be cut.
use Rattle.std.proofs.Common.{◌≡◌, ℕ, ◌+◌, ◌*◌, ◌<◌, ◌≤◌, ◌⊎◌, inl, inr, IsTrue, ℤ, pos, ◌+ℤ◌, ◌-ℤ◌, ◌*ℤ◌, ◌≤ℤ◌, ◌<ℤ◌, sym, ap, ◌∙◌, subst, arith}
use Rattle.std.specs.Prelude.{Contains}
use Rattle.std.proofs.lemmas.Int.{ints}
use Rattle.std.proofs.lemmas.Nat.{mul-le}
use Rattle.spec_numbers.proofs.Naturals.{row_fits}
use Rattle.spec_ephemeris.specs.declared.header.Column.{Column}
use Rattle.spec_ephemeris.specs.Header.{has_column}
use Rattle.spec_ephemeris.specs.Ephemeris.{Ephemeris, IsBorder, IsEphemeris}
use Rattle.spec_ephemeris.specs.Granules.{column_of, granule_length}
use Rattle.spec_ephemeris.proofs.ColumnRules.{is_column, some_granules}
use Rattle.spec_ephemeris.proofs.GranuleAt.{shares}
use Rattle.spec_ephemeris.proofs.NearestBorders.{border_of}
use Rattle.spec_bodies.specs.Views.{columns_of}
use Rattle.spec_bodies.proofs.InUse.{present_in_use}
use Rattle.spec_searches.specs.Search.{IsSearch, Search}
use Rattle.spec_spans.specs.Seams.{IsBlockBorder, IsSeam}

product : (block l g : ℕ) → pos block *ℤ pos (l * g) ≡ pos ((block * g) * l)
product block l g = ap pos (grind arith)

module _ (e : Ephemeris) (number : ℕ) (checked : IsEphemeris e) (there : IsTrue (has_column e.header number)) where
  pub border_of_column : (time : ℤ) → IsBlockBorder e time → IsBorder e number time
  border_of_column time is =
      let c : Column = column_of e number in
      let some : 0 < c.granules = some_granules c e.header number (is_column e number there) in
      let later : 1 * 1 ≤ is.block * c.granules = mul-le 1 1 is.block c.granules is.later some in
      let fits : is.block * c.granules + c.granules ≤ e.blocks * c.granules = row_fits is.block e.blocks c.granules is.within in
      let at : time ≡ e.start +ℤ pos ((is.block * c.granules) * granule_length e c) =
      sym is.begins ∙ ap (λ d. e.start +ℤ (pos is.block *ℤ d)) (shares e number checked there) ∙ ap (λ d. e.start +ℤ d) (product is.block (granule_length e c) c.granules) in
      (border_of e number checked there (time -ℤ pos 1) time time (record {
        index = is.block * c.granules;
        later = omega (arith, later);
        within = omega (arith, fits, some);
        is = at;
        after = omega (arith, ints);
        upto = omega (arith, ints);
      })).border

module _ (s : Search) (is : IsSearch s) where
  listed_there : (number : ℕ) → Contains (columns_of s.view) number → IsTrue (has_column s.view.ephemeris.header number)
  listed_there number (k, below, at) = subst (λ (n : ℕ). IsTrue (has_column s.view.ephemeris.header n)) at (present_in_use s.view is.view k number below)

  pub seam_of_block : (number : ℕ) (first last border time : ℤ) → Contains (columns_of s.view) number → IsBlockBorder s.view.ephemeris border
      → (time ≡ border) ⊎ (time +ℤ pos 1 ≡ border) → first <ℤ time → time <ℤ last → IsSeam s first last time
  seam_of_block number first last border time listed is_border near after before = record {
    border = border;
    inside = record {
      number = number;
      listed = listed;
      border = border_of_column s.view.ephemeris number is.view.checked (listed_there number listed) border is_border;
      after = from near;
      upto = upto near;
    };
    near = near;
    after = after;
    before = before;
  }
    where
      from : (time ≡ border) ⊎ (time +ℤ pos 1 ≡ border) → first <ℤ border
      from (inl at) = omega (arith, ints, at, after)
      from (inr next) = omega (arith, ints, next, after)

      upto : (time ≡ border) ⊎ (time +ℤ pos 1 ≡ border) → border ≤ℤ last
      upto (inl at) = omega (arith, ints, at, before)
      upto (inr next) = omega (arith, ints, next, before)
