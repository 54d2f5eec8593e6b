use Rattle.std.proofs.Common.{◌≡◌, ◌≤ℤ◌, IsTrue, List, ℕ, ℤ, Bool, true, false, not, Option, None, Some, is_some, sym, subst, to_z-of_z}
use Rattle.spec_ephemeris.specs.Ephemeris.{Ephemeris, IsEphemeris, IsBorderIn, IsNearestBorder, end_of}
use Rattle.spec_bodies.specs.Views.{View, IsView, HasColumns, Fits, columns_of}
use Rattle.spec_ephemeris.specs.Borders.{nearest_border}
use Rattle.spec_ephemeris.proofs.NearestBorders.{nearest_of_all}
use Rattle.spec_bodies.proofs.InUse.{present_in_use}
use Rattle.value_cases.proofs.scenes.is_free_of_borders.Goals as goal

not_both : (none : Bool) → true ≡ not none → none ≡ true → ⊥
not_both true is holds = cc
not_both false is holds = cc

-- without a border in them times can be asked for
fits_without : (v : View) (e : Ephemeris) (columns : List ℕ) (a b : ℤ) (border : Option ℤ)
    → v.ephemeris ≡ e → columns ≡ columns_of v → IsView v → e.start ≤ℤ a → a ≤ℤ b → b ≤ℤ end_of e
    → IsNearestBorder e columns a b border → (none : Bool) → is_some border ≡ not none → IsTrue none → Fits v a b
fits_without v e columns a b (Some t) same in_use view from order upto nearest none is holds = absurd (not_both none is holds)
fits_without v e columns a b None same in_use view from order upto nearest none is holds =
    let From : Ephemeris → Type 0 = λ x. x.start ≤ℤ a in
    let Upto : Ephemeris → Type 0 = λ x. b ≤ℤ end_of x in
    let Free : Ephemeris → Type 0 = λ x. (t : ℤ) → IsBorderIn x columns a b t → ⊥ in
    let Apart : List ℕ → Type 0 = λ xs. (t : ℤ) → IsBorderIn v.ephemeris xs a b t → ⊥ in
    record {
      view = view;
      ordered = order;
      from = subst From (sym same) from;
      upto = subst Upto (sym same) upto;
      no_border = subst Apart in_use (subst Free (sym same) nearest);
    }

-- the columns in use are those of this ephemeris
present : (v : View) (e : Ephemeris) (columns : List ℕ) → v.ephemeris ≡ e → columns ≡ columns_of v → IsView v → HasColumns e columns
present v e columns same in_use view =
    let Present : Ephemeris → Type 0 = λ x. HasColumns x columns in
    let There : List ℕ → Type 0 = λ xs. HasColumns v.ephemeris xs in
    subst Present same (subst There (sym in_use) (present_in_use v view))

pub border_near-requires-clause-present : goal.border_near-requires-clause-present
border_near-requires-clause-present c =
    present c.args.states.now c.args.ephemeris.now _ c.requires.ephemeris c.columns-columns.ensures.in_use c.columns-columns.ensures.view

pub returns-else-a-b : goal.returns-else-a-b
returns-else-a-b c = λ none.
    let fits_a = c.ranges.a in
    let fits_b = c.ranges.b in
    let v : View = c.args.states.now in
    let e : Ephemeris = c.args.ephemeris.now in
    let columns : List ℕ = c.columns-columns.result.now in
    let view : IsView v = c.columns-columns.ensures.view in
    let checked : IsEphemeris e = subst IsEphemeris c.requires.ephemeris view.checked in
    let there : HasColumns e columns = present v e columns c.requires.ephemeris c.columns-columns.ensures.in_use view in
    let found : c.border_near.result ≡ nearest_border e columns c.args.a c.args.b = simp to_z-of_z at c.border_near.ensures in
    let nearest = subst (IsNearestBorder e columns c.args.a c.args.b) (sym found) (nearest_of_all e columns c.args.a c.args.b checked there) in
    fits_without v e columns _ _ _ c.requires.ephemeris c.columns-columns.ensures.in_use view
    c.requires.from c.requires.order c.requires.upto nearest _ c.is_none.ensures none
