-- In a quiet span the function has one sign, at each time and over each node, so that no node turns; nor does a node of one
-- unit with a border in it, where the signs at its ends show no wanted turn.
use Rattle.std.proofs.Common.{◌≡◌, Bool, true, false, Option, None, Some, is_some, ℤ, ◌≤ℤ◌, refl, ap, ◌∙◌}
use Rattle.std.specs.Prelude.{if◌then◌else◌}
use Rattle.std.specs.List.{list_any}
use Rattle.std.proofs.lemmas.Bool.{false≢true}
use Rattle.spec_intervals.specs.declared.signs.Sign.{Sign}
use Rattle.spec_intervals.specs.declared.signs.Sign.TheVariants.{Yes, No, Open}
use Rattle.spec_intervals.specs.Interval.{Interval}
use Rattle.spec_intervals.specs.Signs.{sign_of}
use Rattle.spec_ephemeris.specs.Borders.{nearest_border}
use Rattle.spec_ephemeris.specs.Ephemeris.{IsNearestBorder}
use Rattle.spec_ephemeris.proofs.NearestBorders.{nearest_of_all}
use Rattle.spec_bodies.specs.Views.{Fits, columns_of}
use Rattle.spec_bodies.proofs.InUse.{present_in_use}
use Rattle.spec_trees.specs.declared.tree.Node.{Node}
use Rattle.spec_trees.specs.declared.tree.Verdict.{Verdict}
use Rattle.spec_trees.specs.declared.tree.Verdict.TheVariants.{Clear}
use Rattle.spec_trees.specs.Cuts.{is_wide}
use Rattle.spec_trees.specs.Tree.{IsValid}
use Rattle.spec_events.specs.Stages.{has_no_turn}
use Rattle.spec_events.specs.Verdict.{certifies, is_known, is_refuted}
use Rattle.spec_searches.specs.Found.{rules}
use Rattle.spec_searches.specs.Search.{Search, IsSearch, crosses, verdict_of}
use Rattle.spec_models.specs.Inclusion.{Includes}
use Rattle.spec_models.proofs.Inclusions.{holds_ordered}
use Rattle.spec_bounds.specs.Quiet.{IsQuiet, sign_over}
use Rattle.spec_bounds.specs.Steady.{sign_at}
use Rattle.spec_bounds.proofs.Rules.{enclosures_in_order}
use Rattle.spec_bounds.proofs.Signs.{certified_included}
use Rattle.spec_bounds.proofs.Staged.{found_at, stages_of}
use Rattle.spec_bounds.proofs.States.{part_fits, formula_included}
use Rattle.spec_bounds.proofs.StatesAtTime.{formula_at_time}

-- ---- signs
-- each of them certifies one sort of condition alone
yes_certifies : (sign : Sign) → certifies true sign ≡ true → sign ≡ Yes
yes_certifies Yes is = refl
yes_certifies No is = absurd (false≢true is)
yes_certifies Open is = absurd (false≢true is)

no_certifies : (sign : Sign) → certifies false sign ≡ true → sign ≡ No
no_certifies Yes is = absurd (false≢true is)
no_certifies No is = refl
no_certifies Open is = absurd (false≢true is)

-- what is included has the sign of what includes it, where that is known
pub sign_included : (y x : Interval) → x.lo ≤ℤ x.hi → Includes y x → is_known (sign_of y) ≡ true → sign_of x ≡ sign_of y
sign_included y x in_order includes known = by (sign_of y) refl known
  where
    by : (sign : Sign) → sign_of y ≡ sign → is_known sign ≡ true → sign_of x ≡ sign
    by Yes e is = yes_certifies (sign_of x) (certified_included true y x in_order includes (ap (certifies true) e))
    by No e is = no_certifies (sign_of x) (certified_included false y x in_order includes (ap (certifies false) e))
    by Open e is = absurd (false≢true is)

-- ---- times and nodes
-- no border lies in a node whose times fit
pub open_by_fit : (s : Search) (n : Node) → IsSearch s → Fits s.view n.a n.b → crosses s n ≡ false
open_by_fit s n is fits =
    by (nearest_border s.view.ephemeris (columns_of s.view) n.a n.b)
    (nearest_of_all s.view.ephemeris (columns_of s.view) n.a n.b is.view.checked (present_in_use s.view is.view))
  where
    by : (border : Option ℤ) → IsNearestBorder s.view.ephemeris (columns_of s.view) n.a n.b border → is_some border ≡ false
    by None nearest = refl
    by (Some t) nearest = absurd (fits.no_border t nearest.0)

module _ (s : Search) (a b : ℤ) (is : IsSearch s) (quiet : IsQuiet s a b) where
  pub sign_in_quiet : (t : ℤ) → a ≤ℤ t → t ≤ℤ b → sign_at s t ≡ sign_over s a b
  sign_in_quiet t after upto =
      let part = formula_at_time s.view a b t quiet.fits after upto s.event.function is.formulas.function.leaves in
      let in_order = holds_ordered _ part.value part.number part.held in
      ap sign_of part.single ∙ sign_included _ _ in_order part.mid quiet.known

  module _ (n : Node) (valid : IsValid (rules s) n) (after : a ≤ℤ n.a) (upto : n.b ≤ℤ b) where
    open_node : crosses s n ≡ false
    open_node = open_by_fit s n is (part_fits s.view n.a n.b a b quiet.fits after valid.inside upto)

    known : is_known (found_at s n).over ≡ true
    known =
        let part = formula_included s.view n.a n.b a b quiet.fits after valid.inside upto s.event.function is.formulas.function.leaves in
        let in_order = (enclosures_in_order n.a n.b valid.inside _ _ part.numbers part.enclosed).range in
        ap is_known (sign_included _ _ in_order part.included.range quiet.known) ∙ quiet.known

    pub clear_in_quiet : verdict_of s n ≡ Clear
    clear_in_quiet = stages_of s is n valid ∙ rw (open_node, known) refl

-- ---- nodes of one unit with a border in them
no_turn : (refuted none : Bool) (rest : Verdict) → none ≡ true → (if refuted then Clear else if none then Clear else rest) ≡ Clear
no_turn true none rest e = refl
no_turn false none rest e = rw e refl

pub clear_at_border : (s : Search) (n : Node) → IsSearch s → IsValid (rules s) n → crosses s n ≡ true → is_wide n ≡ false
    → has_no_turn s.event.dir (sign_at s n.a) (sign_at s n.b) ≡ true → verdict_of s n ≡ Clear
clear_at_border s n is valid border narrow none =
    stages_of s is n valid ∙ rw (border, narrow)
    (no_turn (list_any is_refuted (found_at s n).guards) (has_no_turn s.event.dir (sign_at s n.a) (sign_at s n.b)) _ none)
