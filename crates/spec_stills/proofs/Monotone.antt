-- A span in which the function is monotone and has one sign at each time is still for nodes of any width.
use Rattle.std.proofs.Common.{◌≡◌, Bool, true, false, ℤ, ◌≤ℤ◌, ◌∙◌, refl, arith}
use Rattle.std.specs.Prelude.{if◌then◌else◌}
use Rattle.std.specs.List.{list_any}
use Rattle.std.proofs.lemmas.Int.{ints}
use Rattle.spec_ephemeris.specs.Ephemeris.{IsBorderIn}
use Rattle.spec_bodies.specs.Views.{columns_of, state_enclosure}
use Rattle.spec_trees.specs.declared.tree.Node.{Node}
use Rattle.spec_trees.specs.declared.tree.Verdict.{Verdict}
use Rattle.spec_trees.specs.declared.tree.Verdict.TheVariants.{Clear}
use Rattle.spec_trees.specs.Cuts.{is_wide}
use Rattle.spec_trees.specs.Tree.{IsValid}
use Rattle.spec_events.specs.Stages.{has_no_turn, is_turnless}
use Rattle.spec_events.specs.Verdict.{is_known, is_one_way, is_refuted}
use Rattle.spec_searches.specs.Found.{rules}
use Rattle.spec_searches.specs.Search.{IsSearch, Search, crosses, enclosure_over, verdict_of}
use Rattle.spec_bounds.specs.Steady.{sign_at}
use Rattle.spec_bounds.specs.Terms.{bound_over}
use Rattle.spec_bounds.proofs.Quiet.{open_by_fit}
use Rattle.spec_bounds.proofs.Signs.{one_way_included}
use Rattle.spec_bounds.proofs.Staged.{found_at, stages_of}
use Rattle.spec_bounds.proofs.States.{formula_included, part_fits}
use Rattle.spec_stills.specs.declared.still.StillSpan.{StillSpan}
use Rattle.spec_stills.specs.Still.{IsStill}
use Rattle.spec_stills.specs.Margins.{IsMonotone}
use Rattle.spec_stills.proofs.Units.{no_turn_between}

-- the stages over plain tests, where the steps lead one way and the ends show no turn
clear_by_ends : (turnless wide refuted one_way none : Bool) (rest later limit : Verdict) → one_way ≡ true → none ≡ true
    → (if turnless then Clear
    else if wide then (if refuted then Clear else if one_way then (if none then Clear else rest) else limit)
    else if refuted then Clear
    else if none then Clear
    else later) ≡ Clear
clear_by_ends true wide refuted one_way none rest later limit e f = refl
clear_by_ends false true true one_way none rest later limit e f = refl
clear_by_ends false true false one_way none rest later limit e f = rw (e, f) refl
clear_by_ends false false true one_way none rest later limit e f = refl
clear_by_ends false false false one_way none rest later limit e f = rw f refl

module _ (s : Search) (x : StillSpan) (c d : ℤ) (is : IsSearch s) (monotone : IsMonotone s c d) (begins : c ≤ℤ x.from) (ends : x.upto ≤ℤ d)
    (known : is_known x.sign ≡ true) (signs : (t : ℤ) → x.from ≤ℤ t → t ≤ℤ x.upto → sign_at s t ≡ x.sign) where
  none_begins : (t : ℤ) → IsBorderIn s.view.ephemeris (columns_of s.view) x.from x.upto t → ⊥
  none_begins t border = monotone.fits.no_border t (record {
    number = border.number;
    listed = border.listed;
    border = border.border;
    after = let after = border.after in omega (arith, ints, begins, after);
    upto = let upto = border.upto in omega (arith, ints, ends, upto);
  })

  module _ (n : Node) (valid : IsValid (rules s) n) (after : x.from ≤ℤ n.a) (upto : n.b ≤ℤ x.upto) where
    wide_after : c ≤ℤ n.a
    wide_after = omega (arith, ints, begins, after)

    wide_upto : n.b ≤ℤ d
    wide_upto = omega (arith, ints, ends, upto)

    open_node : crosses s n ≡ false
    open_node = open_by_fit s n is (part_fits s.view n.a n.b c d monotone.fits wide_after valid.inside wide_upto)

    one_way : is_one_way (found_at s n).step ≡ true
    one_way =
        let part = formula_included s.view n.a n.b c d monotone.fits wide_after valid.inside wide_upto s.event.function is.formulas.function.leaves in
        one_way_included (bound_over s.view s.event.function c d).step (enclosure_over (state_enclosure s.view) s.event.function n.a n.b).step
        part.included.step monotone.one_way

    none : has_no_turn s.event.dir (sign_at s n.a) (sign_at s n.b) ≡ true
    none =
        let inside = valid.inside in
        rw (signs n.a after (omega (arith, ints, inside, upto)), signs n.b (omega (arith, ints, inside, after)) upto)
        (no_turn_between s.event.dir x.sign known)

    clear : verdict_of s n ≡ Clear
    clear =
        stages_of s is n valid ∙ rw open_node
        (clear_by_ends (is_turnless s.event.dir (found_at s n).over (found_at s n).step) (is_wide n) (list_any is_refuted (found_at s n).guards)
        (is_one_way (found_at s n).step) (has_no_turn s.event.dir (sign_at s n.a) (sign_at s n.b)) _ _ _ one_way none)

  pub monotone_is_still : IsStill s x
  monotone_is_still = record {
    no_border = λ wider. none_begins;
    clear = λ n valid after upto narrow. clear n valid after upto;
    signs = signs;
  }
