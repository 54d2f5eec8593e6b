-- Nodes of one unit with the same known sign at both ends are clear, with or without a border in them.
use Rattle.std.proofs.Common.{◌≡◌, ℕ, ◌<◌, ◌≤◌, ◌⊎◌, inl, inr, Bool, true, false, int_lt, ℤ, pos, ◌+ℤ◌, ◌-ℤ◌, ◌≤ℤ◌, ◌<ℤ◌, unsigned_abs, refl, ap, ◌∙◌, arith}
use Rattle.std.specs.Prelude.{if◌then◌else◌}
use Rattle.std.specs.List.{list_any}
use Rattle.std.proofs.lemmas.Int.{ints}
use Rattle.spec_intervals.specs.declared.signs.Sign.{Sign}
use Rattle.spec_intervals.specs.declared.signs.Sign.TheVariants.{No, Open, Yes}
use Rattle.spec_trees.specs.declared.tree.Node.{Node}
use Rattle.spec_trees.specs.declared.tree.Verdict.{Verdict}
use Rattle.spec_trees.specs.declared.tree.Verdict.TheVariants.{Clear}
use Rattle.spec_trees.specs.Tree.{IsValid, width}
use Rattle.spec_events.specs.declared.dir.Dir.{Dir}
use Rattle.spec_events.specs.Stages.{has_no_turn, is_turnless}
use Rattle.spec_events.specs.Verdict.{is_known, is_refuted}
use Rattle.spec_searches.specs.Found.{rules}
use Rattle.spec_searches.specs.Search.{IsSearch, Search, crosses, verdict_of}
use Rattle.spec_bounds.specs.Steady.{sign_at}
use Rattle.spec_bounds.proofs.Quiet.{clear_at_border}
use Rattle.spec_bounds.proofs.Staged.{found_at, stages_of}
use Rattle.spec_stills.specs.Still.{IsStill, unit_from}

-- an if whose third test holds
clear_in_any_case : (turnless refuted none : Bool) (rest : Verdict) → none ≡ true
    → (if turnless then Clear else if refuted then Clear else if none then Clear else rest) ≡ Clear
clear_in_any_case true refuted none rest e = refl
clear_in_any_case false true none rest e = refl
clear_in_any_case false false none rest e = rw e refl

not_wide : (a b : ℤ) → a <ℤ b → unsigned_abs (b -ℤ a) ≤ 1 → int_lt (pos 1) (b -ℤ a) ≡ false
not_wide a b inside narrow = grind (arith, ints)

pub no_turn_between : (dir : Dir) (sign : Sign) → is_known sign ≡ true → has_no_turn dir sign sign ≡ true
no_turn_between dir Yes known = refl
no_turn_between dir No known = refl
no_turn_between dir Open known = cc

module _ (s : Search) (n : Node) (is : IsSearch s) (valid : IsValid (rules s) n) (narrow : width n ≤ 1) where
  open_unit : has_no_turn s.event.dir (sign_at s n.a) (sign_at s n.b) ≡ true → crosses s n ≡ false → verdict_of s n ≡ Clear
  open_unit none no_border =
      stages_of s is n valid ∙
      rw (no_border, not_wide n.a n.b valid.inside narrow)
      (clear_in_any_case (is_turnless s.event.dir (found_at s n).over (found_at s n).step) (list_any is_refuted (found_at s n).guards)
      (has_no_turn s.event.dir (sign_at s n.a) (sign_at s n.b)) _ none)

  -- by the signs at both ends
  pub clear_unit : (sign : Sign) → is_known sign ≡ true → sign_at s n.a ≡ sign → sign_at s n.b ≡ sign → verdict_of s n ≡ Clear
  clear_unit sign known first last = by (crosses s n) refl
    where
      none : has_no_turn s.event.dir (sign_at s n.a) (sign_at s n.b) ≡ true
      none = rw (first, last) (no_turn_between s.event.dir sign known)

      by : (border : Bool) → crosses s n ≡ border → verdict_of s n ≡ Clear
      by true there = clear_at_border s n is valid there (not_wide n.a n.b valid.inside narrow) none
      by false there = open_unit none there

-- ---- the unit from one time to the next
time_of_unit : (t u : ℤ) → t ≤ℤ u → u ≤ℤ (t +ℤ pos 1) → (u ≡ t) ⊎ (u ≡ t +ℤ pos 1)
time_of_unit t u after upto = grind (arith, ints)

no_wider : (t : ℤ) (widest : ℕ) → 0 < widest → widest < unsigned_abs ((t +ℤ pos 1) -ℤ t) → ⊥
no_wider t widest some wider = omega (arith, ints, some, wider)

within_unit : (t a b : ℤ) → t ≤ℤ a → a <ℤ b → b ≤ℤ (t +ℤ pos 1) → unsigned_abs (b -ℤ a) ≤ 1
within_unit t a b after inside upto = omega (arith, ints, after, inside, upto)

module _ (s : Search) (t : ℤ) (widest : ℕ) (sign : Sign) (is : IsSearch s) (some : 0 < widest) (known : is_known sign ≡ true)
    (first : sign_at s t ≡ sign) (last : sign_at s (t +ℤ pos 1) ≡ sign) where
  sign_there : (u : ℤ) → t ≤ℤ u → u ≤ℤ (t +ℤ pos 1) → sign_at s u ≡ sign
  sign_there u after upto = by (time_of_unit t u after upto)
    where
      by : (u ≡ t) ⊎ (u ≡ t +ℤ pos 1) → sign_at s u ≡ sign
      by (inl e) = ap (sign_at s) e ∙ first
      by (inr e) = ap (sign_at s) e ∙ last

  clear_there : (n : Node) → IsValid (rules s) n → t ≤ℤ n.a → n.b ≤ℤ (t +ℤ pos 1) → verdict_of s n ≡ Clear
  clear_there n valid after upto =
      let inside = valid.inside in
      clear_unit s n is valid (within_unit t n.a n.b after inside upto) sign known
      (sign_there n.a after (omega (arith, ints, inside, upto)))
      (sign_there n.b (omega (arith, ints, inside, after)) upto)

  pub unit_is_still : IsStill s (unit_from t widest sign)
  unit_is_still = record {
    no_border = λ wider u border. no_wider t widest some wider;
    clear = λ n valid after upto narrow. clear_there n valid after upto;
    signs = sign_there;
  }
