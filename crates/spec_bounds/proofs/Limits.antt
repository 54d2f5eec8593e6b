-- Of a wide node, signs at its ends that differ in a wanted direction leave the limits to decide, where the conditions are
-- each certified at one of its times and the node is wider than the width.
use Rattle.std.proofs.Common.{◌≡◌, Bool, true, false, ◌&&◌, nat_le, [], All, ℤ, ◌≤ℤ◌, refl, sym, subst, ◌∙◌, arith}
use Rattle.std.specs.Prelude.{if◌then◌else◌}
use Rattle.std.specs.List.{list_all, list_any}
use Rattle.std.proofs.lemmas.Bool.{false≢true, false_from_ne_true}
use Rattle.std.proofs.lemmas.List.Elements.{All-nil}
use Rattle.spec_numbers.proofs.Order.{lin}
use Rattle.spec_intervals.specs.declared.signs.Sign.{Sign}
use Rattle.spec_trees.specs.declared.tree.Node.{Node}
use Rattle.spec_trees.specs.declared.tree.Verdict.{Verdict}
use Rattle.spec_trees.specs.declared.tree.Verdict.TheVariants.{Clear, One}
use Rattle.spec_trees.specs.Cuts.{is_wide}
use Rattle.spec_trees.specs.Tree.{IsValid, width}
use Rattle.spec_events.specs.declared.dir.Dir.{Dir}
use Rattle.spec_events.specs.Stages.{has_no_turn, is_turnless, limit_verdict}
use Rattle.spec_events.specs.Verdict.{Findings, differ, is_certified, is_known, is_one_way, is_refuted, turn_to}
use Rattle.spec_searches.specs.Event.{Condition}
use Rattle.spec_searches.specs.Found.{rules}
use Rattle.spec_searches.specs.Search.{Search, IsSearch, criteria, crosses, verdict_of}
use Rattle.spec_bounds.specs.Steady.{is_certified_at, sign_at}
use Rattle.spec_bounds.proofs.Guards.{none_refuted}
use Rattle.spec_bounds.proofs.CertifiedAtTime.{not_refuted_over}
use Rattle.spec_bounds.proofs.Staged.{found_at, sound_at, stages_of}
use Rattle.spec_bounds.proofs.Turns.{turnless_by_ends}

-- ---- signs that differ in a wanted direction
first_is_known : (dir : Dir) (first last : Sign) → differ dir first last ≡ true → is_known first ≡ true
first_is_known dir first last e = grind arith

last_is_known : (dir : Dir) (first last : Sign) → differ dir first last ≡ true → is_known last ≡ true
last_is_known dir first last e = grind arith

some_turn : (dir : Dir) (first last : Sign) → differ dir first last ≡ true → has_no_turn dir first last ≡ false
some_turn dir first last e = grind arith

-- the stages of a wide node over plain tests, where the function turns, no guard is refuted and the node is not narrow
by_limits : (turnless wide refuted one_way none narrow certified : Bool) (unit one limit : Verdict)
    → turnless ≡ false → wide ≡ true → refuted ≡ false → none ≡ false → narrow ≡ false
    → (if turnless then Clear
    else if wide then (if refuted then Clear else if one_way then (if none then Clear else if narrow && certified then one else limit) else limit)
    else unit)
    ≡ limit
by_limits turnless wide refuted true none narrow certified unit one limit t w r o c = rw (t, w, r, o, c) refl
by_limits turnless wide refuted false none narrow certified unit one limit t w r o c = rw (t, w, r) refl

-- ---- a wide node into which no border falls, with such signs at its ends
module _ (s : Search) (n : Node) (is : IsSearch s) (valid : IsValid (rules s) n) (open_node : crosses s n ≡ false)
    (wide : is_wide n ≡ true) (differs : differ s.event.dir (sign_at s n.a) (sign_at s n.b) ≡ true) where
  abbrev found : Findings
  found = found_at s n

  abbrev dir : Dir
  dir = s.event.dir

  abbrev IsCertifiedAt : ℤ → Condition → Type 0
  IsCertifiedAt t c = is_certified_at s t c ≡ true

  has_turn : has_no_turn dir found.at_first found.at_last ≡ false
  has_turn = some_turn dir found.at_first found.at_last differs

  -- what shows that there is no turn would show it of the signs at the ends
  not_turnless : is_turnless dir found.over found.step ≡ false
  not_turnless = false_from_ne_true (is_turnless dir found.over found.step) (λ turnless. false≢true (sym has_turn ∙ none turnless))
    where
      none : is_turnless dir found.over found.step ≡ true → has_no_turn dir found.at_first found.at_last ≡ true
      none =
          turnless_by_ends _ _ n found (sound_at s is n valid) open_node
          (first_is_known dir found.at_first found.at_last differs) (last_is_known dir found.at_first found.at_last differs) dir

  module _ (wider : nat_le (width n) s.width ≡ false) where
    limits_of : list_any is_refuted found.guards ≡ false → verdict_of s n ≡ limit_verdict (criteria s) n
    limits_of not_refuted =
        stages_of s is n valid ∙ rw open_node
        (by_limits (is_turnless dir found.over found.step) (is_wide n) (list_any is_refuted found.guards) (is_one_way found.step)
        (has_no_turn dir found.at_first found.at_last) (nat_le (width n) s.width)
        (differ dir found.at_first found.at_last && list_all is_certified found.guards)
        _ (One (turn_to found.at_last)) (limit_verdict (criteria s) n)
        not_turnless wide not_refuted has_turn wider)

    pub verdict_by_limits : (t : ℤ) → n.a ≤ℤ t → t ≤ℤ n.b → All (IsCertifiedAt t) s.event.conditions
        → verdict_of s n ≡ limit_verdict (criteria s) n
    verdict_by_limits t after upto certified =
        limits_of (none_refuted s n s.event.conditions
        (λ k d within. not_refuted_over s n is valid open_node wide t after upto _ (is.formulas.conditions k d within) (certified k d within)))

    -- of no conditions each is certified at any time
    pub unconditional : s.event.conditions ≡ [] → verdict_of s n ≡ limit_verdict (criteria s) n
    unconditional none =
        let inside = valid.inside in
        verdict_by_limits n.b (omega (arith, lin, inside)) (omega (arith, lin))
        (subst (All (IsCertifiedAt n.b)) (sym none) (All-nil (IsCertifiedAt n.b)))
