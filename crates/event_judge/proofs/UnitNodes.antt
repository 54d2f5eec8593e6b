-- Of a node one unit wide, in an event without conditions, signs at its ends that are both known tell the verdict: clear
-- where they show no wanted turn, and else the one turn between them. A border in it changes nothing.
use Rattle.std.proofs.Common.{◌≡◌, ℕ, ◌<◌, Bool, true, false, ◌&&◌, nat_le, int_lt, All, ℤ, pos, ◌-ℤ◌, ◌<ℤ◌, unsigned_abs, refl, sym, subst, ◌∙◌, arith}
use Rattle.std.specs.Prelude.{if◌then◌else◌}
use Rattle.std.specs.List.{list_all, list_any}
use Rattle.std.proofs.lemmas.Int.{ints}
use Rattle.std.proofs.lemmas.List.Elements.{All-nil}
use Rattle.spec_trees.specs.declared.tree.Node.{Node}
use Rattle.spec_trees.specs.declared.tree.Verdict.{Verdict}
use Rattle.spec_trees.specs.declared.tree.Verdict.TheVariants.{Clear, One, Split}
use Rattle.spec_trees.specs.Cuts.{is_wide}
use Rattle.spec_trees.specs.Tree.{IsValid, width}
use Rattle.spec_events.specs.declared.dir.Dir.{Dir}
use Rattle.spec_events.specs.Stages.{has_no_turn, is_turnless, limit_verdict}
use Rattle.spec_events.specs.Verdict.{Findings, differ, is_certified, is_known, is_one_way, is_refuted, turn_to}
use Rattle.spec_searches.specs.Found.{rules}
use Rattle.spec_searches.specs.Search.{Search, IsSearch, criteria, verdict_of}
use Rattle.spec_bounds.specs.Steady.{sign_at, steady_verdict}
use Rattle.spec_bounds.proofs.Guards.{IsCertified, IsNotRefuted, all_certified, none_refuted}
use Rattle.spec_bounds.proofs.Staged.{found_at, sound_at, stages_of}
use Rattle.spec_bounds.proofs.Turns.{differ_or_none, turnless_by_ends}
use Rattle.event_judge.specs.Plain.{IsPlainUnit}

-- the stages of such a node over plain tests: nothing is refuted, the node is narrow, and a turn that the ends show is
-- certified, while what shows that there is none would show it of the ends
by_ends : (crossing turnless wide refuted one_way none narrow differs certified : Bool) (one limit : Verdict)
    → wide ≡ false → refuted ≡ false → narrow ≡ true → certified ≡ true → (crossing ≡ false → turnless ≡ true → none ≡ true) → (none ≡ false → differs ≡ true)
    → (if crossing then (if wide then Split else if refuted then Clear else if none then Clear else if narrow && (differs && certified) then one else limit)
    else if turnless then Clear
    else if wide then (if refuted then Clear else if one_way then (if none then Clear else if narrow && (differs && certified) then one else limit) else limit)
    else if refuted then Clear else if none then Clear else if narrow && (differs && certified) then one else limit)
    ≡ (if none then Clear else if narrow then one else limit)
by_ends true turnless wide refuted one_way true narrow differs certified one limit w r n c t d = rw (w, r) refl
by_ends true turnless wide refuted one_way false narrow differs certified one limit w r n c t d = rw (w, r, n, c, d refl) refl
by_ends false true wide refuted one_way none narrow differs certified one limit w r n c t d = rw (t refl refl) refl
by_ends false false wide refuted one_way true narrow differs certified one limit w r n c t d = rw (w, r) refl
by_ends false false wide refuted one_way false narrow differs certified one limit w r n c t d = rw (w, r, n, c, d refl) refl

-- a node that is not wide is no wider than any width
pub is_no_wider : (a b : ℤ) (least : ℕ) → a <ℤ b → 0 < least → int_lt (pos 1) (b -ℤ a) ≡ false → nat_le (unsigned_abs (b -ℤ a)) least ≡ true
is_no_wider a b least inside some narrow = grind (arith, ints)

module _ (s : Search) (n : Node) (is : IsSearch s) (valid : IsValid (rules s) n) (plain : IsPlainUnit s n)
    (first_known : is_known (sign_at s n.a) ≡ true) (last_known : is_known (sign_at s n.b) ≡ true) where
  abbrev found : Findings
  found = found_at s n

  abbrev dir : Dir
  dir = s.event.dir

  turnless : found.crosses ≡ false → is_turnless dir found.over found.step ≡ true → has_no_turn dir found.at_first found.at_last ≡ true
  turnless uncrossed = turnless_by_ends _ _ n found (sound_at s is n valid) uncrossed first_known last_known dir

  none_is_refuted : list_any is_refuted found.guards ≡ false
  none_is_refuted = none_refuted s n s.event.conditions (subst (All (IsNotRefuted s n)) (sym plain.unconditional) (All-nil (IsNotRefuted s n)))

  all_are_certified : list_all is_certified found.guards ≡ true
  all_are_certified = all_certified s n s.event.conditions (subst (All (IsCertified s n)) (sym plain.unconditional) (All-nil (IsCertified s n)))

  pub told_by_ends : verdict_of s n ≡ steady_verdict (criteria s) n (sign_at s n.a) (sign_at s n.b)
  told_by_ends =
      stages_of s is n valid ∙
      (by_ends found.crosses (is_turnless dir found.over found.step) (is_wide n) (list_any is_refuted found.guards) (is_one_way found.step)
      (has_no_turn dir found.at_first found.at_last) (nat_le (width n) s.width) (differ dir found.at_first found.at_last)
      (list_all is_certified found.guards) (One (turn_to found.at_last)) (limit_verdict (criteria s) n)
      plain.unit none_is_refuted (is_no_wider n.a n.b s.width valid.inside is.some_width plain.unit) all_are_certified
      turnless (differ_or_none dir found.at_first found.at_last first_known last_known))
