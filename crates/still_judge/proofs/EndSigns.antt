-- Signs at the ends of a node tell its verdict, whether a border falls into it or not: a node one unit wide is clear if they
-- show no wanted turn, and holds one if they show one and each condition is certified at its last time; a node above the limits
-- is split if they show one and each condition is certified at one of its times.
use Rattle.std.proofs.Common.{◌≡◌, ℕ, ◌<◌, Bool, true, false, ◌&&◌, nat_lt, nat_le, List, [], ◌∷◌, ◌++◌, length, All, get_or, ℤ, ◌≤ℤ◌, refl, sym, ap, subst, ◌∙◌, arith}
use Rattle.std.specs.Prelude.{if◌then◌else◌, int_le}
use Rattle.std.specs.List.{list_all, list_any}
use Rattle.std.proofs.lemmas.Bool.{and_parts, false≢true, false_from_ne_true}
use Rattle.std.proofs.lemmas.List.Elements.{All-push}
use Rattle.spec_intervals.specs.declared.signs.Sign.{Sign}
use Rattle.spec_intervals.specs.Signs.{sign_of}
use Rattle.spec_bodies.specs.Views.{state_enclosure}
use Rattle.spec_trees.specs.declared.tree.Node.{Node}
use Rattle.spec_trees.specs.declared.tree.Verdict.{Verdict}
use Rattle.spec_trees.specs.declared.tree.Verdict.TheVariants.{Clear, One, Split}
use Rattle.spec_trees.specs.Cuts.{is_wide}
use Rattle.spec_trees.specs.Tree.{IsValid, width}
use Rattle.spec_events.specs.declared.dir.Dir.{Dir}
use Rattle.spec_events.specs.Stages.{has_no_turn, is_above_limits, is_turnless, limit_verdict}
use Rattle.spec_events.specs.Verdict.{Findings, certifies, differ, is_certified, is_known, is_refuted, turn_to}
use Rattle.spec_searches.specs.Found.{rules}
use Rattle.spec_searches.specs.Search.{Search, IsSearch, criteria, crosses, enclosure_over, verdict_of}
use Rattle.spec_bounds.specs.Steady.{sign_at}
use Rattle.spec_bounds.proofs.Guards.{IsCertified, all_certified, none_refuted, still_holds}
use Rattle.spec_bounds.proofs.Limits.{verdict_by_limits}
use Rattle.spec_bounds.proofs.Staged.{found_at, sound_at, stages_of}
use Rattle.spec_bounds.proofs.Turns.{turnless_by_ends}
use Rattle.spec_stills.proofs.Sound.{wide_above}
use Rattle.event_judge.proofs.UnitNodes.{is_no_wider}
use Rattle.still_judge.specs.EndSigns.{AreCertifiedAt, AreCertifiedIn, HasEndSigns}
use Rattle.still_judge.proofs.Cleared.{no_later}

-- ---- plain tests
-- what is wider than the width is not narrow
wider_is : (w most : ℕ) → nat_lt most w ≡ true → nat_le w most ≡ false
wider_is w most wider = grind arith

-- signs that differ in a wanted direction are known, and show a turn
known_turn : (dir : Dir) (first last : Sign) → differ dir first last ≡ true → (is_known first ≡ true) × (is_known last ≡ true) × (has_no_turn dir first last ≡ false)
known_turn dir first last e = (grind arith, grind arith, grind arith)

-- the stages of a node one unit wide with no turn between its ends
unit_is_clear : (crossing turnless wide refuted none : Bool) (over rest : Verdict) → wide ≡ false → none ≡ true
    → (if crossing then (if wide then Split else if refuted then Clear else if none then Clear else rest)
    else if turnless then Clear
    else if wide then over
    else if refuted then Clear
    else if none then Clear
    else rest)
    ≡ Clear
unit_is_clear true turnless wide true none over rest w n = rw w refl
unit_is_clear true turnless wide false none over rest w n = rw (w, n) refl
unit_is_clear false true wide refuted none over rest w n = refl
unit_is_clear false false wide true none over rest w n = rw w refl
unit_is_clear false false wide false none over rest w n = rw (w, n) refl

-- and with one, where each condition is certified
unit_is_one : (crossing turnless wide refuted none narrow differs certified : Bool) (over one limit : Verdict) → wide ≡ false → refuted ≡ false → none ≡ false
    → narrow ≡ true → differs ≡ true → certified ≡ true → (crossing ≡ false → turnless ≡ false)
    → (if crossing then (if wide then Split else if refuted then Clear else if none then Clear else if narrow && (differs && certified) then one else limit)
    else if turnless then Clear
    else if wide then over
    else if refuted then Clear
    else if none then Clear
    else if narrow && (differs && certified) then one
    else limit)
    ≡ one
unit_is_one true turnless wide refuted none narrow differs certified over one limit w r n m d c t = rw (w, r, n, m, d, c) refl
unit_is_one false turnless wide refuted none narrow differs certified over one limit w r n m d c t = let never = t refl in rw (never, w, r, n, m, d, c) refl

-- ---- what is read of a list, and of still spans
-- a time of the list, between the ends of a node, if it is read as it stands
pub certified_in : (s : Search) (n : Node) (read t : ℤ) (times : List ℤ) (place : ℕ) (from upto : ℤ) → read ≡ t → from ≡ n.a → upto ≡ n.b
    → int_le from read ≡ true → int_le read upto ≡ true → t ≡ get_or times place t → place < length times → All (AreCertifiedAt s) times → AreCertifiedIn s n read
certified_in s n read t times place from upto same first last after before there within certified = record {
  from = subst (λ (x : ℤ). x ≤ℤ read) first (no_later from read after);
  upto = subst (λ (x : ℤ). read ≤ℤ x) last (no_later read upto before);
  certified = subst (AreCertifiedAt s) (sym there ∙ sym same) (certified place t within);
}

-- a time more, if there was memory for it and it is written as it is
pub time_pushed : (s : Search) (ok : Bool) (xs ys : List ℤ) (t written : ℤ) → ys ≡ (if ok then xs ++ written ∷ [] else xs) → written ≡ t
    → All (AreCertifiedAt s) xs → AreCertifiedAt s t → All (AreCertifiedAt s) ys
time_pushed s true xs ys t written e same all certified =
    subst (All (AreCertifiedAt s)) (sym e) (All-push (AreCertifiedAt s) xs written all (subst (AreCertifiedAt s) (sym same) certified))
time_pushed s false xs ys t written e same all certified = subst (All (AreCertifiedAt s)) (sym e) all

-- signs that are told at the ends of a valid node
pub signs_at_ends : (s : Search) (n : Node) (from upto : ℤ) (first last : Sign) → IsValid (rules s) n → from ≡ n.a → upto ≡ n.b
    → sign_at s from ≡ first → sign_at s upto ≡ last → HasEndSigns s n first last
signs_at_ends s n from upto first last valid a b at_first at_last = record {
  valid = valid;
  at_first = ap (sign_at s) (sym a) ∙ at_first;
  at_last = ap (sign_at s) (sym b) ∙ at_last;
}

-- ---- a node, and the signs at its ends
module _ (s : Search) (n : Node) (first last : Sign) (is : IsSearch s) (signs : HasEndSigns s n first last) where
  abbrev found : Findings
  found = found_at s n

  abbrev dir : Dir
  dir = s.event.dir

  -- a test of the signs is one of those that are found
  of_found : (test : Sign → Sign → Bool) (b : Bool) → test first last ≡ b → test found.at_first found.at_last ≡ b
  of_found test b e = (λ i. test (signs.at_first i) (signs.at_last i)) ∙ e

  module _ (narrow : is_wide n ≡ false) where
    pub unit_clear : has_no_turn dir first last ≡ true → verdict_of s n ≡ Clear
    unit_clear none =
        stages_of s is n signs.valid
        ∙ unit_is_clear (crosses s n) (is_turnless dir found.over found.step) (is_wide n) (list_any is_refuted found.guards)
        (has_no_turn dir found.at_first found.at_last) _ _ narrow (of_found (has_no_turn dir) true none)

    -- conditions are asked at the one time of such a node
    at_last_time : AreCertifiedAt s n.b → All (IsCertified s n) s.event.conditions
    at_last_time certified k d within =
        subst (λ (from : ℤ). certifies (get_or s.event.conditions k d).at_least (sign_of (enclosure_over (state_enclosure s.view) (get_or s.event.conditions k d).term from n.b).range) ≡ true)
        (sym (ap (λ (w : Bool). if w then n.a else n.b) narrow)) (certified k d within)

    module _ (at_last : AreCertifiedAt s n.b) where
      certified : list_all is_certified found.guards ≡ true
      certified = all_certified s n s.event.conditions (at_last_time at_last)

      not_refuted : list_any is_refuted found.guards ≡ false
      not_refuted = none_refuted s n s.event.conditions (λ k d within. still_holds s n _ (at_last_time at_last k d within))

      pub unit_one : differ dir first last ≡ true → verdict_of s n ≡ One (turn_to last)
      unit_one differs =
          stages_of s is n signs.valid
          ∙ unit_is_one (crosses s n) (is_turnless dir found.over found.step) (is_wide n) (list_any is_refuted found.guards)
          (has_no_turn dir found.at_first found.at_last) (nat_le (width n) s.width) (differ dir found.at_first found.at_last)
          (list_all is_certified found.guards) _ (One (turn_to found.at_last)) (limit_verdict (criteria s) n)
          narrow not_refuted turn.2 (is_no_wider n.a n.b s.width signs.valid.inside is.some_width narrow) found_differ certified not_turnless
          ∙ (λ i. One (turn_to (signs.at_last i)))
        where
          found_differ : differ dir found.at_first found.at_last ≡ true
          found_differ = of_found (differ dir) true differs

          turn : (is_known found.at_first ≡ true) × (is_known found.at_last ≡ true) × (has_no_turn dir found.at_first found.at_last ≡ false)
          turn = known_turn dir found.at_first found.at_last found_differ

          -- what shows over the whole node that there is no turn would show it of the signs at the ends
          not_turnless : crosses s n ≡ false → is_turnless dir found.over found.step ≡ false
          not_turnless open_node =
              false_from_ne_true (is_turnless dir found.over found.step)
              (λ turnless. false≢true (sym turn.2 ∙ turnless_by_ends _ _ n found (sound_at s is n signs.valid) open_node turn.0 turn.1 dir turnless))

  pub wide_split : (t : ℤ) → AreCertifiedIn s n t → is_above_limits (criteria s) n ≡ true → differ dir first last ≡ true → verdict_of s n ≡ Split
  wide_split t conditions above differs = by (crosses s n) refl
    where
      wide : is_wide n ≡ true
      wide = wide_above s n is signs.valid above

      by_limits : crosses s n ≡ false → verdict_of s n ≡ limit_verdict (criteria s) n
      by_limits open_node =
          let wider = (and_parts (nat_lt s.width (width n)) (nat_lt n.depth s.depth) above).0 in
          verdict_by_limits s n is signs.valid open_node wide (of_found (differ dir) true differs) (wider_is (width n) s.width wider)
          t conditions.from conditions.upto conditions.certified

      at_border : crosses s n ≡ true → verdict_of s n ≡ Split
      at_border crossing = stages_of s is n signs.valid ∙ rw (crossing, wide) refl

      by : (b : Bool) → crosses s n ≡ b → verdict_of s n ≡ Split
      by true e = at_border e
      by false e = by_limits e ∙ rw above refl
