-- The verdict in stages is the verdict.
use Rattle.std.proofs.Common.{◌≡◌, ℕ, ◌<◌, Bool, true, false, not, ◌&&◌, ◌||◌, nat_lt, nat_le, int_lt, ℤ, pos, ◌-ℤ◌, ◌<ℤ◌, unsigned_abs, refl, arith}
use Rattle.std.specs.Prelude.{if◌then◌else◌}
use Rattle.std.specs.List.{list_all, list_any}
use Rattle.std.proofs.lemmas.Int.{ints}
use Rattle.spec_numbers.proofs.Booleans.{not_both}
use Rattle.spec_trees.specs.declared.tree.Node.{Node}
use Rattle.spec_trees.specs.declared.tree.Turn.{Turn}
use Rattle.spec_trees.specs.declared.tree.Verdict.{Verdict}
use Rattle.spec_trees.specs.declared.tree.Verdict.TheVariants.{Clear, One, Split, Undecided}
use Rattle.spec_trees.specs.Cuts.{is_wide}
use Rattle.spec_trees.specs.Tree.{width}
use Rattle.spec_events.specs.Verdict.{Criteria, Findings, is_known, agree, differ, differ_against, turn_to, is_certified, is_refuted, is_one_way, steps_against, verdict}
use Rattle.spec_events.specs.Stages.{is_above_limits, staged_verdict}

-- the verdict and its stages over plain tests, where a node that is not wide is above no limit
module _ (over steps one_way equal against refuted narrow differ certified above : Bool) (turn : Turn) where
  abbrev by_cases : Bool → Bool → Verdict
  by_cases crosses wide =
      let readable = not crosses || not wide in
      let steady = (not crosses && one_way) || not wide in
      if readable && ((not crosses && over) || ((equal && steady) || ((against && steady) || ((not crosses && steps) || refuted)))) then Clear
      else if readable && (narrow && (differ && (steady && certified))) then One turn
      else if wide && (crosses || above) then Split
      else Undecided

  abbrev by_limits : Verdict
  by_limits = if above then Split else Undecided

  abbrev by_ends : Verdict
  by_ends = if equal || against then Clear else if narrow && (differ && certified) then One turn else by_limits

  abbrev of_unit : Verdict
  of_unit = if refuted then Clear else by_ends

  abbrev of_wide : Verdict
  of_wide = if refuted then Clear else if one_way then by_ends else by_limits

  abbrev by_stages : Bool → Bool → Verdict
  by_stages crosses wide = if crosses then (if wide then Split else of_unit) else if over || steps then Clear else if wide then of_wide else of_unit

  same : (crosses wide : Bool) → (wide ≡ false → above ≡ false) → by_cases crosses wide ≡ by_stages crosses wide
  same true true h = refl
  same true false h = let e = h refl in grind arith
  same false true h = grind arith
  same false false h = let e = h refl in grind arith

-- a node that is not wide is no wider than any width
not_above : (a b : ℤ) (width : ℕ) → a <ℤ b → 0 < width → int_lt (pos 1) (b -ℤ a) ≡ false → nat_lt width (unsigned_abs (b -ℤ a)) ≡ false
not_above a b width inside some narrow = grind (arith, ints)

pub staged : (c : Criteria) (n : Node) (f : Findings) → n.a <ℤ n.b → 0 < c.width → verdict c n f ≡ staged_verdict c n f
unfolding verdict
staged c n f inside some =
    same (is_known f.over) (steps_against c.dir f.step) (is_one_way f.step) (agree f.at_first f.at_last) (differ_against c.dir f.at_first f.at_last) (list_any is_refuted f.guards)
    (nat_le (width n) c.width) (differ c.dir f.at_first f.at_last) (list_all is_certified f.guards) (is_above_limits c n) (turn_to f.at_last) f.crosses (is_wide n)
    (λ narrow. not_both (nat_lt c.width (width n)) (nat_lt n.depth c.depth) (not_above n.a n.b c.width inside some narrow))
