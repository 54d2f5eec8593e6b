-- The eager tree of a search is sound: what it splits may be cut.
use Rattle.std.proofs.Common.{◌≡◌, ℕ, ◌<◌, ◌⊎◌, inl, inr, Bool, true, false, ◌&&◌, ◌||◌, nat_lt, nat_le, refl, List, arith}
use Rattle.std.specs.Prelude.{if◌then◌else◌}
use Rattle.std.proofs.lemmas.Int.{ints}
use Rattle.std.proofs.lemmas.Bool.{and_parts, ltb-true}
use Rattle.spec_trees.specs.declared.tree.Node.{Node}
use Rattle.spec_trees.specs.declared.tree.Verdict.{Verdict}
use Rattle.spec_trees.specs.declared.tree.Verdict.TheVariants.{Clear, Split}
use Rattle.spec_trees.specs.Cuts.{is_wide}
use Rattle.spec_trees.specs.Tree.{IsCut, IsSound, IsValid, width}
use Rattle.spec_events.specs.Soundness.{findings_of}
use Rattle.spec_events.specs.Stages.{is_above_limits}
use Rattle.spec_searches.specs.Found.{rules}
use Rattle.spec_searches.specs.Search.{Search, IsSearch, criteria, crosses, evidence_at, may_be_cut, parts, verdict_of}
use Rattle.spec_searches.proofs.Parts.{parts_are, rules_are_sound, split_may}
use Rattle.spec_stills.specs.declared.still.StillSpan.{StillSpan}
use Rattle.spec_stills.specs.Still.{is_served}
use Rattle.spec_stills.proofs.Halvings.{clear_or_split, is_split_by, not_one, wide_by_width}
use Rattle.spec_stills.specs.Eager.{begin_in, eager_rules, eager_verdict}

-- ---- nodes above the limits
pub wide_above : (s : Search) (n : Node) → IsSearch s → IsValid (rules s) n → is_above_limits (criteria s) n ≡ true → is_wide n ≡ true
wide_above s n is valid above =
    let tests = and_parts (nat_lt s.width (width n)) (nat_lt n.depth s.depth) above in
    let more = ltb-true s.width (width n) tests.0 in
    let some = is.some_width in
    wide_by_width n.a n.b valid.inside (omega (arith, more, some))

-- one is clear, or it is split
pub verdict_above : (s : Search) (n : Node) → IsSearch s → IsValid (rules s) n → is_above_limits (criteria s) n ≡ true
    → (verdict_of s n ≡ Clear) ⊎ (verdict_of s n ≡ Split)
unfolding verdict_of
verdict_above s n is valid above =
    let tests = and_parts (nat_lt s.width (width n)) (nat_lt n.depth s.depth) above in
    let narrow = not_narrow s.width (width n) (ltb-true s.width (width n) tests.0) in
    clear_or_split (criteria s) n (findings_of (evidence_at s n)) (not_one _ (nat_le (width n) s.width) _ narrow)
    (is_split_by (is_wide n) (crosses s n) (nat_lt s.width (width n)) (nat_lt n.depth s.depth) (wide_above s n is valid above) tests.0 tests.1)
  where
    not_narrow : (w v : ℕ) → w < v → nat_le v w ≡ false
    not_narrow w v below = grind (arith, ints)

above_may : (s : Search) (n : Node) → IsSearch s → IsValid (rules s) n → is_above_limits (criteria s) n ≡ true → may_be_cut s n ≡ true
above_may s n is valid above =
    let tests = and_parts (nat_lt s.width (width n)) (nat_lt n.depth s.depth) above in
    both (is_wide n) (crosses s n) (nat_lt n.depth s.depth) (wide_above s n is valid above) tests.1
  where
    both : (w x z : Bool) → w ≡ true → z ≡ true → (w && (x || z)) ≡ true
    both w x z e f = grind arith

-- ---- the three ways to a verdict
chosen : (p q : Bool) (v : Verdict) → (if p then Clear else if q then Split else v) ≡ Split → (q ≡ true) ⊎ (v ≡ Split)
chosen true q v e = absurd (cc)
chosen false true v e = inl refl
chosen false false v e = inr e

pub served_verdict : (s : Search) (xs : List StillSpan) (n : Node) → is_served s xs n ≡ true → eager_verdict s xs n ≡ Clear
served_verdict s xs n served = by (is_served s xs n) (begin_in xs n && is_above_limits (criteria s) n) (verdict_of s n) served
  where
    by : (p q : Bool) (v : Verdict) → p ≡ true → (if p then Clear else if q then Split else v) ≡ Clear
    by p q v e = rw e refl

pub unjudged_verdict : (s : Search) (xs : List StillSpan) (n : Node) → is_served s xs n ≡ false → (begin_in xs n && is_above_limits (criteria s) n) ≡ true
    → eager_verdict s xs n ≡ Split
unjudged_verdict s xs n served begins = by (is_served s xs n) (begin_in xs n && is_above_limits (criteria s) n) (verdict_of s n) served begins
  where
    by : (p q : Bool) (v : Verdict) → p ≡ false → q ≡ true → (if p then Clear else if q then Split else v) ≡ Split
    by p q v e f = rw (e, f) refl

pub judged_verdict : (s : Search) (xs : List StillSpan) (n : Node) → is_served s xs n ≡ false → (begin_in xs n && is_above_limits (criteria s) n) ≡ false
    → eager_verdict s xs n ≡ verdict_of s n
judged_verdict s xs n served begins = by (is_served s xs n) (begin_in xs n && is_above_limits (criteria s) n) (verdict_of s n) served begins
  where
    by : (p q : Bool) (v : Verdict) → p ≡ false → q ≡ false → (if p then Clear else if q then Split else v) ≡ v
    by p q v e f = rw (e, f) refl

-- ---- the tree
-- the tree of other verdicts is sound, if what they split may be cut
pub sound_by : (s : Search) → IsSearch s → (verdict : Node → Verdict)
    → ((n : Node) → IsValid (rules s) n → verdict n ≡ Split → IsCut (rules s) n) → IsSound (record (rules s) { verdict = verdict })
sound_by s is verdict cut_of_split =
    let sound = rules_are_sound s is.view in
    record {
      low = sound.low;
      high = sound.high;
      cut = λ n valid split.
          let cut = cut_of_split n (record { from = valid.from; inside = valid.inside; to = valid.to; depth = valid.depth }) split in
          record { cuts = cut.cuts; left = within (parts s n).0 cut.left; right = within (parts s n).1 cut.right };
    }
  where
    within : (m : Node) → IsValid (rules s) m → IsValid (record (rules s) { verdict = verdict }) m
    within m valid = record { from = valid.from; inside = valid.inside; to = valid.to; depth = valid.depth }

module _ (s : Search) (xs : List StillSpan) where
  pub valid_eager : (n : Node) → IsValid (rules s) n → IsValid (eager_rules s xs) n
  valid_eager n valid = record { from = valid.from; inside = valid.inside; to = valid.to; depth = valid.depth }

  pub valid_fine : (n : Node) → IsValid (eager_rules s xs) n → IsValid (rules s) n
  valid_fine n valid = record { from = valid.from; inside = valid.inside; to = valid.to; depth = valid.depth }

  pub eager_may : (n : Node) → IsSearch s → IsValid (rules s) n → eager_verdict s xs n ≡ Split → may_be_cut s n ≡ true
  eager_may n is valid split = by (chosen (is_served s xs n) (begin_in xs n && is_above_limits (criteria s) n) (verdict_of s n) split)
    where
      by : ((begin_in xs n && is_above_limits (criteria s) n) ≡ true) ⊎ (verdict_of s n ≡ Split) → may_be_cut s n ≡ true
      by (inl begins) = above_may s n is valid (and_parts (begin_in xs n) (is_above_limits (criteria s) n) begins).1
      by (inr judged) = split_may s n judged

  pub eager_sound : IsSearch s → IsSound (eager_rules s xs)
  eager_sound is = sound_by s is (eager_verdict s xs) cut
    where
      cut : (n : Node) → IsValid (rules s) n → eager_verdict s xs n ≡ Split → IsCut (rules s) n
      cut n valid split =
          let are = parts_are s is.view n valid (eager_may n is valid split) in
          record { cuts = are.0; left = are.1; right = are.2 }
