-- The served tree of a search is sound, its leaves tell the signs that those of the tree tell, and no fewer leaves of the tree lie
-- below them.
use Rattle.std.proofs.Common.{◌≡◌, ℕ, zero, suc, ◌≤◌, All, List, [], ◌∷◌, ◌++◌, length, Bool, true, false, ◌&&◌, Option, Some, None, ℤ, int_le, ◌≤ℤ◌, ◌<ℤ◌, refl, sym, ap, ◌∙◌, length-append, arith}
use Rattle.std.specs.Prelude.{if◌then◌else◌}
use Rattle.std.proofs.lemmas.Int.{ints}
use Rattle.std.proofs.lemmas.Bool.{and_parts, false≢true}
use Rattle.std.proofs.lemmas.List.Elements.{All-head, All-tail}
use Rattle.std.proofs.lemmas.List.Sums.{sum_by-append, sum_by-cons}
use Rattle.spec_intervals.specs.declared.signs.Sign.{Sign}
use Rattle.spec_trees.specs.declared.tree.Leaf.{Leaf}
use Rattle.spec_trees.specs.declared.tree.Mark.{Mark}
use Rattle.spec_trees.specs.declared.tree.Mark.TheVariants as M
use Rattle.spec_trees.specs.declared.tree.Node.{Node}
use Rattle.spec_trees.specs.declared.tree.Verdict.{Verdict}
use Rattle.spec_trees.specs.declared.tree.Verdict.TheVariants.{Clear, Split}
use Rattle.spec_trees.specs.Tree.{Covers, IsSound, IsValid, leaf_count, leaf_of, leaves, mark_of, width}
use Rattle.spec_trees.proofs.Covering.{leaves_cover}
use Rattle.spec_trees.proofs.Leaves.{leaves_settled, leaves_split, no_mark, parts_width, some_width}
use Rattle.spec_trees.proofs.Placing.{covers_forward}
use Rattle.spec_sets.specs.Signs.{sign_among, sign_in}
use Rattle.spec_searches.specs.Found.{rules}
use Rattle.spec_searches.specs.Search.{Search, IsSearch, parts, verdict_of}
use Rattle.spec_searches.proofs.Parts.{rules_are_sound}
use Rattle.spec_bounds.specs.Steady.{sign_at}
use Rattle.spec_stills.specs.declared.still.StillSpan.{StillSpan}
use Rattle.spec_stills.specs.Still.{AreClear, IsStill, is_fine_enough, is_near_enough, is_served, lies_in, serves}
use Rattle.spec_stills.specs.ServedTree.{TellTheSame, served_rules, served_verdict}
use Rattle.spec_stills.specs.Settled.{leaves_below}
use Rattle.spec_stills.proofs.Blocks.{one_clear}
use Rattle.spec_stills.proofs.Served.{second, served_block}
use Rattle.spec_stills.proofs.Sound.{sound_by}

-- ---- the tree
split_of : (served : Bool) (v : Verdict) → (if served then Clear else v) ≡ Split → v ≡ Split
split_of true v e = absurd (cc)
split_of false v e = e

pub served_clear : (s : Search) (xs : List StillSpan) (n : Node) → is_served s xs n ≡ true → served_verdict s xs n ≡ Clear
served_clear s xs n served = ap (λ (b : Bool). if b then Clear else verdict_of s n) served

pub served_other : (s : Search) (xs : List StillSpan) (n : Node) → is_served s xs n ≡ false → served_verdict s xs n ≡ verdict_of s n
served_other s xs n served = ap (λ (b : Bool). if b then Clear else verdict_of s n) served

module _ (s : Search) (xs : List StillSpan) where
  pub valid_served : (n : Node) → IsValid (rules s) n → IsValid (served_rules s xs) n
  valid_served n valid = record { from = valid.from; inside = valid.inside; to = valid.to; depth = valid.depth }

  pub valid_whole : (n : Node) → IsValid (served_rules s xs) n → IsValid (rules s) n
  valid_whole n valid = record { from = valid.from; inside = valid.inside; to = valid.to; depth = valid.depth }

  pub served_split : (n : Node) → served_verdict s xs n ≡ Split → verdict_of s n ≡ Split
  served_split n split = split_of (is_served s xs n) (verdict_of s n) split

  pub served_sound : IsSearch s → IsSound (served_rules s xs)
  served_sound is =
      sound_by s is (served_verdict s xs) (λ n valid split. (rules_are_sound s is.view).cut n valid (served_split n split))

-- ---- signs of leaves one after the other
chosen : (b : Bool) (x y z : Sign) → (b ≡ false → y ≡ z) → (if b then x else y) ≡ (if b then x else z)
chosen true x y z same = refl
chosen false x y z same = same refl

after : (t u : ℤ) → int_le t u ≡ false → u <ℤ t
after t u e = grind (arith, ints)

no_later : (t u : ℤ) → int_le t u ≡ true → t ≤ℤ u
no_later t u e = grind (arith, ints)

module _ (p : ℤ → Sign) where
  -- up to where the first of two lists ends
  early : (ls ms : List Leaf) (a b : ℤ) → Covers a ls b → a <ℤ b → (t : ℤ) → t ≤ℤ b → sign_among p (ls ++ ms) t ≡ sign_among p ls t
  early [] ms a b cover some t upto = absurd (omega (arith, ints, cover, some))
  early (l ∷ ls) ms a b cover some t upto =
      chosen (int_le t l.node.b) (sign_in p l.node l.mark t) (sign_among p (ls ++ ms) t) (sign_among p ls t)
      (λ e. let later = after t l.node.b e in early ls ms l.node.b b cover.2 (omega (arith, ints, later, upto)) t upto)

  -- and after it
  late : (ls ms : List Leaf) (a b : ℤ) → Covers a ls b → (t : ℤ) → b <ℤ t → sign_among p (ls ++ ms) t ≡ sign_among p ms t
  late [] ms a b cover t past = refl
  late (l ∷ ls) ms a b cover t past =
      let upto = covers_forward ls l.node.b b cover.2 in
      passed (int_le t l.node.b) (sign_in p l.node l.mark t) (sign_among p (ls ++ ms) t) (grind (arith, ints, upto, past))
      ∙ late ls ms l.node.b b cover.2 t past
    where
      passed : (b : Bool) (x y : Sign) → b ≡ false → (if b then x else y) ≡ y
      passed b x y e = rw e refl

  -- clear leaves of times with one sign
  in_clear : (m : Mark) (n : Node) (t : ℤ) → m ≡ M.Clear → sign_in p n m t ≡ p n.b
  in_clear m n t e = rw e refl

  all_told : (sign : Sign) (ls : List Leaf) (a b : ℤ) → AreClear ls → Covers a ls b → a <ℤ b → ((u : ℤ) → a ≤ℤ u → u ≤ℤ b → p u ≡ sign)
      → (t : ℤ) → t ≤ℤ b → sign_among p ls t ≡ sign
  all_told sign [] a b clear cover some signs t upto = absurd (omega (arith, ints, cover, some))
  all_told sign (l ∷ ls) a b clear cover some signs t upto =
      let begins = cover.0 in
      let more = cover.1 in
      let ends = covers_forward ls l.node.b b cover.2 in
      one (int_le t l.node.b) (sign_in p l.node l.mark t) (sign_among p ls t)
      (in_clear l.mark l.node t (All-head (λ (m : Leaf). m.mark ≡ M.Clear) l ls clear) ∙ signs l.node.b (omega (arith, ints, begins, more)) ends)
      (λ e.
      let later = after t l.node.b e in
      all_told sign ls l.node.b b (All-tail (λ (m : Leaf). m.mark ≡ M.Clear) l ls clear) cover.2 (omega (arith, ints, later, upto))
      (λ u from. signs u (omega (arith, ints, begins, more, from))) t upto)
    where
      one : (b : Bool) (x y : Sign) → x ≡ sign → (b ≡ false → y ≡ sign) → (if b then x else y) ≡ sign
      one true x y first later = first
      one false x y first later = later refl

  -- two lists after two others that end at one time
  both_told : (ls ms us vs : List Leaf) (a b : ℤ) → Covers a ls b → Covers a us b → a <ℤ b → (t : ℤ) → (t ≤ℤ b → sign_among p ls t ≡ sign_among p us t)
      → sign_among p ms t ≡ sign_among p vs t → (here : Bool) → int_le t b ≡ here → sign_among p (ls ++ ms) t ≡ sign_among p (us ++ vs) t
  both_told ls ms us vs a b cover other some t left right true here =
      let upto = no_later t b here in
      early ls ms a b cover some t upto ∙ left upto ∙ sym (early us vs a b other some t upto)
  both_told ls ms us vs a b cover other some t left right false here =
      let past = after t b here in
      late ls ms a b cover t past ∙ right ∙ sym (late us vs a b other t past)

-- ---- a node that still spans serve has the sign of one of them at each of its times
record HasOneSign (s : Search) (n : Node) : Type 0 where
  sign : Sign
  signs : (t : ℤ) → n.a ≤ℤ t → t ≤ℤ n.b → sign_at s t ≡ sign

lies_between : (x : StillSpan) (n : Node) → lies_in x n ≡ true → (x.from ≤ℤ n.a) × (n.b ≤ℤ x.upto)
lies_between x n lies = let both = and_parts (int_le x.from n.a) (int_le n.b x.upto) lies in (no_later x.from n.a both.0, no_later n.b x.upto both.1)

served_sign : (s : Search) (n : Node) (xs : List StillSpan) → All (IsStill s) xs → is_served s xs n ≡ true → HasOneSign s n
served_sign s n [] stills served = absurd (false≢true served)
served_sign s n (x ∷ xs) stills served =
    by (serves s x n) refl (λ later. served_sign s n xs (All-tail (IsStill s) x xs stills) later)
  where
    still : IsStill s x
    still = All-head (IsStill s) x xs stills

    by : (b : Bool) → serves s x n ≡ b → (is_served s xs n ≡ true → HasOneSign s n) → HasOneSign s n
    by true here later =
        let ends = lies_between x n (and_parts (lies_in x n) (is_near_enough s x n && is_fine_enough s x) here).0 in
        let from = ends.0 in
        let upto = ends.1 in
        record { sign = x.sign; signs = λ t begins before. still.signs t (omega (arith, ints, from, begins)) (omega (arith, ints, upto, before)) }
    by false here later = later (second (serves s x n) (is_served s xs n) here served)

-- ---- both trees at a node
module _ (s : Search) (xs : List StillSpan) (is : IsSearch s) (stills : All (IsStill s) xs) where
  abbrev count_of : Leaf → ℕ
  count_of l = leaf_count (rules s) l.node

  -- the leaves of the served tree tell the signs of those of the tree, which are no more than those below these
  record StandFor (n : Node) : Type 0 where
    told : (t : ℤ) → t ≤ℤ n.b → sign_among (sign_at s) (leaves (served_rules s xs) n) t ≡ sign_among (sign_at s) (leaves (rules s) n) t
    enough : leaf_count (rules s) n ≤ leaves_below s (leaves (served_rules s xs) n)

  one_stands : (n : Node) (m : Mark) → IsValid (rules s) n → served_verdict s xs n ≡ verdict_of s n → mark_of (verdict_of s n) ≡ Some m → StandFor n
  one_stands n m valid same marked =
      let fine = leaves_settled (rules s) (rules_are_sound s is.view) n valid m marked in
      let served = leaves_settled (served_rules s xs) (served_sound s xs is) n (valid_served s xs n valid) m (ap mark_of same ∙ marked) in
      let below = ap (leaves_below s) served ∙ sum_by-cons count_of (leaf_of n m) [] in
      record {
        told = λ t upto. ap (λ (ls : List Leaf). sign_among (sign_at s) ls t) (served ∙ sym fine);
        enough = omega (arith, below);
      }

  served_stand : (n : Node) → IsValid (rules s) n → is_served s xs n ≡ true → StandFor n
  served_stand n valid served =
      let block = served_block s n is valid xs stills served in
      let one = leaves_settled (served_rules s xs) (served_sound s xs is) n (valid_served s xs n valid) M.Clear (ap mark_of (served_clear s xs n served)) in
      let below = ap (leaves_below s) one ∙ sum_by-cons count_of (leaf_of n M.Clear) [] in
      let alike = served_sign s n xs stills served in
      record {
        told = λ t upto.
            ap (λ (ls : List Leaf). sign_among (sign_at s) ls t) one
            ∙ all_told (sign_at s) alike.sign (leaf_of n M.Clear ∷ []) n.a n.b (one_clear 1 n (omega arith)).clear (refl, valid.inside, refl) valid.inside alike.signs t upto
            ∙ sym (all_told (sign_at s) alike.sign (leaves (rules s) n) n.a n.b block.clear (leaves_cover (rules s) (rules_are_sound s is.view) n valid) valid.inside alike.signs t upto);
        enough = omega (arith, below);
      }

  split_stands : (k : ℕ) (n : Node) → IsValid (rules s) n → width n ≤ suc k → served_verdict s xs n ≡ verdict_of s n → verdict_of s n ≡ Split
      → ((i : Node) → IsValid (rules s) i → width i ≤ k → StandFor i) → StandFor n
  split_stands k n valid narrow same split below =
      let sound = rules_are_sound s is.view in
      let served_too = served_sound s xs is in
      let cut = sound.cut n valid split in
      let first = (parts s n).0 in
      let second = (parts s n).1 in
      let w = parts_width (rules s) n cut in
      let l = some_width (rules s) first cut.left in
      let r = some_width (rules s) second cut.right in
      let left = below first cut.left (omega (arith, narrow, w, l, r)) in
      let right = below second cut.right (omega (arith, narrow, w, l, r)) in
      let fine = leaves_split (rules s) sound n valid split in
      let served = leaves_split (served_rules s xs) served_too n (valid_served s xs n valid) (same ∙ split) in
      let ends = cut.cuts.to in
      let left_enough = left.enough in
      let right_enough = right.enough in
      let count = ap (λ (ls : List Leaf). length ls) fine ∙ length-append (leaves (rules s) first) (leaves (rules s) second) in
      let sum = ap (leaves_below s) served ∙ sum_by-append count_of (leaves (served_rules s xs) first) (leaves (served_rules s xs) second) in
      record {
        told = λ t upto.
            ap (λ (ls : List Leaf). sign_among (sign_at s) ls t) served
            ∙ both_told (sign_at s) (leaves (served_rules s xs) first) (leaves (served_rules s xs) second) (leaves (rules s) first) (leaves (rules s) second) first.a first.b
            (leaves_cover (served_rules s xs) served_too first (valid_served s xs first cut.left)) (leaves_cover (rules s) sound first cut.left) cut.left.inside
            t (left.told t) (right.told t (omega (arith, ints, upto, ends))) (int_le t first.b) refl
            ∙ sym (ap (λ (ls : List Leaf). sign_among (sign_at s) ls t) fine);
        enough = omega (arith, left_enough, right_enough, count, sum);
      }

  judged_stands : (k : ℕ) (n : Node) → IsValid (rules s) n → width n ≤ suc k → served_verdict s xs n ≡ verdict_of s n → (m : Option Mark) → mark_of (verdict_of s n) ≡ m
      → ((i : Node) → IsValid (rules s) i → width i ≤ k → StandFor i) → StandFor n
  judged_stands k n valid narrow same (Some m) marked below = one_stands n m valid same marked
  judged_stands k n valid narrow same None marked below = split_stands k n valid narrow same (no_mark (verdict_of s n) marked) below

  by_served : (k : ℕ) (n : Node) → IsValid (rules s) n → width n ≤ suc k → (b : Bool) → is_served s xs n ≡ b
      → ((i : Node) → IsValid (rules s) i → width i ≤ k → StandFor i) → StandFor n
  by_served k n valid narrow true served below = served_stand n valid served
  by_served k n valid narrow false served below = judged_stands k n valid narrow (served_other s xs n served) (mark_of (verdict_of s n)) refl below

  by_width : (k : ℕ) (n : Node) → IsValid (rules s) n → width n ≤ k → StandFor n
  by_width zero n valid narrow = absurd (omega (arith, narrow, some_width (rules s) n valid))
  by_width (suc k) n valid narrow = by_served k n valid narrow (is_served s xs n) refl (by_width k)

  stand_for : (n : Node) → IsValid (rules s) n → StandFor n
  stand_for n valid = by_width (width n) n valid (omega arith)

  pub enough_below_served : (n : Node) → IsValid (rules s) n → leaf_count (rules s) n ≤ leaves_below s (leaves (served_rules s xs) n)
  enough_below_served n valid = (stand_for n valid).enough

  pub served_tell_the_same : (n : Node) → IsValid (rules s) n → TellTheSame s n.a (leaves (served_rules s xs) n) (leaves (rules s) n) n.b
  served_tell_the_same n valid = λ t upto. ap (λ (x : Sign). if int_le t n.a then sign_at s n.a else x) ((stand_for n valid).told t upto)
