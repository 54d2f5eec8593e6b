-- A node within a still span is clear, or it is split where it is wider than the span asks; halved so often, its leaves are
-- clear alone.
use Rattle.std.proofs.Common.{◌≡◌, ℕ, zero, suc, ◌+◌, ◌*◌, ◌^◌, ◌<◌, ◌≤◌, ◌⊎◌, inl, inr, Bool, true, false, ◌&&◌, ◌||◌, nat_le, nat_lt, int_lt, int_le, int_div, Option, Some, None, is_some, ℤ, pos, ◌+ℤ◌, ◌-ℤ◌, ◌≤ℤ◌, ◌<ℤ◌, unsigned_abs, refl, sym, ap, ◌∙◌, subst, mul-one, mul_right_comm, pow-suc, arith}
use Rattle.std.specs.Prelude.{if◌then◌else◌, min}
use Rattle.std.proofs.lemmas.Int.{ints}
use Rattle.std.proofs.lemmas.Bool.{and_parts, cases_lt, leb-true, lt-ltb}
use Rattle.spec_trees.specs.declared.cuts.CutRule.{CutRule}
use Rattle.spec_trees.specs.declared.cuts.CutRule.TheVariants.{Half, Third}
use Rattle.spec_trees.specs.declared.tree.Node.{Node}
use Rattle.spec_trees.specs.declared.tree.Mark.TheVariants as M
use Rattle.spec_trees.specs.declared.tree.Verdict.TheVariants.{Clear, One, Split, Undecided}
use Rattle.spec_trees.specs.Cuts.{cut_of, is_wide}
use Rattle.spec_trees.specs.Tree.{IsValid, leaves, mark_of, width}
use Rattle.spec_trees.proofs.Covering.{leaves_cover}
use Rattle.spec_trees.proofs.Leaves.{leaves_settled, leaves_split}
use Rattle.spec_events.specs.Soundness.{findings_of}
use Rattle.spec_events.specs.Verdict.{Criteria, Findings, is_clear, is_one, is_split, turn_to, verdict}
use Rattle.spec_searches.specs.Found.{rules}
use Rattle.spec_searches.specs.Search.{Search, IsSearch, border_in, criteria, crosses, evidence_at, parts, parts_at, parts_by, verdict_of}
use Rattle.spec_searches.proofs.Parts.{rules_are_sound}
use Rattle.spec_bounds.proofs.Quiet.{open_by_fit}
use Rattle.spec_stills.specs.declared.still.StillSpan.{StillSpan}
use Rattle.spec_stills.specs.Still.{HasWider, IsStill, is_fine_enough, is_half, is_near_enough, lies_in, serves}
use Rattle.spec_stills.specs.Weights.{fewest_halvings, halvings_of}
use Rattle.spec_stills.proofs.Blocks.{IsClearBlock, block_within, both_clear, one_clear}

-- so often doubled
abbrev doubled : ℕ → ℕ → ℕ
doubled zero m = m
doubled (suc k) m = doubled k m + doubled k m

doubled_is : (k m : ℕ) → doubled k m ≡ 2 ^ k * m
doubled_is zero m = omega arith
doubled_is (suc k) m =
    let below = doubled_is k m in
    let more : 2 ^ suc k ≡ 2 ^ k * 2 = pow-suc 2 k in
    let product : 2 ^ suc k * m ≡ (2 ^ k * m) * 2 = ap (λ (p : ℕ). p * m) more ∙ mul_right_comm (2 ^ k) 2 m in
    omega (arith, below, product)

some_doubled : (k m : ℕ) → 0 < m → 0 < doubled k m
some_doubled zero m some = some
some_doubled (suc k) m some = let below = some_doubled k m some in omega (arith, below)

-- ---- the fewest halvings, which are no more than so many, and do where these do
fewer_by : (h k : ℕ) (b : Bool) → h ≤ k → (if b then h else suc k) ≤ suc k
fewer_by h k true fewer = omega (arith, fewer)
fewer_by h k false fewer = omega arith

no_more_halvings : (m w k : ℕ) → fewest_halvings m w k ≤ k
no_more_halvings m w zero = omega arith
no_more_halvings m w (suc k) = fewer_by (fewest_halvings m w k) k (nat_le w (2 ^ k * m)) (no_more_halvings m w k)

enough_by : (m w h k : ℕ) (b : Bool) → nat_le w (2 ^ k * m) ≡ b → w ≤ (2 ^ suc k * m) → (w ≤ (2 ^ k * m) → w ≤ (2 ^ h * m))
    → w ≤ (2 ^ (if b then h else suc k) * m)
enough_by m w h k true e all fewer = fewer (leb-true w (2 ^ k * m) e)
enough_by m w h k false e all fewer = all

enough_halvings : (m w k : ℕ) → w ≤ (2 ^ k * m) → w ≤ (2 ^ fewest_halvings m w k * m)
enough_halvings m w zero all = all
enough_halvings m w (suc k) all = enough_by m w (fewest_halvings m w k) k (nat_le w (2 ^ k * m)) refl all (enough_halvings m w k)

-- ---- verdicts
pub not_one : (p q r : Bool) → q ≡ false → (p && (q && r)) ≡ false
not_one p q r e = grind arith

pub is_split_by : (w x y z : Bool) → w ≡ true → y ≡ true → z ≡ true → (w && (x || (y && z))) ≡ true
is_split_by w x y z e f g = grind arith

pub clear_or_split : (c : Criteria) (n : Node) (f : Findings) → is_one c n f ≡ false → is_split c n f ≡ true → (verdict c n f ≡ Clear) ⊎ (verdict c n f ≡ Split)
unfolding verdict
clear_or_split c n f one split = by (is_clear c n f) (is_one c n f) (is_split c n f) one split
  where
    by : (p q r : Bool) → q ≡ false → r ≡ true
        → ((if p then Clear else if q then One (turn_to f.at_last) else if r then Split else Undecided) ≡ Clear)
        ⊎ ((if p then Clear else if q then One (turn_to f.at_last) else if r then Split else Undecided) ≡ Split)
    by true q r e g = inl refl
    by false true r e g = cc
    by false false true e g = inr refl
    by false false false e g = cc

pub wide_by_width : (a b : ℤ) → a <ℤ b → 1 < unsigned_abs (b -ℤ a) → int_lt (pos 1) (b -ℤ a) ≡ true
wide_by_width a b inside w = grind (arith, ints)

-- ---- halves
half_is : (rule : CutRule) → is_half rule ≡ true → rule ≡ Half
half_is Half e = refl
half_is Third e = cc

none_is : (found : Option ℤ) → is_some found ≡ false → found ≡ None
none_is None e = refl
none_is (Some t) e = cc

-- the first half is no wider than the second, and together they are the whole
left_width : (a b : ℤ) (m : ℕ) → a <ℤ b → unsigned_abs (b -ℤ a) ≤ (m + m) → unsigned_abs ((a +ℤ int_div (b -ℤ a) (pos 2)) -ℤ a) ≤ m
left_width a b m inside narrow = omega (arith, ints, inside, narrow)

right_width : (a b : ℤ) (m : ℕ) → a <ℤ b → unsigned_abs (b -ℤ a) ≤ (m + m) → unsigned_abs (b -ℤ (a +ℤ int_div (b -ℤ a) (pos 2))) ≤ m
right_width a b m inside narrow = omega (arith, ints, inside, narrow)

after_first : (a b : ℤ) → a <ℤ b → a ≤ℤ (a +ℤ int_div (b -ℤ a) (pos 2))
after_first a b inside = omega (arith, ints, inside)

before_last : (a b : ℤ) → a <ℤ b → (a +ℤ int_div (b -ℤ a) (pos 2)) ≤ℤ b
before_last a b inside = omega (arith, ints, inside)

-- what holds a node that is wider than so much is wider than so much
wider_around : (a b from upto : ℤ) (m : ℕ) → from ≤ℤ a → a <ℤ b → b ≤ℤ upto → m < unsigned_abs (b -ℤ a) → m < unsigned_abs (upto -ℤ from)
wider_around a b from upto m after inside before wider = omega (arith, ints, after, inside, before, wider)

module _ (s : Search) (x : StillSpan) where
  -- it lies in the span, and halved so often it is as narrow as the span asks, no deeper than the depth
  record IsNear (k : ℕ) (n : Node) : Type 0 where
    from : x.from ≤ℤ n.a
    upto : n.b ≤ℤ x.upto
    narrow : width n ≤ doubled k x.widest
    deep : (n.depth + k) ≤ s.depth

  record AreNear (k : ℕ) (both : Node × Node) : Type 0 where
    left : IsNear k both.0
    right : IsNear k both.1

  halves_near : (k : ℕ) (n : Node) → IsValid (rules s) n → IsNear (suc k) n → AreNear k (parts_at (cut_of Half n.a n.b) (n.depth + 1) n)
  halves_near k n valid near =
      let inside = valid.inside in
      let from = near.from in
      let upto = near.upto in
      let deep = near.deep in
      let after = after_first n.a n.b inside in
      let before = before_last n.a n.b inside in
      record {
        left = record {
          from = from;
          upto = omega (arith, ints, before, upto);
          narrow = left_width n.a n.b (doubled k x.widest) inside near.narrow;
          deep = omega (arith, deep);
        };
        right = record {
          from = omega (arith, ints, after, from);
          upto = upto;
          narrow = right_width n.a n.b (doubled k x.widest) inside near.narrow;
          deep = omega (arith, deep);
        };
      }

  module _ (is : IsSearch s) (still : IsStill s x) (half : is_half s.cut ≡ true) (fine : s.width ≤ x.widest) where
    -- no border lies in a node within the span, if that has room for nodes that are wider than it asks
    open_node : HasWider x → (n : Node) → IsValid (rules s) n → x.from ≤ℤ n.a → n.b ≤ℤ x.upto → crosses s n ≡ false
    open_node room n valid from upto =
        let inside = valid.inside in
        open_by_fit s n is (record {
          view = is.view;
          ordered = omega (arith, ints, inside);
          from = valid.from;
          upto = valid.to;
          no_border = λ t there.
              let after = there.after in
              let before = there.upto in
              still.no_border room t (record {
                number = there.number;
                listed = there.listed;
                border = there.border;
                after = omega (arith, ints, after, from);
                upto = omega (arith, ints, before, upto);
              });
        })

    -- one that is wider than the span asks, and not as deep as the depth
    wider_verdict : (n : Node) → IsValid (rules s) n → x.widest < width n → n.depth < s.depth → (verdict_of s n ≡ Clear) ⊎ (verdict_of s n ≡ Split)
    unfolding verdict_of
    wider_verdict n valid wider above =
        let some = is.some_width in
        let wide = wide_by_width n.a n.b valid.inside (omega (arith, wider, fine, some)) in
        let more = lt-ltb s.width (width n) (omega (arith, wider, fine)) in
        let narrow = not_narrow s.width (width n) (omega (arith, wider, fine)) in
        clear_or_split (criteria s) n (findings_of (evidence_at s n)) (not_one _ (nat_le (width n) s.width) _ narrow)
        (is_split_by (is_wide n) (crosses s n) (nat_lt s.width (width n)) (nat_lt n.depth s.depth) wide more (lt-ltb n.depth s.depth above))
      where
        not_narrow : (w v : ℕ) → w < v → nat_le v w ≡ false
        not_narrow w v below = grind (arith, ints)

    parts_are_halves : HasWider x → (n : Node) → IsValid (rules s) n → x.from ≤ℤ n.a → n.b ≤ℤ x.upto → parts s n ≡ parts_at (cut_of Half n.a n.b) (n.depth + 1) n
    parts_are_halves room n valid from upto =
        ap (λ (rule : CutRule). parts_by rule (border_in s n) n) (half_is s.cut half)
        ∙ ap (λ (found : Option ℤ). parts_by Half found n) (none_is (border_in s n) (open_node room n valid from upto))

    by_clear : (k : ℕ) (n : Node) → IsValid (rules s) n → verdict_of s n ≡ Clear → IsClearBlock (doubled k 1) (leaves (rules s) n)
    by_clear k n valid clear =
        subst (IsClearBlock (doubled k 1)) (sym (leaves_settled (rules s) (rules_are_sound s is.view) n valid M.Clear (ap mark_of clear)))
        (one_clear (doubled k 1) n (some_doubled k 1 (omega arith)))

    by_verdict : HasWider x → (k : ℕ) (n : Node) → IsValid (rules s) n → IsNear (suc k) n
        → ((i : Node) → IsValid (rules s) i → IsNear k i → IsClearBlock (doubled k 1) (leaves (rules s) i))
        → (verdict_of s n ≡ Clear) ⊎ (verdict_of s n ≡ Split) → IsClearBlock (doubled (suc k) 1) (leaves (rules s) n)
    by_verdict room k n valid near below (inl clear) = by_clear (suc k) n valid clear
    by_verdict room k n valid near below (inr split) =
        let sound = rules_are_sound s is.view in
        let cut = sound.cut n valid split in
        let parts_near = subst (AreNear k) (sym (parts_are_halves room n valid near.from near.upto)) (halves_near k n valid near) in
        subst (IsClearBlock (doubled (suc k) 1)) (sym (leaves_split (rules s) sound n valid split))
        (both_clear (doubled k 1) (doubled k 1) (leaves (rules s) (parts s n).0) (leaves (rules s) (parts s n).1)
        (below (parts s n).0 cut.left parts_near.left) (below (parts s n).1 cut.right parts_near.right))

    by_width : (k : ℕ) (n : Node) → IsValid (rules s) n → IsNear (suc k) n
        → ((i : Node) → IsValid (rules s) i → IsNear k i → IsClearBlock (doubled k 1) (leaves (rules s) i))
        → (x.widest < width n) ⊎ (width n ≤ x.widest) → IsClearBlock (doubled (suc k) 1) (leaves (rules s) n)
    by_width k n valid near below (inl wider) =
        let deep = near.deep in
        by_verdict (wider_around n.a n.b x.from x.upto x.widest near.from valid.inside near.upto wider) k n valid near below
        (wider_verdict n valid wider (omega (arith, deep)))
    by_width k n valid near below (inr narrow) = by_clear (suc k) n valid (still.clear n valid near.from near.upto narrow)

    halved_is_clear : (k : ℕ) (n : Node) → IsValid (rules s) n → IsNear k n → IsClearBlock (doubled k 1) (leaves (rules s) n)
    halved_is_clear zero n valid near = by_clear zero n valid (still.clear n valid near.from near.upto near.narrow)
    halved_is_clear (suc k) n valid near = by_width k n valid near (halved_is_clear k) (cases_lt x.widest (width n))

  served_near : (n : Node) → lies_in x n ≡ true → is_near_enough s x n ≡ true → IsNear (halvings_of x n) n
  served_near n lies near =
      let ends = and_parts (int_le x.from n.a) (int_le n.b x.upto) lies in
      let tests = and_parts (nat_le (width n) (2 ^ x.halvings * x.widest)) (nat_le (n.depth + x.halvings) s.depth) near in
      let narrow = enough_halvings x.widest (width n) x.halvings (leb-true (width n) (2 ^ x.halvings * x.widest) tests.0) in
      let same = doubled_is (halvings_of x n) x.widest in
      let deep = leb-true (n.depth + x.halvings) s.depth tests.1 in
      let fewer = no_more_halvings x.widest (width n) x.halvings in
      record {
        from = no_later x.from n.a ends.0;
        upto = no_later n.b x.upto ends.1;
        narrow = omega (arith, narrow, same);
        deep = omega (arith, deep, fewer);
      }
    where
      no_later : (t u : ℤ) → int_le t u ≡ true → t ≤ℤ u
      no_later t u e = grind (arith, ints)

  pub served_is_clear : (n : Node) → IsSearch s → IsStill s x → IsValid (rules s) n → serves s x n ≡ true → IsClearBlock (min (2 ^ halvings_of x n) (width n)) (leaves (rules s) n)
  served_is_clear n is still valid e =
      let outer = and_parts (lies_in x n) (is_near_enough s x n && is_fine_enough s x) e in
      let inner = and_parts (is_near_enough s x n) (is_fine_enough s x) outer.1 in
      let tests = and_parts (is_half s.cut) (nat_le s.width x.widest) inner.1 in
      block_within (2 ^ halvings_of x n) n (leaves (rules s) n)
      (subst (λ (most : ℕ). IsClearBlock most (leaves (rules s) n)) (doubled_is (halvings_of x n) 1 ∙ mul-one (2 ^ halvings_of x n))
      (halved_is_clear is still tests.0 (leb-true s.width x.widest tests.1) (halvings_of x n) n valid (served_near n outer.0 inner.0)))
      (leaves_cover (rules s) (rules_are_sound s is.view) n valid)

pub still_within : (s : Search) (x y : StillSpan) → IsStill s x → x.from ≤ℤ y.from → y.upto ≤ℤ x.upto → y.widest ≤ x.widest → (HasWider y → HasWider x)
    → y.sign ≡ x.sign → IsStill s y
still_within s x y still from upto widest room sign = record {
  no_border = λ wider t border.
      let after = border.after in
      let before = border.upto in
      still.no_border (room wider) t (record {
        number = border.number;
        listed = border.listed;
        border = border.border;
        after = omega (arith, ints, after, from);
        upto = omega (arith, ints, before, upto);
      });
  clear = λ n valid after before narrow.
      still.clear n valid (omega (arith, ints, after, from)) (omega (arith, ints, before, upto)) (omega (arith, narrow, widest));
  signs = λ t after before. still.signs t (omega (arith, ints, after, from)) (omega (arith, ints, before, upto)) ∙ sym sign;
}
