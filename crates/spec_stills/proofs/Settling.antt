-- The settled leaves of an eager tree beside those of the tree.
use Rattle.std.proofs.Common.{◌≡◌, inl, inr, All, List, [], ◌∷◌, ◌++◌, Bool, true, false, ◌&&◌, Some, ℤ, ◌≤ℤ◌, ◌<ℤ◌, refl, sym, ap, ◌∙◌, subst, subst₂, arith}
use Rattle.std.specs.Prelude.{if◌then◌else◌, map}
use Rattle.std.specs.List.{list_any}
use Rattle.std.proofs.lemmas.Int.{ints}
use Rattle.std.proofs.lemmas.List.{length-map, map-append}
use Rattle.std.proofs.lemmas.List.Elements.{All-cons, All-head, All-nil, All-tail}
use Rattle.spec_trees.specs.declared.tree.Leaf.{Leaf}
use Rattle.spec_trees.specs.declared.tree.Mark.{Mark}
use Rattle.spec_trees.specs.declared.tree.Mark.TheVariants as M
use Rattle.spec_trees.specs.declared.tree.Node.{Node}
use Rattle.spec_trees.specs.declared.tree.Turn.{Turn}
use Rattle.spec_trees.specs.declared.tree.Turn.TheVariants.{Rise, Fall}
use Rattle.spec_trees.specs.declared.tree.Verdict.{Verdict}
use Rattle.spec_trees.specs.declared.tree.Verdict.TheVariants.{Clear, One, Split, Undecided}
use Rattle.spec_trees.specs.declared.window.Holds.TheVariants as H
use Rattle.spec_trees.specs.Tree.{AreLeaves, Covers, IsCut, IsLeaf, IsValid, leaf_of, leaves, mark_of}
use Rattle.spec_trees.specs.Windows.{is_undecided, window_of, windows}
use Rattle.spec_trees.proofs.Covering.{leaves_are, leaves_cover}
use Rattle.spec_trees.proofs.Leaves.{leaves_settled, leaves_split}
use Rattle.spec_trees.proofs.Placing.{covers_forward}
use Rattle.spec_events.specs.Events.{HasNoEvent, HoldsOne, IsEvent}
use Rattle.spec_events.specs.Stages.{is_above_limits}
use Rattle.spec_searches.specs.Found.{rules}
use Rattle.spec_searches.specs.Search.{Search, IsSearch, criteria, events, parts, verdict_of}
use Rattle.spec_searches.proofs.Finding.{clear_holds_none, one_holds_one}
use Rattle.spec_searches.proofs.Parts.{rules_are_sound}
use Rattle.spec_stills.specs.declared.still.StillSpan.{StillSpan}
use Rattle.spec_stills.specs.Still.{AreClear, IsStill, is_served}
use Rattle.spec_stills.proofs.Served.{served_block}
use Rattle.spec_stills.specs.Eager.{begin_in, eager_rules, eager_verdict}
use Rattle.spec_stills.proofs.EagerInduction.{along_eager_tree}
use Rattle.spec_stills.proofs.Sound.{eager_sound, served_verdict, valid_eager, valid_fine}
use Rattle.spec_stills.specs.Settled.{clears, is_cleared, settled, settled_by, settled_leaves}
use Rattle.spec_stills.proofs.Alike.{AreAlike, alike_back, alike_clear, alike_itself, both_alike, same_windows}
use Rattle.spec_stills.proofs.Cleared.{IsBetween, all_between, cleared_by_one, cleared_left, cleared_right, same_map, some_leaves}

-- ---- a leaf with one event lies in no node that holds none
module _ (E : Turn → ℤ → Type 0) where
  happens : (turn : Turn) (t : ℤ) → E turn t → IsEvent E t
  happens Rise t e = inl e
  happens Fall t e = inr e

  none_with_one : (turn : Turn) (n : Node) → HoldsOne E turn (window_of n (H.Certain turn)) → HasNoEvent E n.a n.b → ⊥
  none_with_one turn n one none =
      let from = one.inside.from in
      let to = one.inside.to in
      none one.time (omega (arith, ints, from)) to (happens turn one.time one.turns)

judged_one : (p q : Bool) (v : Verdict) (turn : Turn) → mark_of (if p then Clear else if q then Split else v) ≡ Some (M.One turn) → v ≡ One turn
judged_one true q v turn e = absurd (cc)
judged_one false true v turn e = absurd (cc)
judged_one false false Clear turn e = absurd (cc)
judged_one false false (One other) turn e = cc
judged_one false false Split turn e = absurd (cc)
judged_one false false Undecided turn e = absurd (cc)

-- ---- one leaf, by whether it lies in a clear one
clear_by : (m : Mark) (n : Node) (b : Bool) → b ≡ true → ((turn : Turn) → m ≡ M.One turn → ⊥) → (settled_by b (leaf_of n m)).mark ≡ M.Clear
clear_by M.Clear n b e none = refl
clear_by (M.One turn) n b e none = absurd (none turn refl)
clear_by M.Undecided n b e none = ap (λ (c : Bool). (settled_by c (leaf_of n M.Undecided)).mark) e

-- a leaf of the tree stays as it is
kept : (m : Mark) (n : Node) → settled_by (list_any (clears n) (leaf_of n m ∷ [])) (leaf_of n m) ≡ leaf_of n m
kept M.Clear n = refl
kept (M.One turn) n = refl
kept M.Undecided n = refl

module _ (s : Search) (xs : List StillSpan) (is : IsSearch s) where
  leaf_holds_one : (l : Leaf) → IsLeaf (eager_rules s xs) l → (turn : Turn) → l.mark ≡ M.One turn → HoldsOne (events s) turn (window_of l.node (H.Certain turn))
  leaf_holds_one l leaf turn one =
      one_holds_one s is l.node (valid_fine s xs l.node leaf.valid) turn
      (judged_one (is_served s xs l.node) (begin_in xs l.node && is_above_limits (criteria s) l.node) (verdict_of s l.node) turn (leaf.marked ∙ ap Some one))

  -- leaves over times without an event, which lie in a clear leaf
  all_clear : (root : Node) → ((n : Node) → root.a ≤ℤ n.a → n.b ≤ℤ root.b → is_cleared s root n ≡ true)
      → (ls : List Leaf) (a b : ℤ) → Covers a ls b → AreLeaves (eager_rules s xs) ls → root.a ≤ℤ a → b ≤ℤ root.b → HasNoEvent (events s) a b
      → AreClear (map (settled s root) ls)
  all_clear root cleared [] a b cover are from to none = All-nil (λ (l : Leaf). l.mark ≡ M.Clear)
  all_clear root cleared (l ∷ ls) a b cover are from to none =
      let begins = cover.0 in
      let some = cover.1 in
      let upto = covers_forward ls l.node.b b cover.2 in
      let none_here : HasNoEvent (events s) l.node.a l.node.b = λ t after before e. none t (omega (arith, ints, begins, after)) (omega (arith, ints, before, upto)) e in
      let none_later : HasNoEvent (events s) l.node.b b = λ t after before e. none t (omega (arith, ints, begins, some, after)) before e in
      All-cons (λ (m : Leaf). m.mark ≡ M.Clear) (settled s root l) (map (settled s root) ls)
      (clear_by l.mark l.node (is_cleared s root l.node) (cleared l.node (omega (arith, ints, begins, from)) (omega (arith, ints, upto, to)))
      (λ turn one. none_with_one (events s) turn l.node (leaf_holds_one l (All-head (IsLeaf (eager_rules s xs)) l ls are) turn one) none_here))
      (all_clear root cleared ls l.node.b b cover.2 (All-tail (IsLeaf (eager_rules s xs)) l ls are) (omega (arith, ints, begins, some, from)) to none_later)

  -- the settled leaves of a node beside those of its tree
  abbrev Alike : Node → Type 0
  Alike n = AreAlike (settled_leaves s xs n) (leaves (rules s) n)

  -- one that is clear
  clear_alike : (n : Node) → IsValid (rules s) n → verdict_of s n ≡ Clear → Alike n
  clear_alike n valid clear =
      let sound = eager_sound s xs is in
      let eager = valid_eager s xs n valid in
      let cover = leaves_cover (eager_rules s xs) sound n eager in
      let one = leaves_settled (rules s) (rules_are_sound s is.view) n valid M.Clear (ap mark_of clear) in
      let some = some_leaves (leaves (eager_rules s xs) n) n valid.inside cover in
      let many = length-map (leaves (eager_rules s xs) n) (settled s n) in
      subst (AreAlike (settled_leaves s xs n)) (sym one)
      (alike_back (leaf_of n M.Clear ∷ []) (settled_leaves s xs n)
      (alike_clear n (settled_leaves s xs n) (omega (arith, some, many))
      (all_clear n (λ i from upto. ap (list_any (clears i)) one ∙ cleared_by_one n i from upto)
      (leaves (eager_rules s xs) n) n.a n.b cover (leaves_are (eager_rules s xs) sound n eager) (omega (arith, ints)) (omega (arith, ints)) (clear_holds_none s is n valid clear))))

  -- ---- one that both trees split
  -- the leaves of a part, settled by the whole, are settled by the part
  module _ (n : Node) (valid : IsValid (rules s) n) (eager : eager_verdict s xs n ≡ Split) (split : verdict_of s n ≡ Split) where
    cut : IsCut (rules s) n
    cut = (rules_are_sound s is.view).cut n valid split

    part_same : (part : Node) → IsValid (rules s) part
        → ((l : Leaf) → IsBetween part.a part.b l → list_any (clears l.node) (leaves (rules s) (parts s n).0 ++ leaves (rules s) (parts s n).1) ≡ is_cleared s part l.node)
        → map (settled s n) (leaves (eager_rules s xs) part) ≡ settled_leaves s xs part
    part_same part fits cleared =
        same_map (IsBetween part.a part.b) (settled s n) (settled s part) (leaves (eager_rules s xs) part)
        (all_between (leaves (eager_rules s xs) part) part.a part.b (leaves_cover (eager_rules s xs) (eager_sound s xs is) part (valid_eager s xs part fits)))
        (λ l between. ap (λ (b : Bool). settled_by b l)
        (ap (list_any (clears l.node)) (leaves_split (rules s) (rules_are_sound s is.view) n valid split) ∙ cleared l between))

    left_same : map (settled s n) (leaves (eager_rules s xs) (parts s n).0) ≡ settled_leaves s xs (parts s n).0
    left_same =
        let right = (parts s n).1 in
        let meet = cut.cuts.meet in
        part_same (parts s n).0 cut.left (λ l between.
        let upto = between.upto in
        let inside = between.inside in
        cleared_left l.node between.inside (leaves (rules s) (parts s n).0) (leaves (rules s) right) right.a right.b
        (leaves_cover (rules s) (rules_are_sound s is.view) right cut.right) (omega (arith, ints, inside, upto, meet)))

    right_same : map (settled s n) (leaves (eager_rules s xs) (parts s n).1) ≡ settled_leaves s xs (parts s n).1
    right_same =
        let left = (parts s n).0 in
        let meet = cut.cuts.meet in
        part_same (parts s n).1 cut.right (λ l between.
        let from = between.from in
        cleared_right l.node between.inside (leaves (rules s) left) (leaves (rules s) (parts s n).1) left.a left.b
        (leaves_cover (rules s) (rules_are_sound s is.view) left cut.left) (omega (arith, ints, from, meet)))

    pub both_settled : settled_leaves s xs n ≡ settled_leaves s xs (parts s n).0 ++ settled_leaves s xs (parts s n).1
    both_settled =
        ap (map (settled s n)) (leaves_split (eager_rules s xs) (eager_sound s xs is) n (valid_eager s xs n valid) eager)
        ∙ map-append (settled s n) (leaves (eager_rules s xs) (parts s n).0) (leaves (eager_rules s xs) (parts s n).1)
        ∙ (λ i. left_same i ++ right_same i)

  split_alike : (n : Node) → IsValid (rules s) n → eager_verdict s xs n ≡ Split → verdict_of s n ≡ Split
      → Alike (parts s n).0 → Alike (parts s n).1 → Alike n
  split_alike n valid eager split left right =
      subst₂ AreAlike (sym (both_settled n valid eager split)) (sym (leaves_split (rules s) (rules_are_sound s is.view) n valid split))
      (both_alike _ _ _ _ left right)

  -- ---- one that both trees judge
  settled_alike : (n : Node) (m : Mark) → IsValid (rules s) n → eager_verdict s xs n ≡ verdict_of s n → mark_of (verdict_of s n) ≡ Some m → Alike n
  settled_alike n m valid same marked =
      let fine = leaves_settled (rules s) (rules_are_sound s is.view) n valid m marked in
      let eager = leaves_settled (eager_rules s xs) (eager_sound s xs is) n (valid_eager s xs n valid) m (ap mark_of same ∙ marked) in
      subst₂ AreAlike
      (sym (ap (map (settled s n)) eager
      ∙ ap (λ (ls : List Leaf). settled_by (list_any (clears n) ls) (leaf_of n m) ∷ []) fine
      ∙ ap (λ (l : Leaf). l ∷ []) (kept m n)))
      (sym fine)
      (alike_itself (leaf_of n m ∷ []))

  module _ (stills : All (IsStill s) xs) where
    served_alike : (n : Node) → IsValid (rules s) n → is_served s xs n ≡ true → Alike n
    served_alike n valid served =
        let block = served_block s n is valid xs stills served in
        subst (λ (ls : List Leaf). AreAlike ls (leaves (rules s) n))
        (sym (ap (map (settled s n)) (leaves_settled (eager_rules s xs) (eager_sound s xs is) n (valid_eager s xs n valid) M.Clear (ap mark_of (served_verdict s xs n served)))))
        (alike_clear n (leaves (rules s) n) block.some block.clear)

    pub settled_same : (n : Node) → IsValid (rules s) n → windows (settled_leaves s xs n) ≡ windows (leaves (rules s) n)
    settled_same n valid = same_windows (settled_leaves s xs n) (leaves (rules s) n)
        (along_eager_tree s xs is Alike served_alike clear_alike settled_alike split_alike n valid)

-- ---- where they stand
same_place : (b : Bool) (l : Leaf) → (settled_by b l).node ≡ l.node
same_place b l = by (is_undecided l.mark && b)
  where
    by : (clear : Bool) → (if clear then leaf_of l.node M.Clear else l).node ≡ l.node
    by true = refl
    by false = refl

covers_settled : (s : Search) (root : Node) (ls : List Leaf) (a b : ℤ) → Covers a ls b → Covers a (map (settled s root) ls) b
covers_settled s root [] a b cover = cover
covers_settled s root (l ∷ ls) a b cover =
    subst (λ (n : Node). (n.a ≡ a) × (n.a <ℤ n.b) × Covers n.b (map (settled s root) ls) b) (sym (same_place (is_cleared s root l.node) l))
    (cover.0, cover.1, covers_settled s root ls l.node.b b cover.2)

pub settled_cover : (s : Search) (xs : List StillSpan) (n : Node) → IsSearch s → IsValid (rules s) n → Covers n.a (settled_leaves s xs n) n.b
settled_cover s xs n is valid =
    covers_settled s n (leaves (eager_rules s xs) n) n.a n.b (leaves_cover (eager_rules s xs) (eager_sound s xs is) n (valid_eager s xs n valid))
