-- A walk over leaves that gives each time its sign.
use Rattle.std.proofs.Common.{◌≡◌, List, [], ◌∷◌, ℤ, pos, ◌+ℤ◌, ◌-ℤ◌, ◌≤ℤ◌, ◌<ℤ◌, refl, ap, sym, ◌∙◌, subst, ℕ, ◌+◌, ◌<◌, ◌≤◌, length, drop, get_or, arith}
use Rattle.std.proofs.lemmas.Int.{ints}
use Rattle.spec_intervals.specs.declared.signs.Sign.{Sign}
use Rattle.spec_trees.specs.declared.tree.Leaf.{Leaf}
use Rattle.spec_trees.specs.declared.tree.Mark.TheVariants.{Clear}
use Rattle.spec_trees.specs.Tree.{Covers}
use Rattle.spec_trees.proofs.Placing.{covers_forward}
use Rattle.spec_sets.specs.Spans.{IsAfterAll, Span, earliest, has, latest}
use Rattle.spec_sets.specs.Pairs.{AreOf}
use Rattle.spec_sets.specs.Signs.{Follow, end_from, sign_in, sign_of_leaves}
use Rattle.spec_sets.proofs.Members.{le_not, le_test}
use Rattle.gf_sets.specs.Adding.{AreAdded, ComesNext}
use Rattle.gf_sets.specs.Walking.{IsWalked, begins}
use Rattle.std.proofs.lemmas.Bool.{false≢true}
use Rattle.std.proofs.lemmas.List.{drop_all}
use Rattle.gf_sets.proofs.Pairs.{ends_before, longer_by, none_yet}
use Rattle.gf_sets.proofs.Reading.{split_at}

-- where leaves begin that cover the times from one to another
begin_is : (a b : ℤ) (ls : List Leaf) → Covers a ls b → begins ls b ≡ a
begin_is a b [] c = sym c
begin_is a b (l ∷ ls) c = c.0

-- the first time alone
pub first_walked : (point : ℤ → Sign) (from : ℤ) (leaves : List Leaf) (sure maybe : List Span) → Follow from leaves
    → AreOf (sign_of_leaves point from leaves) from from sure maybe → IsWalked point from (end_from from leaves) leaves leaves sure maybe
first_walked point from leaves sure maybe follow are =
    let at = begin_is from (end_from from leaves) leaves follow in
    record {
      ordered = omega (arith, ints, at);
      covers = subst (λ (z : ℤ). Covers z leaves (end_from from leaves)) (sym at) follow;
      same = λ t after. refl;
      sets = subst (λ (z : ℤ). AreOf (sign_of_leaves point from leaves) from z sure maybe) (sym at) are;
    }

-- the sign at the first time
pub first_sign : (point : ℤ → Sign) (from : ℤ) (leaves : List Leaf) (t : ℤ) → from ≤ℤ t → t ≤ℤ from → sign_of_leaves point from leaves t ≡ point from
first_sign point from leaves t low high = rw (le_test t from high) refl

module _ (point : ℤ → Sign) (from upto : ℤ) (leaves : List Leaf) (l : Leaf) (rest : List Leaf) (sure maybe : List Span) (walked : IsWalked point from upto leaves (l ∷ rest) sure maybe) where
  wide : l.node.a <ℤ l.node.b
  wide = walked.covers.1

  leaf_upto : l.node.b ≤ℤ upto
  leaf_upto = covers_forward rest l.node.b upto walked.covers.2

  leaf_wide : l.node.a <ℤ l.node.b
  leaf_wide = walked.covers.1

  leaf_after : from ≤ℤ l.node.a
  leaf_after = walked.ordered

  -- its times come after all so far
  sets_end : IsAfterAll sure (l.node.a +ℤ pos 1) × IsAfterAll maybe (l.node.a +ℤ pos 1)
  sets_end = ends_before (sign_of_leaves point from leaves) from l.node.a sure maybe walked.sets

  -- the sign at its times
  sign_here : (t : ℤ) → (l.node.a +ℤ pos 1) ≤ℤ t → t ≤ℤ l.node.b → sign_of_leaves point from leaves t ≡ sign_in point l.node l.mark t
  sign_here t after before =
      let first = walked.ordered in
      let late : from <ℤ t = omega (arith, ints, first, after) in
      rw (le_not t from late) (walked.same t (omega (arith, ints, after)) ∙ rw (le_test t l.node.b before) refl)

  walked_on : (s m : List Span) → AreAdded (sign_in point l.node l.mark) (l.node.a +ℤ pos 1) l.node.b sure maybe s m → IsWalked point from upto leaves rest s m
  walked_on s m added =
      let at = begin_is l.node.b upto rest walked.covers.2 in
      let first = walked.ordered in
      record {
        ordered = omega (arith, ints, at, first, wide);
        covers = subst (λ (z : ℤ). Covers z rest upto) (sym at) walked.covers.2;
        same = λ t after. walked.same t (omega (arith, ints, at, wide, after)) ∙ rw (le_not t l.node.b (omega (arith, ints, at, after))) refl;
        sets = subst (λ (z : ℤ). AreOf (sign_of_leaves point from leaves) from z s m) (sym at)
            (longer_by (sign_of_leaves point from leaves) (sign_in point l.node l.mark) from (l.node.a +ℤ pos 1) l.node.b sure maybe s m
            (omega (arith, ints, first)) (omega (arith, ints, wide))
            (subst (λ (z : ℤ). AreOf (sign_of_leaves point from leaves) from z sure maybe) (before_next l.node.a) walked.sets) added sign_here);
      }
    where
      before_next : (a : ℤ) → a ≡ (a +ℤ pos 1) -ℤ pos 1
      before_next a = omega (arith, ints)

-- ---- as the code reads it
-- what stands for a leaf past the end of a list
abbrev pub filler : Leaf
filler = record { node = record { a = pos 0; b = pos 0; depth = 0 }; mark = Clear }

-- no times come before any
pub none_before : (spans : List Span) (first : ℤ) → spans ≡ [] → IsAfterAll spans first
none_before spans first none = λ t is. absurd (false≢true (sym (ap (λ (xs : List Span). has xs t) none) ∙ is))

-- the two sets after the first time
pub first_are : (point : ℤ → Sign) (from : ℤ) (leaves : List Leaf) (x : Sign) (none nothing s m : List Span) → none ≡ [] → nothing ≡ [] → x ≡ point from
    → AreAdded (λ t. x) from from none nothing s m → AreOf (sign_of_leaves point from leaves) from from s m
first_are point from leaves x none nothing s m e f is added =
    longer_by (sign_of_leaves point from leaves) (λ t. x) from from from [] [] s m (omega (arith, ints)) (omega (arith, ints))
    (none_yet (sign_of_leaves point from leaves) from)
    (subst (λ (zs : List Span). AreAdded (λ t. x) from from [] zs s m) f (subst (λ (zs : List Span). AreAdded (λ t. x) from from zs nothing s m) e added))
    (λ t low high. first_sign point from leaves t low high ∙ sym is)

module _ (point : ℤ → Sign) (read from : ℤ) (same : read ≡ from) (leaves : List Leaf) (i : ℕ) (sure maybe : List Span)
    (so_far : IsWalked point read (end_from read leaves) leaves (drop i leaves) sure maybe) where
  renamed : IsWalked point from (end_from from leaves) leaves (drop i leaves) sure maybe
  renamed = subst (λ (z : ℤ). IsWalked point z (end_from z leaves) leaves (drop i leaves) sure maybe) same so_far

  leaf_here : (d : Leaf) → i < length leaves → IsWalked point from (end_from from leaves) leaves (get_or leaves i d ∷ drop (i + 1) leaves) sure maybe
  leaf_here d within = subst (λ (rest : List Leaf). IsWalked point from (end_from from leaves) leaves rest sure maybe) (split_at leaves i d within) renamed

  pub all_walked : length leaves ≤ i → AreOf (sign_of_leaves point from leaves) from (end_from from leaves) sure maybe
  all_walked past = (subst (λ (rest : List Leaf). IsWalked point from (end_from from leaves) leaves rest sure maybe) (drop_all i leaves past) renamed).sets

  -- the leaf at that place
  module _ (within : i < length leaves) where
    abbrev pub here : Leaf
    here = get_or leaves i filler

    walked : IsWalked point from (end_from from leaves) leaves (here ∷ drop (i + 1) leaves) sure maybe
    walked = leaf_here filler within

    here_wide : here.node.a <ℤ here.node.b
    here_wide = leaf_wide point from (end_from from leaves) leaves here (drop (i + 1) leaves) sure maybe walked

    here_from : from ≤ℤ here.node.a
    here_from = leaf_after point from (end_from from leaves) leaves here (drop (i + 1) leaves) sure maybe walked

    pub here_upto : here.node.b ≤ℤ end_from from leaves
    here_upto = leaf_upto point from (end_from from leaves) leaves here (drop (i + 1) leaves) sure maybe walked

    pub here_after : from ≤ℤ here.node.b
    here_after =
        let wide = here_wide in
        let after = here_from in
        omega (arith, ints, wide, after)

    sets_before : IsAfterAll sure (here.node.a +ℤ pos 1) × IsAfterAll maybe (here.node.a +ℤ pos 1)
    sets_before = sets_end point from (end_from from leaves) leaves here (drop (i + 1) leaves) sure maybe walked

    pub here_next : earliest ≤ℤ from → end_from from leaves ≤ℤ latest → ComesNext here.node sure maybe
    here_next early late =
        let first = here_from in
        let upto = here_upto in
        record {
          wide = here_wide;
          early = omega (arith, ints, first, early);
          late = omega (arith, ints, upto, late);
          after_sure = sets_before.0;
          after_maybe = sets_before.1;
        }

    pub here_walked : (s m : List Span) → AreAdded (sign_in point here.node here.mark) (here.node.a +ℤ pos 1) here.node.b sure maybe s m
        → IsWalked point read (end_from read leaves) leaves (drop (i + 1) leaves) s m
    here_walked s m added =
        subst (λ (z : ℤ). IsWalked point z (end_from z leaves) leaves (drop (i + 1) leaves) s m) (sym same)
        (walked_on point from (end_from from leaves) leaves here (drop (i + 1) leaves) sure maybe walked s m added)
