-- Which nodes are split, and which are left undecided, whatever is found at them.
use Rattle.std.proofs.Common.{◌≡◌, ◌<◌, ◌≤◌, ◌⊎◌, inl, inr, arith, refl, Bool, true, false, ◌&&◌, ◌||◌, nat_lt, int_lt, ℤ, pos, ◌-ℤ◌, ◌<ℤ◌, unsigned_abs}
use Rattle.std.specs.Prelude.{if◌then◌else◌}
use Rattle.std.proofs.lemmas.Int.{ints}
use Rattle.std.proofs.lemmas.Bool.{and_cases, ltb-false, or_parts}
use Rattle.spec_trees.specs.declared.tree.Node.{Node}
use Rattle.spec_trees.specs.declared.tree.Verdict.TheVariants.{Clear, One, Split, Undecided}
use Rattle.spec_trees.specs.Cuts.{is_wide}
use Rattle.spec_trees.specs.Tree.{width}
use Rattle.spec_events.specs.Verdict.{Criteria, Findings, is_clear, is_one, is_split, turn_to, verdict}

pub border_splits : (c : Criteria) (n : Node) (f : Findings) → f.crosses ≡ true → is_wide n ≡ true → verdict c n f ≡ Split
unfolding verdict
border_splits c n f k w = rw (k, w) refl

narrow_width : (a b : ℤ) → a <ℤ b → int_lt (pos 1) (b -ℤ a) ≡ false → unsigned_abs (b -ℤ a) ≤ 1
narrow_width a b h w = grind (arith, ints)

at_limit : (c : Criteria) (n : Node) (f : Findings) → n.a <ℤ n.b → 0 < c.width → is_split c n f ≡ false → (width n ≤ c.width) ⊎ (c.depth ≤ n.depth)
at_limit c n f h some e = by (and_cases (is_wide n) (f.crosses || (nat_lt c.width (width n) && nat_lt n.depth c.depth)) e)
  where
    by_test : (nat_lt c.width (width n) ≡ false) ⊎ (nat_lt n.depth c.depth ≡ false) → (width n ≤ c.width) ⊎ (c.depth ≤ n.depth)
    by_test (inl e) = inl (ltb-false c.width (width n) e)
    by_test (inr e) = inr (ltb-false n.depth c.depth e)

    by : (is_wide n ≡ false) ⊎ ((f.crosses || (nat_lt c.width (width n) && nat_lt n.depth c.depth)) ≡ false) → (width n ≤ c.width) ⊎ (c.depth ≤ n.depth)
    by (inl w) = let narrow = narrow_width n.a n.b h w in inl (omega (arith, narrow, some))
    by (inr e) =
        let x = or_parts f.crosses (nat_lt c.width (width n) && nat_lt n.depth c.depth) e in
        by_test (and_cases (nat_lt c.width (width n)) (nat_lt n.depth c.depth) x.1)

pub undecided_at_limit : (c : Criteria) (n : Node) (f : Findings) → n.a <ℤ n.b → 0 < c.width → verdict c n f ≡ Undecided → (width n ≤ c.width) ⊎ (c.depth ≤ n.depth)
unfolding verdict
undecided_at_limit c n f h some e = by (is_clear c n f) (is_one c n f) (is_split c n f) refl e
  where
    by : (p q r : Bool) → is_split c n f ≡ r → (if p then Clear else if q then One (turn_to f.at_last) else if r then Split else Undecided) ≡ Undecided → (width n ≤ c.width) ⊎ (c.depth ≤ n.depth)
    by true q r k e = cc
    by false true r k e = cc
    by false false true k e = cc
    by false false false k e = at_limit c n f h some k

-- a node that is split is wide, and a border falls into it or it is not as deep as the depth
pub split_may_be_cut : (c : Criteria) (n : Node) (f : Findings) → verdict c n f ≡ Split → (is_wide n && (f.crosses || nat_lt n.depth c.depth)) ≡ true
unfolding verdict
split_may_be_cut c n f e = by (is_clear c n f) (is_one c n f) (is_split c n f) refl e
  where
    wider : (w x y z : Bool) → (w && (x || (y && z))) ≡ true → (w && (x || z)) ≡ true
    wider w x y z e = grind arith

    by : (p q r : Bool) → is_split c n f ≡ r → (if p then Clear else if q then One (turn_to f.at_last) else if r then Split else Undecided) ≡ Split → (is_wide n && (f.crosses || nat_lt n.depth c.depth)) ≡ true
    by true q r k e = cc
    by false true r k e = cc
    by false false true k e = wider (is_wide n) f.crosses (nat_lt c.width (width n)) (nat_lt n.depth c.depth) k
    by false false false k e = cc
