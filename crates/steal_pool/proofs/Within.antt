-- Rules whose valid nodes lie in a root.
use Rattle.std.proofs.Common.{◌≡◌, ap, sym, ◌∙◌, subst, arith}
use Rattle.std.proofs.lemmas.Int.{ints}
use Rattle.spec_trees.specs.declared.tree.Node.{Node}
use Rattle.spec_trees.specs.Tree.{Rules, IsSound, IsValid}
use Rattle.steal_pool.specs.Seats.{rules_within}

widen : (r : Rules) (root n : Node) → IsValid r root → IsValid (rules_within r root) n → IsValid r n
widen r root n v m = record { from = omega (arith, ints, v.from, m.from); inside = m.inside; to = omega (arith, ints, v.to, m.to); depth = m.depth }

within_sound : (r : Rules) (root : Node) → IsSound r → IsValid r root → IsSound (rules_within r root)
within_sound r root s v = record {
  low = omega (arith, ints, s.low, v.from);
  high = omega (arith, ints, s.high, v.to);
  cut = λ n m e. let c = s.cut n (widen r root n v m) e in record {
    cuts = c.cuts;
    left = record {
      from = omega (arith, ints, m.from, c.cuts.from);
      inside = c.left.inside;
      to = omega (arith, ints, c.cuts.meet, c.right.inside, c.cuts.to, m.to);
      depth = c.left.depth;
    };
    right = record {
      from = omega (arith, ints, m.from, c.cuts.from, c.left.inside, c.cuts.meet);
      inside = c.right.inside;
      to = omega (arith, ints, c.cuts.to, m.to);
      depth = c.right.depth;
    };
  };
}

module _ (t r : Rules) (root : Node) (e : t ≡ rules_within r root) (v : IsValid r root) where
  pub named_sound : IsSound r → IsSound t
  named_sound s = subst IsSound (sym e) (within_sound r root s v)

  pub named_valid : IsValid t root
  named_valid = subst (λ (x : Rules). IsValid x root) (sym e) (record {
    from = omega (arith, ints);
    inside = v.inside;
    to = omega (arith, ints);
    depth = v.depth;
  })

  pub named_parts : (n : Node) (both : Node × Node) → both ≡ r.parts n → t.parts n ≡ both
  named_parts n both is = ap (λ (x : Rules). x.parts n) e ∙ sym is
