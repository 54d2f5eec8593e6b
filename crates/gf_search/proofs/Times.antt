-- Leaves that follow one another over a span of a search are such as sets can be made of.
use Rattle.std.proofs.Common.{◌≡◌, ◌<◌, true, None, List, [], ◌∷◌, ℤ, ◌≤ℤ◌, sym, subst, arith}
use Rattle.std.proofs.lemmas.Int.{ints}
use Rattle.spec_ephemeris.specs.Ephemeris.{Ephemeris, IsEphemeris}
use Rattle.spec_bodies.specs.Views.{Fits}
use Rattle.spec_trees.specs.declared.tree.Leaf.{Leaf}
use Rattle.spec_trees.specs.Tree.{Covers}
use Rattle.spec_sets.specs.Signs.{Follow, end_from}
use Rattle.spec_sets.specs.Spans.{latest}
use Rattle.spec_kinds.specs.Faults.{fault_of}
use Rattle.spec_outcomes.specs.declared.query.Query.{Query}
use Rattle.spec_outcomes.specs.declared.query.Span.{Span}
use Rattle.spec_outcomes.specs.Queries.{is_within, search}
use Rattle.spec_outcomes.specs.Sets.{IsSetQuery}
use Rattle.spec_outcomes.proofs.SetSigns.{span_late, time_is_fit}

-- where leaves end that cover the times from one to another
end_is : (a b : ℤ) (ls : List Leaf) → Covers a ls b → end_from a ls ≡ b
end_is a b [] c = c
end_is a b (l ∷ ls) c = end_is l.node.b b ls c.2

module _ (q : Query) (e : Ephemeris) (span : Span) (checked : IsEphemeris e) (block : 0 < e.blocks) (is : IsSetQuery q)
    (within : is_within span e ≡ true) (sound : fault_of e q.ask ≡ None) (ls : List Leaf) (covers : Covers span.from ls span.upto) where
  pub end_is_upto : end_from span.from ls ≡ span.upto
  end_is_upto = end_is span.from span.upto ls covers

  pub leaves_follow : Follow span.from ls
  leaves_follow = subst (λ (end : ℤ). Covers span.from ls end) (sym end_is_upto) covers

  pub leaves_end : end_from span.from ls ≤ℤ latest
  leaves_end = let late = span_late q e span checked block is within sound in omega (arith, ints, end_is_upto, late)

  pub times_fit : (t : ℤ) → span.from ≤ℤ t → t ≤ℤ end_from span.from ls → Fits (search q e).view t t
  times_fit t after before = time_is_fit q e span checked block is within sound t after (omega (arith, ints, end_is_upto, before))
