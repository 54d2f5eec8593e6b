-- Conditions, one by one.
use Rattle.std.proofs.Common.{[], ◌∷◌, ℤ}
use Rattle.std.specs.Prelude.{List, map}
use Rattle.std.proofs.lemmas.List.Elements.{All-nil, All-cons, All-head, All-tail}
use Rattle.spec_intervals.specs.Fraction.{Fraction}
use Rattle.spec_expressions.specs.Term.{Leaf, exact_of}
use Rattle.spec_events.specs.Functions.{GuardHolds, IsOnSide}
use Rattle.spec_searches.specs.Event.{Condition, guard_of}
use Rattle.spec_meanings.specs.Events.{Hold}

module _ (exact : Leaf → ℤ → Fraction) (t : ℤ) where
  pub none : Hold exact [] t
  none = All-nil (λ g. GuardHolds g t)

  pub more : (c : Condition) (cs : List Condition) → IsOnSide c.at_least (exact_of exact c.term) t → Hold exact cs t → Hold exact (c ∷ cs) t
  more c cs p q = All-cons (λ g. GuardHolds g t) (guard_of exact c) (map (guard_of exact) cs) p q

  pub first : (c : Condition) (cs : List Condition) → Hold exact (c ∷ cs) t → IsOnSide c.at_least (exact_of exact c.term) t
  first c cs h = All-head (λ g. GuardHolds g t) (guard_of exact c) (map (guard_of exact) cs) h

  pub rest : (c : Condition) (cs : List Condition) → Hold exact (c ∷ cs) t → Hold exact cs t
  rest c cs h = All-tail (λ g. GuardHolds g t) (guard_of exact c) (map (guard_of exact) cs) h
