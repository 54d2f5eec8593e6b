use Rattle.std.proofs.lemmas.List.Filters.{FiltersInPlace}
use Rattle.spec_bodies.specs.Sources.{body_columns, is_in_use}
use Rattle.body_states.proofs.sources.InUse.of.Given as goal

abbrev pub invariant-loop-i : goal.invariant-loop-i
invariant-loop-i l = FiltersInPlace (is_in_use l.fn.first l.fn.second l.fn.observer) body_columns l.numbers l.count l.i
