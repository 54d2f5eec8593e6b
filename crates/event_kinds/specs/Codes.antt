-- The codes of conditions and of events.
use Rattle.std.specs.Prelude.{Bool, refl}
use Rattle.std.specs.Coded.{Coded, code_by, coded×, coded_bool}
use Rattle.spec_expressions.specs.Term.{Term}
use Rattle.spec_expressions.specs.Code.{term_code}
use Rattle.spec_searches.specs.Event.{Condition}

abbrev pub condition_code : Coded Condition
condition_code = code_by (Term × Bool) (coded× term_code coded_bool) (λ c. (c.term, c.at_least)) (λ p. record { term = p.0; at_least = p.1 }) (λ c. refl)
