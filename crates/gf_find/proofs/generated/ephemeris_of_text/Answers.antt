use Rattle.std.proofs.Common.{List, [], ◌∷◌, ℕ, ap}
use Rattle.spec_outcomes.proofs.Results.{err_also}
use Rattle.gf_find.proofs.Reporting.{text_stops}
use Rattle.gf_find.proofs.generated.ephemeris_of_text.Goals as goal

pub returns-clause-refused : goal.returns-clause-refused
returns-clause-refused c = λ e is.
    err_also _ _ _ (text_stops c.args.text.now _ _ e is c.new-shelf.ensures (ap (λ (name : List ℕ). name ∷ []) c.empty_name.ensures)) c.ephemeris_of_files.ensures.refused
