use Rattle.std.proofs.Common.{Bool, true, false, List, [], sym, subst, arith}
use Rattle.std.specs.Prelude.{All, if◌then◌else◌}
use Rattle.spec_searches.specs.Search.{Search}
use Rattle.spec_stills.specs.declared.still.StillSpan.{StillSpan}
use Rattle.spec_stills.specs.Still.{IsStill}
use Rattle.still_judge.specs.Order.{are_in_order}
use Rattle.gf_cert.proofs.by_stills.still_list.Goals as goal

kept_by : (s : Search) (xs : List StillSpan) (ordered : Bool) → All (IsStill s) xs → All (IsStill s) (if ordered then xs else [])
kept_by s xs true stills = stills
kept_by s xs false stills = λ k d below. absurd (omega (arith, below))

pub returns-in-Ok-clause-still : goal.returns-in-Ok-clause-still
returns-in-Ok-clause-still c =
    subst (All (IsStill c.args.search.now)) (sym c.new.ensures) (kept_by c.args.search.now c.in-Ok.spans.items (are_in_order c.in-Ok.spans.items) c.in-Ok.ensures.still)
