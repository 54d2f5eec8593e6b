-- The number of workers is no part of the outcome.
use Rattle.std.proofs.Common.{ℕ, Option, Ok, sym, subst}
use Rattle.spec_requests.specs.declared.request.Request.{Request}
use Rattle.spec_requests.specs.declared.request.Request.TheVariants.{Find, Cert, Verify, Check, Gen, Set, Scalar}
use Rattle.gf_edges.specs.Edges.{Files}
use Rattle.spec_outcomes.specs.Outcomes.{Outcome}
use Rattle.spec_outcomes.specs.Scalars.{searched_scalar}
use Rattle.gf_find.specs.Outcomes.{Ask, RequestHasOutcome, HaveOutcome, Words, with_workers}

same_by : (request : Request) (count : ℕ) (files : Option Files) (before now : ℕ) (outcome : Outcome) → RequestHasOutcome (Ok request) files before now outcome
    → RequestHasOutcome (Ok (with_workers count request)) files before now outcome
unfolding searched_scalar
same_by (Find find) count files before now outcome has = has
same_by (Cert find) count files before now outcome has = has
same_by (Verify find cert) count files before now outcome has = has
same_by (Check names) count files before now outcome has = has
same_by (Gen blocks seed workers) count files before now outcome has = has
same_by (Set find ref2 relation) count files before now outcome has = has
same_by (Scalar ask) count files before now outcome has = has

pub same_outcome : (words others : Words) (files : Option Files) (before now count : ℕ) (request : Request) (outcome : Outcome) → Ask words request
    → Ask others (with_workers count request) → HaveOutcome words files before now outcome → HaveOutcome others files before now outcome
same_outcome words others files before now count request outcome asked other has =
    subst (λ said. RequestHasOutcome said files before now outcome) (sym other)
    (same_by request count files before now outcome (subst (λ said. RequestHasOutcome said files before now outcome) asked has))
