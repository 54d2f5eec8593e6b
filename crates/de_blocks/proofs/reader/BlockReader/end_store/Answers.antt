use Rattle.std.proofs.Common.{[], ap, subst, ◌∙◌, Err}
use Rattle.spec_ephemeris.specs.Ephemeris.{Ephemeris}
use Rattle.spec_faults.specs.declared.numbers.TheConstants.{TRUNCATED}
use Rattle.de_blocks.specs.Reader.{Ends, Progress, accepted_in, from_record, says}
use Rattle.spec_files.specs.declared.errors.ReadError.TheVariants as errors
use Rattle.eph_model.specs.Stores.{Store}
use Rattle.de_blocks.proofs.Steps.{at, late, ends_between, ends_inside, ends_refused}
use Rattle.de_blocks.proofs.reader.BlockReader.end_store.Goals as goal

pub returns-in-Refused-clause-end : goal.returns-in-Refused-clause-end
returns-in-Refused-clause-end c =
    subst (λ (p : Progress). Ends c.args.line (says 0 p []) (Err (errors.Fault c.in-Refused.fault))) c.self.view_is
    (ends_refused (at c.self.inside.block.accepted c.self.inside.block.numbers c.self.inside.place) c.args.line c.in-Refused.fault c.in-Refused.is)

pub returns-in-Inside-clause-end : goal.returns-in-Inside-clause-end
returns-in-Inside-clause-end c =
    ap (λ e. Err e) c.fault_at_end.ensures
    ∙ subst (λ (p : Progress). Ends c.args.line (says 0 p []) (Err (errors.Fault (late c.args.line TRUNCATED)))) c.self.view_is
    (ends_inside (at c.self.inside.block.accepted c.self.inside.block.numbers c.self.inside.place) c.args.line c.in-Inside.is c.self.invariant)

pub returns-in-Between-clause-end : goal.returns-in-Between-clause-end
returns-in-Between-clause-end c =
    subst (λ (p : Progress). Ends c.args.line (says 0 p []) (accepted_in c.store_at_end.result)) c.self.view_is
    (ends_between (at c.self.inside.block.accepted c.self.inside.block.numbers c.self.inside.place) c.args.line (accepted_in c.store_at_end.result) c.in-Between.is
    (subst (λ (e : Ephemeris). Ends c.args.line (from_record e []) (accepted_in c.store_at_end.result)) (ap (λ (t : Store). t.accepted) c.finish.ensures) c.store_at_end.ensures.end))
