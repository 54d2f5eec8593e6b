use Rattle.std.proofs.Common.{◌≡◌, Ok, rules}
use Rattle.spec_requests.specs.declared.request.Request.TheVariants.{Cert, Find, Scalar, Set, Verify}
use Rattle.spec_requests.specs.Requests.{request_of}
use Rattle.spec_requests.proofs.LimitLemmas.{requests_keep_to_limits}
use Rattle.gf_find.specs.Outcomes.{texts_of}
use Rattle.gf_find.proofs.Asked.{blocks_are_some, blocks_are_within, workers_are_some, workers_are_within}
use Rattle.gf_find.proofs.answer.text_by.Goals as goal

pub search_report_of_files-requires-clause-limits : goal.search_report_of_files-requires-clause-limits
search_report_of_files-requires-clause-limits g c =
    let asked : request_of (texts_of c.args.words.now) ≡ Ok (Find c.in-Find.find) = search rules in
    requests_keep_to_limits _ _ asked

pub certificate_in_files-requires-clause-limits : goal.certificate_in_files-requires-clause-limits
certificate_in_files-requires-clause-limits g c =
    let asked : request_of (texts_of c.args.words.now) ≡ Ok (Cert c.in-Cert.find) = search rules in
    requests_keep_to_limits _ _ asked

pub verify_over_files-requires : goal.verify_over_files-requires
verify_over_files-requires g c =
    let asked : request_of (texts_of c.args.words.now) ≡ Ok (Verify c.in-Verify.find c.in-Verify.cert) = search rules in
    requests_keep_to_limits _ _ asked

pub lines_of_generation-requires-clause-some : goal.lines_of_generation-requires-clause-some
lines_of_generation-requires-clause-some g c = search (rules, blocks_are_some)

pub lines_of_generation-requires-clause-few : goal.lines_of_generation-requires-clause-few
lines_of_generation-requires-clause-few g c = search (rules, blocks_are_within)

pub lines_of_generation-requires-clause-some_workers : goal.lines_of_generation-requires-clause-some_workers
lines_of_generation-requires-clause-some_workers g c = search (rules, workers_are_some)

pub lines_of_generation-requires-clause-workers : goal.lines_of_generation-requires-clause-workers
lines_of_generation-requires-clause-workers g c = search (rules, workers_are_within)

pub set_report_of_files-requires-clause-limits : goal.set_report_of_files-requires-clause-limits
set_report_of_files-requires-clause-limits g c =
    let asked : request_of (texts_of c.args.words.now) ≡ Ok (Set c.in-Set.find c.in-Set.ref2 c.in-Set.relation) = search rules in
    requests_keep_to_limits _ _ asked

pub report_of_scalar-requires-clause-limits : goal.report_of_scalar-requires-clause-limits
report_of_scalar-requires-clause-limits g c =
    let asked : request_of (texts_of c.args.words.now) ≡ Ok (Scalar c.in-Scalar.ask) = search rules in
    requests_keep_to_limits _ _ asked
