use Rattle.std.proofs.Common.{◌≡◌, ℕ, Err}
use Rattle.std.specs.Prelude.{Vec}
use Rattle.std.specs.declared.alloc.Global.{Global}
use Rattle.spec_output.specs.Report.{set_report}
use Rattle.spec_outcomes.specs.declared.refusal.Refusal.{Refusal}
use Rattle.spec_outcomes.specs.Sets.{counted_set}
use Rattle.spec_outcomes.proofs.Results.{ok_also}
use Rattle.spec_outcomes.proofs.SpanTimes.{from_is, upto_is}
use Rattle.gf_find.specs.Sets.{IsCountedSet}
use Rattle.gf_find.proofs.FoundLeaves.{memory_also}
use Rattle.spec_outcomes.proofs.SetOutcomes.{parts_have_times}
use Rattle.gf_find.proofs.Relating.{set_query_is, set_stops, sets_are}
use Rattle.gf_find.proofs.set.set_report_of_span.Goals as goal

pub related-requires : goal.related-requires
related-requires g c =
    let limits = c.requires.limits in
    c.requires.takes_relations _ _ _ _ _ _ (set_query_is c.args.find.now c.args.ref2 c.args.relation _ c.query_of-query.ensures limits)
    (record { some = limits.search.some_workers; few = limits.search.workers; block = c.requires.block; within = c.requires.within })

pub report_of_sets-requires-clause-from : goal.report_of_sets-requires-clause-from
report_of_sets-requires-clause-from g c = from_is c.args.find.now.tick c.args.ephemeris.now c.requires.start c.requires.end c.args.span c.requires.within

pub report_of_sets-requires-clause-upto : goal.report_of_sets-requires-clause-upto
report_of_sets-requires-clause-upto g c = upto_is c.args.find.now.tick c.args.ephemeris.now c.requires.start c.requires.end c.args.span c.requires.within

pub report_of_sets-requires-clause-sure : goal.report_of_sets-requires-clause-sure
report_of_sets-requires-clause-sure g c =
    parts_have_times c.args.find.now.tick c.args.span (from_is c.args.find.now.tick c.args.ephemeris.now c.requires.start c.requires.end c.args.span c.requires.within)
    (upto_is c.args.find.now.tick c.args.ephemeris.now c.requires.start c.requires.end c.args.span c.requires.within) _ (c.requires.returns_times _ _ _ _ _ _ _ c.in-Ok.ensures).found.sure_within

pub report_of_sets-requires-clause-possible : goal.report_of_sets-requires-clause-possible
report_of_sets-requires-clause-possible g c =
    parts_have_times c.args.find.now.tick c.args.span (from_is c.args.find.now.tick c.args.ephemeris.now c.requires.start c.requires.end c.args.span c.requires.within)
    (upto_is c.args.find.now.tick c.args.ephemeris.now c.requires.start c.requires.end c.args.span c.requires.within) _ (c.requires.returns_times _ _ _ _ _ _ _ c.in-Ok.ensures).found.maybe_within

pub returns-in-Ok-clause-report : goal.returns-in-Ok-clause-report
returns-in-Ok-clause-report g c =
    let find = c.args.find.now in
    let span = c.args.span in
    let sets = c.in-Ok.sets in
    let returned = c.requires.returns_times _ _ _ _ _ _ _ c.in-Ok.ensures in
    ok_also {X = Vec ℕ Global} {E = Refusal} (λ text. text.items ≡ set_report find c.args.relation span.from span.upto sets.sure sets.maybe)
    (λ text. IsCountedSet find c.args.ref2 c.args.relation text.items c.args.ephemeris.now) c.report_of_sets.result
    (λ text printed. sets_are find c.args.ref2 c.args.relation c.args.ephemeris.now _ span c.query_of-query.ensures c.requires.span sets.sure sets.maybe text.items returned.found printed) c.report_of_sets.ensures.text

pub returns-in-Ok-clause-stopped : goal.returns-in-Ok-clause-stopped
returns-in-Ok-clause-stopped g c =
    memory_also (λ refusal. counted_set c.args.find.now c.args.ref2 c.args.relation c.args.ephemeris.now ≡ Err refusal) c.report_of_sets.result c.report_of_sets.ensures.memory

pub returns-in-Err-clause-stopped : goal.returns-in-Err-clause-stopped
returns-in-Err-clause-stopped g c =
    set_stops c.args.find.now c.args.ref2 c.args.relation c.args.ephemeris.now _ c.args.span c.query_of-query.ensures c.requires.span c.in-Err.refusal
    (c.requires.returns_times _ _ _ _ _ _ _ c.in-Err.ensures).stopped
