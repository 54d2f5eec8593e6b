use Rattle.std.proofs.Common.{◌≡◌, ℕ, Err, subst, sym, List}
use Rattle.std.specs.Prelude.{All, Vec}
use Rattle.std.specs.declared.alloc.Global.{Global}
use Rattle.spec_trees.specs.declared.tree.Leaf.{Leaf}
use Rattle.spec_trees.specs.Tree.{Covers}
use Rattle.spec_trees.specs.Windows.{windows}
use Rattle.spec_output.specs.Report.{HasTimes, report}
use Rattle.spec_output.specs.declared.limits.TheConstants.{MAX_LEAVES}
use Rattle.spec_outcomes.specs.declared.refusal.Refusal.{Refusal}
use Rattle.spec_outcomes.specs.Outcomes.{report_by, report_of}
use Rattle.spec_outcomes.proofs.Results.{ok_also}
use Rattle.gf_search.specs.declared.wanted.Wanted.TheVariants.{Windows}
use Rattle.gf_find.specs.Outcomes.{FilesHaveOutcome, HoldEphemeris}
use Rattle.gf_find.specs.Finds.{IsReport}
use Rattle.gf_find.proofs.FoundLeaves.{follow_one_another, from_time, have_times, memory_also, report_held, text_stops, upto_time}
use Rattle.gf_find.proofs.find.search_report_of_files.Goals as goal

pub report_of_leaves-requires-clause-from : goal.report_of_leaves-requires-clause-from
report_of_leaves-requires-clause-from g c = from_time (g.S.Shelf.files c.args.shelf.now) c.args.find.now Windows MAX_LEAVES c.in-Ok.found.span c.in-Ok.found.leaves.items c.in-Ok.ensures.found

pub report_of_leaves-requires-clause-upto : goal.report_of_leaves-requires-clause-upto
report_of_leaves-requires-clause-upto g c = upto_time (g.S.Shelf.files c.args.shelf.now) c.args.find.now Windows MAX_LEAVES c.in-Ok.found.span c.in-Ok.found.leaves.items c.in-Ok.ensures.found

pub report_of_leaves-requires-clause-follow : goal.report_of_leaves-requires-clause-follow
report_of_leaves-requires-clause-follow g c =
    let span = c.in-Ok.found.span in
    subst (λ (ls : List Leaf). Covers span.from ls span.upto) (sym c.deref.ensures.value) (follow_one_another (g.S.Shelf.files c.args.shelf.now) c.args.find.now Windows MAX_LEAVES c.in-Ok.found.span c.in-Ok.found.leaves.items c.in-Ok.ensures.found)

pub report_of_leaves-requires-clause-windows : goal.report_of_leaves-requires-clause-windows
report_of_leaves-requires-clause-windows g c =
    subst (λ (ls : List Leaf). All (HasTimes c.args.find.now.tick) (windows ls)) (sym c.deref.ensures.value) (have_times (g.S.Shelf.files c.args.shelf.now) c.args.find.now MAX_LEAVES c.in-Ok.found.span c.in-Ok.found.leaves.items c.in-Ok.ensures.found)

pub returns-in-Ok-clause-report : goal.returns-in-Ok-clause-report
returns-in-Ok-clause-report g c =
    let find = c.args.find.now in
    let files = g.S.Shelf.files c.args.shelf.now in
    let span = c.in-Ok.found.span in
    ok_also {X = Vec ℕ Global} {E = Refusal} (λ text. text.items ≡ report find span.from span.upto (windows c.deref.result.now))
    (λ text. HoldEphemeris files find.files (IsReport find text.items)) c.report_of_leaves.result
    (λ text printed. report_held find files span c.in-Ok.found.leaves.items _ text.items c.in-Ok.ensures.found c.deref.ensures.value printed) c.report_of_leaves.ensures.text

pub returns-in-Ok-clause-stopped : goal.returns-in-Ok-clause-stopped
returns-in-Ok-clause-stopped g c =
    let find = c.args.find.now in
    memory_also (λ refusal. FilesHaveOutcome (g.S.Shelf.files c.args.shelf.now) find.files (g.S.Shelf.faults c.args.shelf.now) (g.S.Shelf.faults c.search_files.new.shelf) (report_of find) (Err refusal))
    c.report_of_leaves.result c.report_of_leaves.ensures.memory

pub returns-in-Err-clause-stopped : goal.returns-in-Err-clause-stopped
returns-in-Err-clause-stopped g c =
    text_stops MAX_LEAVES c.args.find.now (g.S.Shelf.files c.args.shelf.now) (g.S.Shelf.faults c.args.shelf.now) (g.S.Shelf.faults c.search_files.new.shelf) (report_by c.args.find.now) c.in-Err.refusal c.in-Err.ensures.stopped
