use Rattle.std.proofs.Common.{◌≡◌, ℕ, List, Err, subst, sym}
use Rattle.std.specs.Prelude.{Vec}
use Rattle.std.specs.declared.alloc.Global.{Global}
use Rattle.spec_trees.specs.declared.tree.Leaf.{Leaf}
use Rattle.spec_trees.specs.Tree.{Covers}
use Rattle.spec_trees.specs.Windows.{windows}
use Rattle.spec_output.specs.Report.{scalar_report}
use Rattle.spec_outcomes.specs.declared.refusal.Refusal.{Refusal}
use Rattle.spec_outcomes.specs.Scalars.{scalar_of}
use Rattle.spec_outcomes.proofs.Results.{ok_also}
use Rattle.gf_find.specs.Scalars.{IsScalarReport}
use Rattle.gf_find.proofs.FoundLeaves.{memory_also}
use Rattle.gf_find.proofs.Passings.{scalar_printed, scalar_stops}
use Rattle.gf_find.proofs.scalar.report_of_scalar.Goals as goal

pub report_of_leaves-requires : goal.report_of_leaves-requires
report_of_leaves-requires g c =
    let ask = c.args.ask.now in
    subst (λ (ls : List Leaf). Covers ask.from ls ask.to) (sym c.deref.ensures.value) (c.requires.returns_passings _ _ c.in-Ok.ensures).found.follow

pub returns-in-Ok-clause-report : goal.returns-in-Ok-clause-report
returns-in-Ok-clause-report g c =
    let ask = c.args.ask.now in
    let returned = c.requires.returns_passings _ _ c.in-Ok.ensures in
    ok_also {X = Vec ℕ Global} {E = Refusal} (λ text. text.items ≡ scalar_report ask (windows c.deref.result.now))
    (λ text. IsScalarReport ask text.items) c.report_of_leaves.result
    (λ text printed. scalar_printed ask c.in-Ok.leaves.items _ text.items returned.found c.deref.ensures.value printed) c.report_of_leaves.ensures.text

pub returns-in-Ok-clause-stopped : goal.returns-in-Ok-clause-stopped
returns-in-Ok-clause-stopped g c =
    memory_also (λ refusal. scalar_of c.args.ask.now ≡ Err refusal) c.report_of_leaves.result c.report_of_leaves.ensures.memory

pub returns-in-Err-clause-stopped : goal.returns-in-Err-clause-stopped
returns-in-Err-clause-stopped g c = scalar_stops c.args.ask.now c.in-Err.refusal (c.requires.returns_passings _ _ c.in-Err.ensures).stopped
