use Rattle.std.proofs.Common.{◌≡◌, ◌<◌, ◌∙◌, ap, sym, subst, List, ℕ, true, Err}
use Rattle.spec_ephemeris.specs.Ephemeris.{Ephemeris}
use Rattle.std.specs.Prelude.{Vec}
use Rattle.std.specs.declared.alloc.Global.{Global}
use Rattle.spec_trees.specs.declared.tree.Leaf.{Leaf}
use Rattle.spec_trees.specs.Tree.{Covers}
use Rattle.spec_trees.specs.Windows.{windows}
use Rattle.spec_output.specs.Report.{generation}
use Rattle.spec_outcomes.specs.declared.query.Span.{Span}
use Rattle.spec_outcomes.specs.declared.refusal.Refusal.{Refusal}
use Rattle.spec_outcomes.specs.Queries.{IsQuery, is_within}
use Rattle.spec_outcomes.proofs.Results.{ok_also}
use Rattle.spec_outcomes.proofs.Searching.{conjunctions_are, whole_within}
use Rattle.spec_outcomes.specs.Outcomes.{generation_of}
use Rattle.gf_find.specs.Generates.{IsGeneration}
use Rattle.gf_find.proofs.FoundLeaves.{memory_also}
use Rattle.gf_find.proofs.Reporting.{generation_is, generation_stops, some_blocks}
use Rattle.gf_find.proofs.generated.lines_of_ephemeris.Goals as goal

pub leaves-requires : goal.leaves-requires
leaves-requires g c =
    let block = subst (λ (e : Ephemeris). 0 < e.blocks) (sym c.requires.same) (some_blocks _ _ c.requires.some) in
    c.requires.takes_searches _ _ _ _ _ _ (subst IsQuery (sym c.conjunctions-query.ensures) conjunctions_are) (record {
      some = c.requires.some_workers;
      few = c.requires.workers;
      block = block;
      within = subst (λ (span : Span). is_within span c.args.ephemeris.now ≡ true) (sym c.whole_span-span.ensures.span) (whole_within _ c.whole_span-span.ensures.checked block);
    })

pub lines_of_leaves-requires : goal.lines_of_leaves-requires
lines_of_leaves-requires g c =
    let span = c.whole_span-span.result in
    let is = (c.requires.returns_leaves _ _ _ _ _ _ _ c.in-Ok.ensures).found in
    subst (λ (ls : List Leaf). Covers span.from ls span.upto) (sym c.deref.ensures.value) is.follow

pub returns-in-Err-clause-stopped : goal.returns-in-Err-clause-stopped
returns-in-Err-clause-stopped g c =
    let block = subst (λ (e : Ephemeris). 0 < e.blocks) (sym c.requires.same) (some_blocks _ _ c.requires.some) in
    generation_stops _ _ _ _ _ _ c.requires.same c.conjunctions-query.ensures c.whole_span-span.ensures.span c.requires.bytes c.whole_span-span.ensures.checked block _
    (c.requires.returns_leaves _ _ _ _ _ _ _ c.in-Err.ensures).stopped

pub returns-in-Ok-clause-stopped : goal.returns-in-Ok-clause-stopped
returns-in-Ok-clause-stopped g c = memory_also (λ refusal. generation_of c.args.blocks c.args.seed ≡ Err refusal) c.lines_of_leaves.result c.lines_of_leaves.ensures.memory

pub returns-in-Ok-clause-lines : goal.returns-in-Ok-clause-lines
returns-in-Ok-clause-lines g c =
    ok_also {X = Vec ℕ Global} {E = Refusal} (λ text. text.items ≡ generation c.args.blocks c.args.seed c.args.bytes (windows c.deref.result.now))
    (λ text. IsGeneration c.args.blocks c.args.seed text.items) c.lines_of_leaves.result
    (λ text printed. generation_is _ _ _ _ _ _ c.requires.same c.conjunctions-query.ensures c.whole_span-span.ensures.span c.requires.bytes _ text.items (c.requires.returns_leaves _ _ _ _ _ _ _ c.in-Ok.ensures).found
    (printed ∙ ap (λ (ls : List Leaf). generation c.args.blocks c.args.seed c.args.bytes (windows ls)) c.deref.ensures.value)) c.lines_of_leaves.ensures.text
