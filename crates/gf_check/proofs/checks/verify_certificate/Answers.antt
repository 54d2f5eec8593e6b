use Rattle.std.proofs.Common.{◌≡◌, ◌⊎◌, ◌∙◌, ℕ, Err, length, inl, subst, sym}
use Rattle.std.specs.Prelude.{Vec}
use Rattle.std.specs.declared.alloc.Global.{Global}
use Rattle.spec_trees.specs.declared.tree.Node.{Node}
use Rattle.spec_trees.specs.Tree.{IsValid}
use Rattle.spec_trees.specs.Windows.{windows}
use Rattle.spec_searches.specs.Found.{rules}
use Rattle.spec_output.specs.Report.{verification}
use Rattle.spec_outcomes.specs.declared.refusal.Refusal.{Refusal}
use Rattle.spec_outcomes.specs.declared.refusal.Refusal.TheVariants.{Memory}
use Rattle.spec_outcomes.specs.Certificates.{IsVerification, verification_of}
use Rattle.spec_outcomes.proofs.Results.{err_also, ok_also}
use Rattle.gf_check.proofs.Verified.{accepted, error_is, follow, have_times}
use Rattle.gf_check.proofs.checks.verify_certificate.Goals as goal

pub check_cert-requires-clause-valid : goal.check_cert-requires-clause-valid
check_cert-requires-clause-valid g c = subst (λ (n : Node). IsValid (rules c.args.judge.now.search) n) (sym c.root_of.ensures) c.requires.valid

pub report_of_leaves-requires-clause-follow : goal.report_of_leaves-requires-clause-follow
report_of_leaves-requires-clause-follow g c =
    follow c.args.find.now c.args.judge.now.search c.args.span c.root_of.result c.deref.result.now c.args.text.now c.root_of.ensures (c.deref.ensures.value ∙ c.in_ok-line.ensures.line)
    c.in-Ok.leaves.items c.deref-in-Ok.result.now c.deref-in-Ok.ensures.value c.in-Ok.ensures.cover

pub report_of_leaves-requires-clause-windows : goal.report_of_leaves-requires-clause-windows
report_of_leaves-requires-clause-windows g c =
    have_times c.args.find.now c.args.judge.now.search c.args.span c.root_of.result c.deref.result.now c.args.text.now c.root_of.ensures (c.deref.ensures.value ∙ c.in_ok-line.ensures.line)
    c.in-Ok.leaves.items c.in-Ok.ensures.windows c.deref-in-Ok.result.now c.deref-in-Ok.ensures.value c.requires.from c.requires.upto

pub returns-in-Ok-clause-verified : goal.returns-in-Ok-clause-verified
returns-in-Ok-clause-verified g c =
    let find = c.args.find.now in
    let s = c.args.judge.now.search in
    let span = c.args.span in
    ok_also {X = Vec ℕ Global} {E = Refusal} (λ text. text.items ≡ verification find span.from span.upto (windows c.deref-in-Ok.result.now) (length c.deref-in-Ok.result.now))
    (λ bytes. IsVerification find s span c.args.text.now bytes.items) c.report_of_leaves.result
    (λ bytes is. accepted find s span c.root_of.result c.deref.result.now c.args.text.now c.root_of.ensures (c.deref.ensures.value ∙ c.in_ok-line.ensures.line)
    c.in-Ok.leaves.items c.in-Ok.ensures.windows c.deref-in-Ok.result.now bytes.items c.in-Ok.ensures.checked c.deref-in-Ok.ensures.value is) c.report_of_leaves.ensures.text

pub returns-in-Ok-clause-stopped : goal.returns-in-Ok-clause-stopped
returns-in-Ok-clause-stopped g c =
    err_also {X = Vec ℕ Global} {E = Refusal} (λ r. r ≡ Memory)
    (λ r. (r ≡ Memory) ⊎ (verification_of c.args.find.now c.args.judge.now.search c.args.span c.args.text.now ≡ Err r)) c.report_of_leaves.result (λ r is. inl is) c.report_of_leaves.ensures.memory

pub returns-clause-stopped : goal.returns-clause-stopped
returns-clause-stopped g c =
    let find = c.args.find.now in
    let s = c.args.judge.now.search in
    let span = c.args.span in
    let text = c.args.text.now in
    subst (λ (r : Refusal). (r ≡ Memory) ⊎ (verification_of find s span text ≡ Err r)) (sym c.refusal_of_error.ensures)
    (error_is find s span c.root_of.result c.deref.result.now text c.root_of.ensures (c.deref.ensures.value ∙ c.in_ok-line.ensures.line) c.in-Err.error c.in-Err.ensures.checked)
