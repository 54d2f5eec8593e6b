use Rattle.std.proofs.Common.{[], ◌∷◌, sym, ◌∙◌, subst}
use Rattle.spec_text.specs.Lines.{tokens}
use Rattle.spec_certificates.specs.Checks.{leaves_from, with_words}
use Rattle.spec_faults.specs.declared.numbers.TheConstants.{CERT_REQUEST}
use Rattle.gf_cert.specs.Answers.{Fails, Gives}
use Rattle.gf_cert.specs.Search.{cutting}
use Rattle.gf_cert.proofs.checking.read_leaves_of_request.Goals as goal

pub returns-in-Ok : goal.returns-in-Ok
returns-in-Ok g c =
    let further = leaves_from (cutting c.args.judge.now.search) c.args.lines.now.end_line (c.args.root ∷ []) 0 in
    subst (λ w. Gives (λ found. found.items) w c.read_leaves.result)
    ((λ i. leaves_from (cutting c.args.judge.now.search) (c.check_words.ensures.end i) (c.args.root ∷ []) 0 c.check_words.new.lines.left) ∙ sym (c.in-Ok.ensures.steps further)) c.read_leaves.ensures

pub returns-in-Err : goal.returns-in-Err
returns-in-Err g c =
    let further = leaves_from (cutting c.args.judge.now.search) c.args.lines.now.end_line (c.args.root ∷ []) 0 in
    subst (Fails (with_words (tokens c.args.line.now) CERT_REQUEST c.args.lines.now.end_line further c.args.lines.now.left)) (sym c.refusal_of_fault.ensures) (c.in-Err.ensures.steps further)
