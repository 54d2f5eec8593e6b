use Rattle.std.proofs.Common.{sym, subst}
use Rattle.spec_trees.specs.Tree.{AreLeaves, Covers}
use Rattle.spec_trees.specs.Windows.{windows}
use Rattle.spec_events.specs.Events.{AreWindows}
use Rattle.spec_searches.specs.Search.{events}
use Rattle.spec_searches.specs.Found.{IsLeftUndecided, rules}
use Rattle.spec_certificates.specs.Checks.{checked}
use Rattle.gf_cert.specs.Answers.{Fails, Gives}
use Rattle.gf_cert.specs.Search.{cutting}
use Rattle.gf_cert.proofs.Placing.{is_cutting}
use Rattle.gf_cert.proofs.Outcomes.{checked_by, if_accepted, stopped_by}
use Rattle.spec_searches.proofs.Finding.{windows_of_leaves}
use Rattle.gf_cert.proofs.checking.check_cert.Goals as goal

pub returns-in-Ok-clause-checked : goal.returns-in-Ok-clause-checked
returns-in-Ok-clause-checked g c =
    let s = c.args.judge.now.search in
    subst (λ w. Gives (λ found. found.items) w c.read_leaves_of_request.result)
    (checked_by (cutting s) c.args.root c.args.line.now c.args.text.now c.new-lines.result.left c.new-lines.result.end_line c.new-lines.ensures.left c.new-lines.ensures.end_line
    c.check_words.new.lines.left c.check_words.new.lines.end_line c.check_words.ensures.end c.in-Ok.ensures.steps) c.read_leaves_of_request.ensures

pub returns-in-Ok-clause-cover : goal.returns-in-Ok-clause-cover
returns-in-Ok-clause-cover g c =
    let s = c.args.judge.now.search in
    let is = is_cutting s c.nodes_may_be_cut.ensures.sound c.nodes_may_be_cut.ensures.split c.nodes_may_be_cut.ensures.cut in
    if_accepted (λ found. found.items) (λ ls. Covers c.args.root.a ls c.args.root.b) (cutting s) is c.args.root c.requires.valid c.args.line.now c.args.text.now c.read_leaves_of_request.result
    (λ ls cover are. cover) (returns-in-Ok-clause-checked g c)

pub returns-in-Ok-clause-are_leaves : goal.returns-in-Ok-clause-are_leaves
returns-in-Ok-clause-are_leaves g c =
    let s = c.args.judge.now.search in
    let is = is_cutting s c.nodes_may_be_cut.ensures.sound c.nodes_may_be_cut.ensures.split c.nodes_may_be_cut.ensures.cut in
    if_accepted (λ found. found.items) (AreLeaves (rules s)) (cutting s) is c.args.root c.requires.valid c.args.line.now c.args.text.now c.read_leaves_of_request.result
    (λ ls cover are. are) (returns-in-Ok-clause-checked g c)

pub returns-in-Ok-clause-windows : goal.returns-in-Ok-clause-windows
returns-in-Ok-clause-windows g c =
    let s = c.args.judge.now.search in
    let is = is_cutting s c.nodes_may_be_cut.ensures.sound c.nodes_may_be_cut.ensures.split c.nodes_may_be_cut.ensures.cut in
    if_accepted (λ found. found.items) (λ ls. AreWindows (events s) (IsLeftUndecided s ls) c.args.root.a c.args.root.b (windows ls)) (cutting s) is c.args.root c.requires.valid c.args.line.now c.args.text.now c.read_leaves_of_request.result
    (windows_of_leaves s c.nodes_may_be_cut.ensures.search c.args.root.a c.args.root.b) (returns-in-Ok-clause-checked g c)

pub returns-in-Err-clause-checked : goal.returns-in-Err-clause-checked
returns-in-Err-clause-checked g c =
    let s = c.args.judge.now.search in
    subst (Fails (checked (cutting s) c.args.root c.args.line.now c.args.text.now)) (sym c.refusal_of_fault.ensures)
    (stopped_by (cutting s) c.args.root c.args.line.now c.args.text.now c.new-lines.result.left c.new-lines.result.end_line c.new-lines.ensures.left c.new-lines.ensures.end_line c.in-Err.fault c.in-Err.ensures.steps)
