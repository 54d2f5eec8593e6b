use Rattle.std.proofs.Common.{◌≡◌, ◌∙◌, true, false, sym, ap, subst, arith}
use Rattle.std.specs.Prelude.{reverse}
use Rattle.spec_searches.specs.Found.{rules}
use Rattle.spec_searches.specs.Search.{may_be_cut}
use Rattle.spec_certificates.specs.Checks.{at_line, or_broken}
use Rattle.spec_certificates.specs.Places.{is_same, waiting_after}
use Rattle.spec_faults.specs.declared.numbers.TheConstants.{CERT_PLACE}
use Rattle.gf_cert.specs.Answers.{Fails, refusal_of}
use Rattle.gf_cert.specs.Search.{cutting}
use Rattle.gf_cert.proofs.Placing.{cut_again, found_here, is_cutting, narrower, never_found, that_node, valid_push}
use Rattle.gf_cert.proofs.places.cut_down_to.Goals as goal

pub returns-then-not-may_be_cut-clause-place : goal.returns-then-not-may_be_cut-clause-place
returns-then-not-may_be_cut-clause-place g c =
    let s = c.args.judge.now.search in
    let is = is_cutting s c.nodes_may_be_cut.ensures.sound c.nodes_may_be_cut.ensures.split c.nodes_may_be_cut.ensures.cut in
    let other : is_same c.loop-node.here c.args.node ≡ false = grind (arith, c.loop-node-test.true, c.are_same_node.ensures) in
    let may : may_be_cut s c.loop-node.here ≡ false = grind (arith, c.if-not-may_be_cut.true, c.may_be_cut.ensures) in
    let none = never_found s is (waiting_after (cutting s) c.args.first (reverse c.args.waiting.now.items) c.args.node) c.loop-node.here c.loop-node.waiting.items c.args.node
    c.loop-node.invariant.here c.loop-node.invariant.same other may in
    subst (Fails (or_broken (at_line c.args.line CERT_PLACE) (waiting_after (cutting s) c.args.first (reverse c.args.waiting.now.items) c.args.node)))
    (sym (c.into.ensures ∙ ap refusal_of c.fault_at.ensures)) (ap (or_broken (at_line c.args.line CERT_PLACE)) none)

pub loop-node-smaller : goal.loop-node-smaller
loop-node-smaller g c =
    let s = c.args.judge.now.search in
    let is = is_cutting s c.nodes_may_be_cut.ensures.sound c.nodes_may_be_cut.ensures.split c.nodes_may_be_cut.ensures.cut in
    let may : may_be_cut s c.loop-node.here ≡ true = grind (arith, c.if-not-may_be_cut.false, c.may_be_cut.ensures) in
    rw c.parts.ensures (narrower s is (waiting_after (cutting s) c.args.first (reverse c.args.waiting.now.items) c.args.node) c.loop-node.here c.loop-node.waiting.items c.args.node
    c.loop-node.invariant.here c.loop-node.invariant.same may)

pub loop-node-preserved : goal.loop-node-preserved
loop-node-preserved g c =
    let s = c.args.judge.now.search in
    let is = is_cutting s c.nodes_may_be_cut.ensures.sound c.nodes_may_be_cut.ensures.split c.nodes_may_be_cut.ensures.cut in
    let other : is_same c.loop-node.here c.args.node ≡ false = grind (arith, c.loop-node-test.true, c.are_same_node.ensures) in
    let may : may_be_cut s c.loop-node.here ≡ true = grind (arith, c.if-not-may_be_cut.false, c.may_be_cut.ensures) in
    let cut = is.cut c.loop-node.here c.loop-node.invariant.here may in
    rw (c.in_ok-push.ensures.items, c.parts.ensures) (record {
      here = cut.left;
      others = valid_push (rules s) c.loop-node.waiting.items _ c.loop-node.invariant.others cut.right;
      same = cut_again s is (waiting_after (cutting s) c.args.first (reverse c.args.waiting.now.items) c.args.node) c.loop-node.here c.loop-node.waiting.items c.args.node
          c.loop-node.invariant.here c.loop-node.invariant.same other may;
    })

pub returns-clause-place : goal.returns-clause-place
returns-clause-place g c =
    let s = c.args.judge.now.search in
    let is = is_cutting s c.nodes_may_be_cut.ensures.sound c.nodes_may_be_cut.ensures.split c.nodes_may_be_cut.ensures.cut in
    let same : is_same c.loop-node.here c.args.node ≡ true = grind (arith, c.loop-node-test.false, c.are_same_node.ensures) in
    ap (or_broken (at_line c.args.line CERT_PLACE))
    (found_here s is (waiting_after (cutting s) c.args.first (reverse c.args.waiting.now.items) c.args.node) c.loop-node.here c.loop-node.waiting.items c.args.node
    c.loop-node.invariant.here c.loop-node.invariant.same same)

pub returns-clause-valid : goal.returns-clause-valid
returns-clause-valid g c =
    let s = c.args.judge.now.search in
    let same : is_same c.loop-node.here c.args.node ≡ true = grind (arith, c.loop-node-test.false, c.are_same_node.ensures) in
    that_node (rules s) c.loop-node.here c.args.node c.loop-node.invariant.here same
