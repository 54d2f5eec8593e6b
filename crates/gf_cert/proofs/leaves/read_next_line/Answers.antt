use Rattle.std.proofs.Common.{◌≡◌, Ok, None, sym, ap, ◌∙◌, subst, false, true, arith}
use Rattle.std.specs.Prelude.{reverse, length}
use Rattle.spec_certificates.specs.Checks.{after_end, is_end, leaves_from}
use Rattle.spec_certificates.proofs.Binds.{fronted}
use Rattle.gf_cert.specs.Steps.{next_entry}
use Rattle.gf_cert.specs.Answers.{Fails, refusal_of}
use Rattle.gf_cert.specs.Search.{cutting}
use Rattle.gf_cert.proofs.Walking.{bad_end, bad_leaf, ends_early, fails_so, good_end, good_leaf, known_next, more_after, stops}
use Rattle.gf_cert.proofs.leaves.read_next_line.Goals as goal

pub returns-in-Err-clause-read : goal.returns-in-Err-clause-read
returns-in-Err-clause-read g c =
    subst (Fails _) (sym c.refusal_of_fault.ensures)
    (stops (cutting c.args.judge.now.search) c.args.lines.now.end_line c.args.found.now.items (reverse c.args.waiting.now.items) c.args.lines.now.left
    c.in-Err.fault (sym c.next_entry.ensures.entry ∙ c.in-Err.is))

pub returns-in-Ok-None-clause-read : goal.returns-in-Ok-None-clause-read
returns-in-Ok-None-clause-read g c =
    let e1 = c.next_entry.ensures.entry in
    let e2 = c.in-Ok-None.is in
    let e3 = c.in-Ok-None.field-0-is in
    let next : next_entry c.args.lines.now.left ≡ Ok None = cc in
    let at = c.end_line.ensures ∙ c.next_entry.ensures.end in
    subst (Fails _) (sym (c.refusal_of_fault-in-Ok-None.ensures ∙ ap refusal_of (c.fault_at.ensures ∙ ap (λ n. record { line = n; number = 74 }) at)))
    (ends_early (cutting c.args.judge.now.search) c.args.lines.now.end_line c.args.found.now.items (reverse c.args.waiting.now.items) c.args.lines.now.left next)

pub returns-in-Err-place_leaf-clause-read : goal.returns-in-Err-place_leaf-clause-read
returns-in-Err-place_leaf-clause-read g c =
    let next = known_next c.args.lines.now.left c.next_entry.ensures.entry c.in-Ok-Some-default-Leaf.is c.in-Ok-Some-default-Leaf.field-0-is c.in-Ok-Some-default-Leaf.field-0-0-1-is in
    fails_so _ _ c.in-Err-place_leaf.error
    (bad_leaf (cutting c.args.judge.now.search) c.args.lines.now.end_line c.args.found.now.items (reverse c.args.waiting.now.items) c.args.lines.now.left _ _ next) c.in-Err-place_leaf.ensures.place

pub returns-in_ok-push-in-Ok-Some-default-Leaf-clause-read : goal.returns-in_ok-push-in-Ok-Some-default-Leaf-clause-read
returns-in_ok-push-in-Ok-Some-default-Leaf-clause-read g c =
    let s = c.args.judge.now.search in
    let next = known_next c.args.lines.now.left c.next_entry.ensures.entry c.in-Ok-Some-default-Leaf.is c.in-Ok-Some-default-Leaf.field-0-is c.in-Ok-Some-default-Leaf.field-0-0-1-is in
    let more = c.push.new.self.items in
    sym ((λ i. fronted more (leaves_from (cutting s) (c.next_entry.ensures.end i) (reverse c.place_leaf.new.waiting.items) (length more) (c.in-Ok-Some-default-Leaf.ensures.left i)))
    ∙ good_leaf (cutting s) c.args.lines.now.end_line c.args.found.now.items (reverse c.args.waiting.now.items) c.args.lines.now.left _ _ next
    (reverse c.place_leaf.new.waiting.items) more c.in-Ok.ensures.place c.in_ok-push-in-Ok-Some-default-Leaf.ensures.items)

pub returns-then-not-is_end_allowed-clause-read : goal.returns-then-not-is_end_allowed-clause-read
returns-then-not-is_end_allowed-clause-read g c =
    let next = known_next c.args.lines.now.left c.next_entry.ensures.entry c.in-Ok-Some-default-End.is c.in-Ok-Some-default-End.field-0-is c.in-Ok-Some-default-End.field-0-0-1-is in
    let no : is_end (reverse c.args.waiting.now.items) (length c.args.found.now.items) c.in-Ok-Some-default-End.count ≡ false = grind (arith, c.if-not-is_end_allowed.true, c.is_end_allowed.ensures) in
    subst (Fails _) (sym (c.refusal_of_fault-then-not-is_end_allowed.ensures ∙ ap refusal_of c.fault_at-then-not-is_end_allowed.ensures))
    (bad_end (cutting c.args.judge.now.search) c.args.lines.now.end_line c.args.found.now.items (reverse c.args.waiting.now.items) c.args.lines.now.left _ _ next no)

pub returns-in-Ok-check_no_line_follows-clause-read : goal.returns-in-Ok-check_no_line_follows-clause-read
returns-in-Ok-check_no_line_follows-clause-read g c =
    let next = known_next c.args.lines.now.left c.next_entry.ensures.entry c.in-Ok-Some-default-End.is c.in-Ok-Some-default-End.field-0-is c.in-Ok-Some-default-End.field-0-0-1-is in
    let yes : is_end (reverse c.args.waiting.now.items) (length c.args.found.now.items) c.in-Ok-Some-default-End.count ≡ true = grind (arith, c.if-not-is_end_allowed.false, c.is_end_allowed.ensures) in
    good_end (cutting c.args.judge.now.search) c.args.lines.now.end_line c.args.found.now.items (reverse c.args.waiting.now.items) c.args.lines.now.left _ _ next yes
    (ap after_end (sym c.in-Ok-Some-default-End.ensures.left) ∙ c.in-Ok-check_no_line_follows.ensures)

pub returns-in-Err-check_no_line_follows-clause-read : goal.returns-in-Err-check_no_line_follows-clause-read
returns-in-Err-check_no_line_follows-clause-read g c =
    let next = known_next c.args.lines.now.left c.next_entry.ensures.entry c.in-Ok-Some-default-End.is c.in-Ok-Some-default-End.field-0-is c.in-Ok-Some-default-End.field-0-0-1-is in
    let yes : is_end (reverse c.args.waiting.now.items) (length c.args.found.now.items) c.in-Ok-Some-default-End.count ≡ true = grind (arith, c.if-not-is_end_allowed.false, c.is_end_allowed.ensures) in
    subst (Fails _) (sym c.refusal_of_fault-in-Err-check_no_line_follows.ensures)
    (more_after (cutting c.args.judge.now.search) c.args.lines.now.end_line c.args.found.now.items (reverse c.args.waiting.now.items) c.args.lines.now.left _ _ next yes
    c.in-Err-check_no_line_follows.fault (ap after_end (sym c.in-Ok-Some-default-End.ensures.left) ∙ c.in-Err-check_no_line_follows.ensures))
