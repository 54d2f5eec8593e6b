use Rattle.std.proofs.Common.{◌∙◌, inl, inr, List, ℕ, subst, sym}
use Rattle.std.specs.Io.KnownBytes.{Appends}
use Rattle.spec_output.specs.Writing.{AppendsPart}
use Rattle.spec_outcomes.proofs.TextStatuses.{not_reported, not_unwritten}
use Rattle.gf_find.proofs.Answered.{cause_is, certifies, checks, verifies, outcome_is, finds, generates, passes, promises, refused_exactly, refused_only, relates, text_not_refused}
use Rattle.gf_find.proofs.top.finder.Goals as goal

pub returns-in-Ok-clause-reported : goal.returns-in-Ok-clause-reported
returns-in-Ok-clause-reported g c = λ zero.
    let P : List ℕ → Type 0 = λ text. Appends (g.O.Sink.bytes c.args.out.now) (g.O.Sink.bytes c.write_text.new.out) text in
    (c.in-Ok.text.items, outcome_is _ _ _ c.in-Ok.ensures.answered _ _, subst P c.deref.ensures.value (c.write_text.ensures.whole zero))

pub returns-in-Ok-clause-find : goal.returns-in-Ok-clause-find
returns-in-Ok-clause-find g c = λ find asked zero.
    let P : List ℕ → Type 0 = λ text. Appends (g.O.Sink.bytes c.args.out.now) (g.O.Sink.bytes c.write_text.new.out) text in
    finds _ _ _ c.in-Ok.ensures.answered _ _ (subst P c.deref.ensures.value (c.write_text.ensures.whole zero)) find asked

pub returns-in-Ok-clause-events : goal.returns-in-Ok-clause-events
returns-in-Ok-clause-events g c = λ find asked zero.
    let P : List ℕ → Type 0 = λ text. Appends (g.O.Sink.bytes c.args.out.now) (g.O.Sink.bytes c.write_text.new.out) text in
    promises _ _ _ c.in-Ok.ensures.answered _ _ (subst P c.deref.ensures.value (c.write_text.ensures.whole zero)) find asked

pub returns-in-Ok-clause-certified : goal.returns-in-Ok-clause-certified
returns-in-Ok-clause-certified g c = λ find asked zero.
    let P : List ℕ → Type 0 = λ text. Appends (g.O.Sink.bytes c.args.out.now) (g.O.Sink.bytes c.write_text.new.out) text in
    certifies _ _ _ c.in-Ok.ensures.answered _ _ (subst P c.deref.ensures.value (c.write_text.ensures.whole zero)) find asked

pub returns-in-Ok-clause-verified : goal.returns-in-Ok-clause-verified
returns-in-Ok-clause-verified g c = λ find cert asked zero.
    let P : List ℕ → Type 0 = λ text. Appends (g.O.Sink.bytes c.args.out.now) (g.O.Sink.bytes c.write_text.new.out) text in
    verifies _ _ _ c.in-Ok.ensures.answered _ _ (subst P c.deref.ensures.value (c.write_text.ensures.whole zero)) find cert asked

pub returns-in-Ok-clause-check : goal.returns-in-Ok-clause-check
returns-in-Ok-clause-check g c = λ names asked zero.
    let P : List ℕ → Type 0 = λ text. Appends (g.O.Sink.bytes c.args.out.now) (g.O.Sink.bytes c.write_text.new.out) text in
    checks _ _ _ c.in-Ok.ensures.answered _ _ (subst P c.deref.ensures.value (c.write_text.ensures.whole zero)) names asked

pub returns-in-Ok-clause-generated : goal.returns-in-Ok-clause-generated
returns-in-Ok-clause-generated g c = λ blocks seed workers asked zero.
    let P : List ℕ → Type 0 = λ text. Appends (g.O.Sink.bytes c.args.out.now) (g.O.Sink.bytes c.write_text.new.out) text in
    generates _ _ _ c.in-Ok.ensures.answered _ _ (subst P c.deref.ensures.value (c.write_text.ensures.whole zero)) blocks seed workers asked

pub returns-in-Ok-clause-set : goal.returns-in-Ok-clause-set
returns-in-Ok-clause-set g c = λ find ref2 relation asked zero.
    let P : List ℕ → Type 0 = λ text. Appends (g.O.Sink.bytes c.args.out.now) (g.O.Sink.bytes c.write_text.new.out) text in
    relates _ _ _ c.in-Ok.ensures.answered _ _ (subst P c.deref.ensures.value (c.write_text.ensures.whole zero)) find ref2 relation asked

pub returns-in-Ok-clause-scalar : goal.returns-in-Ok-clause-scalar
returns-in-Ok-clause-scalar g c = λ ask asked zero.
    let P : List ℕ → Type 0 = λ text. Appends (g.O.Sink.bytes c.args.out.now) (g.O.Sink.bytes c.write_text.new.out) text in
    passes _ _ _ c.in-Ok.ensures.answered _ _ (subst P c.deref.ensures.value (c.write_text.ensures.whole zero)) ask asked

pub returns-in-Ok-clause-write : goal.returns-in-Ok-clause-write
returns-in-Ok-clause-write g c = λ five.
    let P : List ℕ → Type 0 = λ text. AppendsPart (g.O.Sink.bytes c.args.out.now) (g.O.Sink.bytes c.write_text.new.out) text in
    (c.in-Ok.text.items, outcome_is _ _ _ c.in-Ok.ensures.answered _ _, subst P c.deref.ensures.value (c.write_text.ensures.part five))

pub returns-in-Ok-clause-refused : goal.returns-in-Ok-clause-refused
returns-in-Ok-clause-refused g c = λ zero five. elim c.write_text.ensures.known [ inl is ↦ absurd (zero is) | inr is ↦ absurd (five is) ]

pub returns-in-Ok-clause-complete : goal.returns-in-Ok-clause-complete
returns-in-Ok-clause-complete g c = λ text known outcome.
    elim c.write_text.ensures.known [ inl is ↦ inl is | inr is ↦ inr (inr (inr (c.write_text.ensures.cause is))) ]

pub returns-in-Ok-clause-exact : goal.returns-in-Ok-clause-exact
returns-in-Ok-clause-exact g c = λ refusal known outcome.
    inr (inr (text_not_refused _ _ _ _ known c.in-Ok.text.items refusal (outcome_is _ _ _ c.in-Ok.ensures.answered _ _) outcome))

pub returns-in-Err-clause-reported : goal.returns-in-Err-clause-reported
returns-in-Err-clause-reported g c = λ zero. absurd (not_reported _ (sym c.write_refusal.ensures.written.2 ∙ zero))

pub returns-in-Err-clause-find : goal.returns-in-Err-clause-find
returns-in-Err-clause-find g c = λ find asked zero. absurd (not_reported _ (sym c.write_refusal.ensures.written.2 ∙ zero))

pub returns-in-Err-clause-events : goal.returns-in-Err-clause-events
returns-in-Err-clause-events g c = λ find asked zero. absurd (not_reported _ (sym c.write_refusal.ensures.written.2 ∙ zero))

pub returns-in-Err-clause-certified : goal.returns-in-Err-clause-certified
returns-in-Err-clause-certified g c = λ find asked zero. absurd (not_reported _ (sym c.write_refusal.ensures.written.2 ∙ zero))

pub returns-in-Err-clause-verified : goal.returns-in-Err-clause-verified
returns-in-Err-clause-verified g c = λ find cert asked zero. absurd (not_reported _ (sym c.write_refusal.ensures.written.2 ∙ zero))

pub returns-in-Err-clause-check : goal.returns-in-Err-clause-check
returns-in-Err-clause-check g c = λ names asked zero. absurd (not_reported _ (sym c.write_refusal.ensures.written.2 ∙ zero))

pub returns-in-Err-clause-generated : goal.returns-in-Err-clause-generated
returns-in-Err-clause-generated g c = λ blocks seed workers asked zero. absurd (not_reported _ (sym c.write_refusal.ensures.written.2 ∙ zero))

pub returns-in-Err-clause-set : goal.returns-in-Err-clause-set
returns-in-Err-clause-set g c = λ find ref2 relation asked zero. absurd (not_reported _ (sym c.write_refusal.ensures.written.2 ∙ zero))

pub returns-in-Err-clause-scalar : goal.returns-in-Err-clause-scalar
returns-in-Err-clause-scalar g c = λ ask asked zero. absurd (not_reported _ (sym c.write_refusal.ensures.written.2 ∙ zero))

pub returns-in-Err-clause-refused : goal.returns-in-Err-clause-refused
returns-in-Err-clause-refused g c = λ zero five.
    let written = c.write_refusal.ensures.written in
    (written.0, cause_is _ _ _ _ written.0 c.in-Err.refusal written.1 c.in-Err.ensures.refused, written.2, written.3)

pub returns-in-Err-clause-write : goal.returns-in-Err-clause-write
returns-in-Err-clause-write g c = λ five. absurd (not_unwritten _ (sym c.write_refusal.ensures.written.2 ∙ five))

pub returns-in-Err-clause-write_fault : goal.returns-in-Err-clause-write_fault
returns-in-Err-clause-write_fault g c = λ five. absurd (not_unwritten _ (sym c.write_refusal.ensures.written.2 ∙ five))

pub returns-in-Err-clause-write_line : goal.returns-in-Err-clause-write_line
returns-in-Err-clause-write_line g c = λ five. absurd (not_unwritten _ (sym c.write_refusal.ensures.written.2 ∙ five))

pub returns-in-Err-clause-complete : goal.returns-in-Err-clause-complete
returns-in-Err-clause-complete g c = λ text known outcome.
    let written = c.write_refusal.ensures.written in
    elim (refused_only _ _ _ _ known _ written.0 c.in-Err.refusal written.1 written.2 c.in-Err.ensures.refused text outcome) [
      | inl memory ↦ inr (inl memory)
      | inr rose ↦ inr (inr (inl rose))
    ]

pub returns-in-Err-clause-exact : goal.returns-in-Err-clause-exact
returns-in-Err-clause-exact g c = λ refusal known outcome.
    let written = c.write_refusal.ensures.written in
    refused_exactly _ _ _ _ known _ written.0 c.in-Err.refusal written.1 written.2 c.in-Err.ensures.refused refusal outcome

pub returns-in-Err-clause-err_unchanged : goal.returns-in-Err-clause-err_unchanged
returns-in-Err-clause-err_unchanged g c = λ zero. absurd (not_reported _ (sym c.write_refusal.ensures.written.2 ∙ zero))
