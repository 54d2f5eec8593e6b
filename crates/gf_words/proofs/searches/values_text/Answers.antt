use Rattle.std.proofs.Common.{◌∙◌, sym, ap}
use Rattle.spec_requests.specs.Names.{Text}
use Rattle.spec_kinds.specs.Table.{is_unused}
use Rattle.option_values.specs.Readings.{values_of}
use Rattle.gf_words.proofs.Answering.{no_text, radii_text, ref_text}
use Rattle.gf_words.proofs.Rules.{made_along}
use Rattle.gf_words.proofs.searches.values_text.Goals as goal

pub returns-then-takes_radii : goal.returns-then-takes_radii
returns-then-takes_radii c =
    made_along (λ (text : Text). text) c.with_second_word.result _ _
    (radii_text (values_of c.args.matches.now) c.args.kind c.in_ok-first.first c.word_or_default-then-takes_radii.result.now
    (sym c.takes_radii.ensures ∙ c.if-takes_radii.true) (c.in_ok-first.ensures ∙ c.word_or_default.ensures) c.word_or_default-then-takes_radii.ensures)
    c.with_second_word.ensures

pub returns-then-is_unused : goal.returns-then-is_unused
returns-then-is_unused c =
    made_along (λ (text : Text). text) c.copy_text-then-is_unused.result _ _
    (no_text (values_of c.args.matches.now) c.args.kind (sym c.takes_radii.ensures ∙ c.if-takes_radii.false)
    (ap is_unused (sym c.reference.ensures) ∙ sym c.is_unused.ensures ∙ c.if-is_unused.true))
    c.copy_text-then-is_unused.ensures

pub returns : goal.returns
returns c =
    made_along (λ (text : Text). text) c.copy_text-2.result _ _
    (ref_text (values_of c.args.matches.now) c.args.kind c.word_or_default-2.result.now
    (sym c.takes_radii.ensures ∙ c.if-takes_radii.false)
    (ap is_unused (sym c.reference.ensures) ∙ sym c.is_unused.ensures ∙ c.if-is_unused.false) c.word_or_default-2.ensures)
    c.copy_text-2.ensures
