use Rattle.std.proofs.Common.{◌≡◌, false, true, refl, sym, ◌∙◌, arith, slice_index_or}
use Rattle.spec_times.specs.TimeWords.{fits}
use Rattle.window_text.proofs.Forms.{form_at, form_at_end, other_length}
use Rattle.window_text.proofs.reading.has_form.Goals as goal

pub returns-then-picture-word : goal.returns-then-picture-word
returns-then-picture-word c = sym (other_length c.args.picture.now c.args.word.now c.if-picture-word.true)

pub loop-i-init : goal.loop-i-init
loop-i-init c = refl

pub returns-then-not-fits_picture_byte : goal.returns-then-not-fits_picture_byte
returns-then-not-fits_picture_byte c =
    let at = form_at c.args.picture.now c.args.word.now c.loop-i.i c.loop-i-test.true (omega (arith, c.if-picture-word.false)) in
    let test : fits (slice_index_or c.args.picture.now c.loop-i.i 0) (slice_index_or c.args.word.now c.loop-i.i 0) ≡ false = sym c.fits_picture_byte.ensures ∙ c.if-not-fits_picture_byte.true in
    sym (c.loop-i.invariant ∙ at ∙ rw test refl)

pub loop-i-preserved : goal.loop-i-preserved
loop-i-preserved c =
    let at = form_at c.args.picture.now c.args.word.now c.loop-i.i c.loop-i-test.true (omega (arith, c.if-picture-word.false)) in
    let test : fits (slice_index_or c.args.picture.now c.loop-i.i 0) (slice_index_or c.args.word.now c.loop-i.i 0) ≡ true = sym c.fits_picture_byte.ensures ∙ c.if-not-fits_picture_byte.false in
    c.loop-i.invariant ∙ at ∙ rw test refl

pub returns : goal.returns
returns c = sym (c.loop-i.invariant ∙ form_at_end c.args.picture.now c.args.word.now c.loop-i.i (omega arith) c.if-picture-word.false)
