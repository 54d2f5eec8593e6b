use Rattle.std.proofs.Common.{◌+◌, ◌≤◌, ℕ, List, Ok, Err, length, refl, sym, ◌∙◌, subst, arith}
use Rattle.std.proofs.lemmas.Result.{err_from_is_err_and}
use Rattle.std.specs.Prelude.{IfOk}
use Rattle.spec_text.specs.declared.limits.TheConstants.{MAX_TEXT_BYTES}
use Rattle.spec_faults.specs.declared.numbers.TheConstants.{FILE_TOO_LARGE}
use Rattle.spec_files.specs.Texts.{fault_at}
use Rattle.spec_files.specs.declared.errors.ReadError.TheVariants as errors
use Rattle.gf_files.specs.declared.errors.FilesError.TheVariants as all
use Rattle.gf_files.specs.Read.{IsGiven, StopsInRest}
use Rattle.gf_files.specs.Reader.{CanGoOn, FeedsPiece}
use Rattle.gf_files.proofs.Giving.{at_start, given_lines, given_read, large_is, large_rest, stops_in_rest, takes_few, takes_few_still, takes_last, window_fits}
use Rattle.gf_files.proofs.InFile.{passed_on}
use Rattle.gf_files.proofs.pieces.feed_rest.Goals as goal

pub loop-fed-init : goal.loop-fed-init
loop-fed-init g c =
    let left = g.S.Shelf.left c.args.shelf.now in
    record {
      ready = c.requires.open;
      given = subst (λ (l : List ℕ). IsGiven c.args.reader left left l 0 (Ok (record { reader = c.args.reader; end_line = 1 }))) (sym c.clear.ensures.items)
          (at_start c.args.reader left c.requires.reader);
      few = omega arith;
      files = refl;
      later = omega arith;
    }

pub overflow_sub-taken : goal.overflow_sub-taken
overflow_sub-taken g c = omega (arith, c.loop-fed.invariant.few)

pub append_next_bytes-requires-clause-ready : goal.append_next_bytes-requires-clause-ready
append_next_bytes-requires-clause-ready g c = c.loop-fed.invariant.ready

pub append_next_bytes-requires-clause-some : goal.append_next_bytes-requires-clause-some
append_next_bytes-requires-clause-some g c = omega (arith, c.loop-fed.invariant.few)

pub append_next_bytes-requires-clause-small : goal.append_next_bytes-requires-clause-small
append_next_bytes-requires-clause-small g c = omega (arith, c.loop-fed.invariant.few, c.loop-fed.invariant.given.size)

pub returns-in_err-count-clause-failed : goal.returns-in_err-count-clause-failed
returns-in_err-count-clause-failed g c = λ place is.
    let given = err_from_is_err_and c.from_residual.result c.from_residual.ensures.1 in
    let of = c.append_next_bytes.ensures.failed place (passed_on c.append_next_bytes.result c.from_residual.result _ _ (all.NotRead place) c.in_err-count.was given.1 given.2 is) in
    (of.0, omega (arith, c.loop-fed.invariant.later, of.1))

pub returns-in_err-count-clause-taken : goal.returns-in_err-count-clause-taken
returns-in_err-count-clause-taken g c =
    takes_few_still _ _ _ _ _ _ _ c.loop-fed.invariant.given (omega (arith, c.loop-fed.invariant.few)) c.in_err-count.ensures.unread

pub returns-in_err-count-clause-files : goal.returns-in_err-count-clause-files
returns-in_err-count-clause-files g c = c.append_next_bytes.ensures.files ∙ c.loop-fed.invariant.files

pub returns-in_err-count-clause-later : goal.returns-in_err-count-clause-later
returns-in_err-count-clause-later g c = omega (arith, c.append_next_bytes.ensures.later, c.loop-fed.invariant.later)

pub feed_last_piece-requires : goal.feed_last_piece-requires
feed_last_piece-requires g c =
    let now = given_read _ _ _ _ _ _ _ _ _ c.loop-fed.invariant.given c.in_ok-count.ensures.read in
    let few : c.loop-fed.taken + c.in_ok-count.count ≤ MAX_TEXT_BYTES = omega (arith, c.loop-fed.invariant.few, c.if-count-eq0.true) in
    subst (λ (l : List ℕ). CanGoOn c.loop-fed.fed (length l)) (sym c.deref.ensures.value) (window_fits _ _ _ _ _ _ now few)

pub returns-then-count-eq0-clause-fed : goal.returns-then-count-eq0-clause-fed
returns-then-count-eq0-clause-fed g c =
    let now = given_read _ _ _ _ _ _ _ _ _ c.loop-fed.invariant.given c.in_ok-count.ensures.read in
    let few : c.loop-fed.taken + c.in_ok-count.count ≤ MAX_TEXT_BYTES = omega (arith, c.loop-fed.invariant.few, c.if-count-eq0.true) in
    takes_last _ _ _ _ _ _ c.feed_last_piece.result now few (c.in_ok-count.ensures.end c.if-count-eq0.true)
    (subst (λ (l : List ℕ). IfOk c.feed_last_piece.result (λ last. FeedsPiece c.loop-fed.fed l (Ok last))) c.deref.ensures.value c.feed_last_piece.ensures.fed)

pub returns-then-count-eq0-clause-fault : goal.returns-then-count-eq0-clause-fault
returns-then-count-eq0-clause-fault g c = λ place fault is.
    let now = given_read _ _ _ _ _ _ _ _ _ c.loop-fed.invariant.given c.in_ok-count.ensures.read in
    let few : c.loop-fed.taken + c.in_ok-count.count ≤ MAX_TEXT_BYTES = omega (arith, c.loop-fed.invariant.few, c.if-count-eq0.true) in
    let of = c.feed_last_piece.ensures.fault place fault is in (
      of.0,
      stops_in_rest _ _ _ _ _ _ fault now few (c.in_ok-count.ensures.end c.if-count-eq0.true)
          (subst (λ (l : List ℕ). FeedsPiece c.loop-fed.fed l (Err (errors.Fault fault))) c.deref.ensures.value of.1),
    )

pub returns-then-count-eq0-clause-taken : goal.returns-then-count-eq0-clause-taken
returns-then-count-eq0-clause-taken g c =
    let now = given_read _ _ _ _ _ _ _ _ _ c.loop-fed.invariant.given c.in_ok-count.ensures.read in
    takes_few _ _ _ _ _ _ now (omega (arith, c.loop-fed.invariant.few, c.if-count-eq0.true))

pub returns-then-count-eq0-clause-files : goal.returns-then-count-eq0-clause-files
returns-then-count-eq0-clause-files g c = c.append_next_bytes.ensures.files ∙ c.loop-fed.invariant.files

pub returns-then-count-eq0-clause-later : goal.returns-then-count-eq0-clause-later
returns-then-count-eq0-clause-later g c = omega (arith, c.append_next_bytes.ensures.later, c.loop-fed.invariant.later)

pub returns-then-taken-gt-MAX_TEXT_BYTES-clause-fault : goal.returns-then-taken-gt-MAX_TEXT_BYTES-clause-fault
returns-then-taken-gt-MAX_TEXT_BYTES-clause-fault g c = λ place fault is.
    let now = given_read _ _ _ _ _ _ _ _ _ c.loop-fed.invariant.given c.in_ok-count.ensures.read in
    let which = large_is c.args.file place (fault_at 0 FILE_TOO_LARGE) fault _ refl is in
    (which.0, subst (StopsInRest (g.S.Shelf.left c.args.shelf.now) c.args.reader) which.1 (large_rest _ _ _ _ _ _ c.requires.reader now (omega (arith, c.if-taken-gt-MAX_TEXT_BYTES.true))))

pub returns-then-taken-gt-MAX_TEXT_BYTES-clause-taken : goal.returns-then-taken-gt-MAX_TEXT_BYTES-clause-taken
returns-then-taken-gt-MAX_TEXT_BYTES-clause-taken g c =
    let now = given_read _ _ _ _ _ _ _ _ _ c.loop-fed.invariant.given c.in_ok-count.ensures.read in
    takes_few _ _ _ _ _ _ now (omega (arith, c.loop-fed.invariant.few, c.in_ok-count.ensures.few))

pub returns-then-taken-gt-MAX_TEXT_BYTES-clause-files : goal.returns-then-taken-gt-MAX_TEXT_BYTES-clause-files
returns-then-taken-gt-MAX_TEXT_BYTES-clause-files g c = c.append_next_bytes.ensures.files ∙ c.loop-fed.invariant.files

pub returns-then-taken-gt-MAX_TEXT_BYTES-clause-later : goal.returns-then-taken-gt-MAX_TEXT_BYTES-clause-later
returns-then-taken-gt-MAX_TEXT_BYTES-clause-later g c = omega (arith, c.append_next_bytes.ensures.later, c.loop-fed.invariant.later)

pub feed_whole_lines-fed-requires-clause-fits : goal.feed_whole_lines-fed-requires-clause-fits
feed_whole_lines-fed-requires-clause-fits g c =
    let now = given_read _ _ _ _ _ _ _ _ _ c.loop-fed.invariant.given c.in_ok-count.ensures.read in
    window_fits _ _ _ _ _ _ now (omega (arith, c.if-taken-gt-MAX_TEXT_BYTES.false))

pub loop-fed-smaller : goal.loop-fed-smaller
loop-fed-smaller g c = omega (arith, c.if-count-eq0.false, c.loop-fed.invariant.few, c.if-taken-gt-MAX_TEXT_BYTES.false)

pub loop-fed-preserved : goal.loop-fed-preserved
loop-fed-preserved g c =
    let now = given_read _ _ _ _ _ _ _ _ _ c.loop-fed.invariant.given c.in_ok-count.ensures.read in
    record {
      ready = c.append_next_bytes.ensures.ready;
      given = given_lines _ _ _ _ _ _ _ _ now c.feed_whole_lines-fed.ensures;
      few = omega (arith, c.if-taken-gt-MAX_TEXT_BYTES.false);
      files = c.append_next_bytes.ensures.files ∙ c.loop-fed.invariant.files;
      later = omega (arith, c.append_next_bytes.ensures.later, c.loop-fed.invariant.later);
    }
