use Rattle.std.proofs.Common.{◌∙◌, arith}
use Rattle.std.proofs.lemmas.Result.{err_from_is_err_and}
use Rattle.gf_files.specs.declared.errors.FilesError.TheVariants as all
use Rattle.gf_files.proofs.InFile.{passed_on}
use Rattle.gf_files.proofs.Left.{consumed_all, consumes_kept, grown_more}
use Rattle.gf_files.proofs.file.read_rest.Goals as goal

pub returns-in_err-count-clause-fault : goal.returns-in_err-count-clause-fault
returns-in_err-count-clause-fault g c = λ place fault is.
    let given = err_from_is_err_and c.from_residual.result c.from_residual.ensures.1 in
    absurd (c.append_next_bytes.ensures.no_fault place fault (passed_on c.append_next_bytes.result c.from_residual.result _ _ (all.Fault place fault) c.in_err-count.was given.1 given.2 is))

pub returns-in_err-count-clause-large : goal.returns-in_err-count-clause-large
returns-in_err-count-clause-large g c = λ place fault is.
    let given = err_from_is_err_and c.from_residual.result c.from_residual.ensures.1 in
    absurd (c.append_next_bytes.ensures.no_fault place fault (passed_on c.append_next_bytes.result c.from_residual.result _ _ (all.Fault place fault) c.in_err-count.was given.1 given.2 is))

pub returns-in_err-count-clause-failed : goal.returns-in_err-count-clause-failed
returns-in_err-count-clause-failed g c = λ place is.
    let given = err_from_is_err_and c.from_residual.result c.from_residual.ensures.1 in
    let of = c.append_next_bytes.ensures.failed place (passed_on c.append_next_bytes.result c.from_residual.result _ _ (all.NotRead place) c.in_err-count.was given.1 given.2 is) in
    (of.0, omega (arith, c.loop-text.invariant.later, of.1))

pub returns-in_err-count-clause-taken : goal.returns-in_err-count-clause-taken
returns-in_err-count-clause-taken g c = record {
  read = c.loop-text.text.items;
  taken = consumes_kept _ _ _ _ c.loop-text.invariant.taken c.in_err-count.ensures.unread;
  few = c.loop-text.invariant.size;
}

pub returns-then-count-eq0-clause-whole : goal.returns-then-count-eq0-clause-whole
returns-then-count-eq0-clause-whole g c =
    consumed_all _ _ _ (grown_more _ _ _ _ _ _ c.loop-text.invariant.taken c.in_ok-count.ensures.read) (c.in_ok-count.ensures.end c.if-count-eq0.true)

pub returns-then-count-eq0-clause-taken : goal.returns-then-count-eq0-clause-taken
returns-then-count-eq0-clause-taken g c = record {
  read = c.append_next_bytes.new.text.items;
  taken = grown_more _ _ _ _ _ _ c.loop-text.invariant.taken c.in_ok-count.ensures.read;
  few = c.in_ok-count.ensures.small;
}

pub loop-text-preserved : goal.loop-text-preserved
loop-text-preserved g c = record {
  ready = c.append_next_bytes.ensures.ready;
  taken = grown_more _ _ _ _ _ _ c.loop-text.invariant.taken c.in_ok-count.ensures.read;
  size = c.in_ok-count.ensures.small;
  files = c.append_next_bytes.ensures.files ∙ c.loop-text.invariant.files;
  later = omega (arith, c.append_next_bytes.ensures.later, c.loop-text.invariant.later);
}

pub returns-clause-large : goal.returns-clause-large
returns-clause-large g c = λ place fault is.
    (c.loop-text.text.items, c.loop-text.invariant.taken, omega (arith, c.loop-text.invariant.size, c.loop-text-test.false, c.len.ensures))

pub returns-clause-taken : goal.returns-clause-taken
returns-clause-taken g c = record { read = c.loop-text.text.items; taken = c.loop-text.invariant.taken; few = c.loop-text.invariant.size }
