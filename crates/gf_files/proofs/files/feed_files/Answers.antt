use Rattle.std.proofs.Common.{◌<◌, ◌≤◌, ◌⊎◌, ◌∙◌, Option, arith, length, refl, subst, sym}
use Rattle.std.proofs.lemmas.List.{length-map}
use Rattle.std.proofs.lemmas.Result.{err_from_is_err_and}
use Rattle.std.specs.Prelude.{string_bytes, ℕ}
use Rattle.gf_edges.specs.Edges.{Files, Lacks, Rose}
use Rattle.spec_files.specs.Files.{FewAreTaken}
use Rattle.spec_files.specs.Reading.{HasFirstFault, IsNotRead}
use Rattle.gf_files.specs.Read.{StopsAtFile, TakesFile}
use Rattle.gf_files.specs.declared.errors.FilesError.TheVariants as all
use Rattle.gf_files.proofs.InFile.{passed_on}
use Rattle.gf_files.proofs.NameLists.{faults_at, lacks_this, name_at, not_read_at, some_first, takes_one, texts_of}
use Rattle.gf_files.proofs.Runs.{none_read}
use Rattle.gf_files.proofs.files.feed_files.Goals as goal

pub loop-file-init : goal.loop-file-init
loop-file-init g c = record {
  read = none_read _ c.first_reader-reader.result c.first_reader-reader.ensures.ready c.first_reader-reader.ensures.first;
  files = refl;
  later = omega arith;
  lacking = λ lacks. refl;
  taken = λ some. absurd (omega (arith, some));
}

pub returns-in_err-fed-clause-fault : goal.returns-in_err-fed-clause-fault
returns-in_err-fed-clause-fault g c = λ file fault is.
    let names = texts_of c.args.names.now in
    let files = g.S.Shelf.files c.args.shelf.now in
    let place = c.loop-file.file in
    let given = err_from_is_err_and c.from_residual.result c.from_residual.ensures.1 in
    let of = c.feed_file.ensures.fault file fault (passed_on c.feed_file.result c.from_residual.result _ _ (all.Fault file fault) c.in_err-fed.was given.1 given.2 is) in
    let there = name_at c.args.names.now place c.index-names-file.result c.deref.result.now c.loop-file-test.true c.index-names-file.is c.deref.ensures in
    let many = length-map c.args.names.now string_bytes in
    let few : length names ≤ 64 = omega (arith, many, c.requires) in
    subst (λ (f : ℕ). HasFirstFault files names f fault) (sym of.0)
    (faults_at files names place c.deref.result.now there c.loop-file.reader c.loop-file.end_line fault few c.loop-file.invariant.read
    (subst (λ (f : Option Files). StopsAtFile f c.deref.result.now c.loop-file.reader fault) c.loop-file.invariant.files of.1))

pub returns-in_err-fed-clause-not_read : goal.returns-in_err-fed-clause-not_read
returns-in_err-fed-clause-not_read g c = λ file is.
    let names = texts_of c.args.names.now in
    let files = g.S.Shelf.files c.args.shelf.now in
    let place = c.loop-file.file in
    let given = err_from_is_err_and c.from_residual.result c.from_residual.ensures.1 in
    let of = c.feed_file.ensures.not_read file (passed_on c.feed_file.result c.from_residual.result _ _ (all.NotRead file) c.in_err-fed.was given.1 given.2 is) in
    let there = name_at c.args.names.now place c.index-names-file.result c.deref.result.now c.loop-file-test.true c.index-names-file.is c.deref.ensures in
    let many = length-map c.args.names.now string_bytes in
    let few : length names ≤ 64 = omega (arith, many, c.requires) in
    let before = g.S.Shelf.faults c.loop-file.shelf in
    let now = g.S.Shelf.faults c.feed_file.new.shelf in
    subst (λ (f : ℕ). IsNotRead files names (g.S.Shelf.faults c.args.shelf.now) now f) (sym of.0)
    (not_read_at files names place c.deref.result.now there c.loop-file.reader c.loop-file.end_line _ before now few c.loop-file.invariant.read c.loop-file.invariant.later
    (subst (λ (f : Option Files). Rose before now ⊎ Lacks f c.deref.result.now) c.loop-file.invariant.files of.1))

pub returns-in_err-fed-clause-lacking : goal.returns-in_err-fed-clause-lacking
returns-in_err-fed-clause-lacking g c = λ lacks.
    let place = c.loop-file.file in
    let first = c.loop-file.invariant.lacking lacks in
    let there = name_at c.args.names.now place c.index-names-file.result c.deref.result.now c.loop-file-test.true c.index-names-file.is c.deref.ensures in
    let missed = c.feed_file.ensures.lacking (lacks_this _ _ place c.deref.result.now there _ c.loop-file.invariant.files first lacks) in
    let given = err_from_is_err_and c.from_residual.result c.from_residual.ensures.1 in
    cc (first, missed, c.in_err-fed.was, given.1, given.2)

pub returns-in_err-fed-clause-taken : goal.returns-in_err-fed-clause-taken
returns-in_err-fed-clause-taken g c = λ some ready.
    let there = name_at c.args.names.now c.loop-file.file c.index-names-file.result c.deref.result.now c.loop-file-test.true c.index-names-file.is c.deref.ensures in
    record {
      file = c.loop-file.file;
      name = c.deref.result.now;
      named = there;
      taken = subst (λ (f : Option Files). FewAreTaken f c.deref.result.now (g.S.Shelf.left c.feed_file.new.shelf)) c.loop-file.invariant.files (c.feed_file.ensures.taken ready);
    }

pub loop-file-preserved : goal.loop-file-preserved
loop-file-preserved g c =
    let place = c.loop-file.file in
    let there = name_at c.args.names.now place c.index-names-file.result c.deref.result.now c.loop-file-test.true c.index-names-file.is c.deref.ensures in
    record {
      read = takes_one (g.S.Shelf.files c.args.shelf.now) (texts_of c.args.names.now) place c.deref.result.now there c.loop-file.reader c.loop-file.end_line c.in_ok-fed.fed
          c.loop-file.invariant.read
          (subst (λ (f : Option Files). TakesFile f c.deref.result.now c.loop-file.reader c.in_ok-fed.fed) c.loop-file.invariant.files c.in_ok-fed.ensures.fed);
      files = c.feed_file.ensures.files ∙ c.loop-file.invariant.files;
      later = omega (arith, c.feed_file.ensures.later, c.loop-file.invariant.later);
      lacking = λ lacks.
          let first = c.loop-file.invariant.lacking lacks in
          let missed = c.feed_file.ensures.lacking (lacks_this _ _ place c.deref.result.now there _ c.loop-file.invariant.files first lacks) in
          absurd (cc (missed, c.in_ok-fed.was));
      taken = λ some ready. record {
        file = place;
        name = c.deref.result.now;
        named = there;
        taken = subst (λ (f : Option Files). FewAreTaken f c.deref.result.now (g.S.Shelf.left c.feed_file.new.shelf)) c.loop-file.invariant.files (c.feed_file.ensures.taken ready);
      };
    }

pub returns-clause-taken : goal.returns-clause-taken
returns-clause-taken g c = λ some ready.
    let many : 0 < c.loop-file.file = omega (arith, some, c.loop-file-test.false) in
    c.loop-file.invariant.taken many ready

pub returns-clause-lacking : goal.returns-clause-lacking
returns-clause-lacking g c = λ lacks.
    let first = c.loop-file.invariant.lacking lacks in
    let some = some_first _ _ lacks in
    let many = length-map c.args.names.now string_bytes in
    absurd (omega (arith, first, some, many, c.loop-file-test.false))
