use Rattle.std.proofs.Common.{◌+◌, Some, None, sym, subst}
use Rattle.std.specs.Prelude.{IsUtf8}
use Rattle.std.proofs.lemmas.List.{take_rest}
use Rattle.finder_c.proofs.Reading.{no_text, no_utf8, zero_at}
use Rattle.finder_c.proofs.layout.cut_text.Goals as goal

pub returns-in-Ok-clause-cut : goal.returns-in-Ok-clause-cut
returns-in-Ok-clause-cut c = record {
  end = c.in-Some.end;
  ended = zero_at c.args.bytes.now (Some c.in-Some.end) c.in-Some.ensures;
  before = c.in-Ok.ensures.cases.0;
  after = take_rest c.args.bytes.now (c.in-Some.end + 1);
  is_text = subst IsUtf8 (sym c.in-Ok.ensures.cases.0) c.in-Ok.ensures.cases.1;
}

pub returns-in-Err-clause-none : goal.returns-in-Err-clause-none
returns-in-Err-clause-none c text rest =
    no_utf8 c.args.bytes.now text rest c.in-Some.end (zero_at c.args.bytes.now (Some c.in-Some.end) c.in-Some.ensures) c.in-Err.ensures.cases.0

pub returns-in-None-clause-none : goal.returns-in-None-clause-none
returns-in-None-clause-none c text rest = no_text c.args.bytes.now text rest (zero_at c.args.bytes.now None c.in-None.ensures)
