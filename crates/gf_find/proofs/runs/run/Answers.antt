use Rattle.gf_find.proofs.runs.run.Goals as goal

pub returns-in-Ok-clause-ran : goal.returns-in-Ok-clause-ran
returns-in-Ok-clause-ran g c =
    let said = c.finder.ensures in
    rw c.in-Ok.is (rw (← c.deref.ensures.value) (record {
      reported = said.reported;
      find = said.find;
      events = said.events;
      certified = said.certified;
      verified = said.verified;
      check = said.check;
      generated = said.generated;
      set = said.set;
      scalar = said.scalar;
      refused = said.refused;
      write = said.write;
      write_fault = said.write_fault;
      write_line = said.write_line;
      complete = said.complete;
      exact = said.exact;
      unopened = said.unopened;
      out_unchanged = said.out_unchanged;
      err_unchanged = said.err_unchanged;
    }))
