use Rattle.std.proofs.Common.{[], ap}
use Rattle.spec_files.specs.HeaderLines.{header}
use Rattle.gf_files.specs.Reader.{ephemeris_after}
use Rattle.gf_files.proofs.Readers.{after_header, header_ready}
use Rattle.gf_files.proofs.reader.first_reader.Goals as goal

pub returns-clause-ready : goal.returns-clause-ready
unfolding header
returns-clause-ready c = header_ready c.new.result c.new.ensures.open.0
    (record {
      not_whole = c.new.ensures.open.1;
      of_header = record { before = []; same = λ rest. c.new.ensures.header 0 rest };
      late = 22;
      early = c.new.ensures.header 0 [];
    })

pub returns-clause-first : goal.returns-clause-first
unfolding ephemeris_after
returns-clause-first c = λ file lines. ap after_header (c.new.ensures.header file lines)
