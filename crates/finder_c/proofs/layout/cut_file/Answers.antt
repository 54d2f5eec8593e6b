use Rattle.finder_c.proofs.layout.cut_file.Goals as goal

pub returns-in-None-clause-none : goal.returns-in-None-clause-none
returns-in-None-clause-none c file rest b = c.in-None.ensures.none file.0 b.later b.name
