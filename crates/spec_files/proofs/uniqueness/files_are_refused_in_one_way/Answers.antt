use Rattle.spec_files.proofs.Once.{lacking_once, refused_once}
use Rattle.spec_files.proofs.uniqueness.files_are_refused_in_one_way.Goals as goal

pub returns-clause-refused : goal.returns-clause-refused
returns-clause-refused c = refused_once

pub returns-clause-not_read : goal.returns-clause-not_read
returns-clause-not_read c = lacking_once
