use Rattle.spec_files.proofs.Exclusions.{accepted_not_lacking, accepted_not_refused, accepted_once, refused_not_lacking}
use Rattle.spec_files.proofs.file_laws.one_answer_is_true.Goals as goal

pub returns-clause-accepted : goal.returns-clause-accepted
returns-clause-accepted c = accepted_once

pub returns-clause-not_refused : goal.returns-clause-not_refused
returns-clause-not_refused c = accepted_not_refused

pub returns-clause-accepted_is_read : goal.returns-clause-accepted_is_read
returns-clause-accepted_is_read c = accepted_not_lacking

pub returns-clause-refused_is_read : goal.returns-clause-refused_is_read
returns-clause-refused_is_read c = refused_not_lacking
