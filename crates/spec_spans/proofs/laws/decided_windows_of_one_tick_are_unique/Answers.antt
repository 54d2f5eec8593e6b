use Rattle.spec_spans.proofs.Decided.{same_windows, windows_limited, windows_of_parts}
use Rattle.spec_spans.proofs.laws.decided_windows_of_one_tick_are_unique.Goals as goal

pub returns-clause-leaves : goal.returns-clause-leaves
returns-clause-leaves c = λ s first last ls ms is of_one cover are d others others_are f. same_windows s is of_one first last ls ms cover are d others others_are f

pub returns-clause-parts : goal.returns-clause-parts
returns-clause-parts c = λ s first time last is of_one left right d f g. windows_of_parts s is of_one first time last left right d f g

pub returns-clause-limits : goal.returns-clause-limits
returns-clause-limits c = λ s depth rule first last is of_one span d f. windows_limited s is of_one depth rule first last span d f
