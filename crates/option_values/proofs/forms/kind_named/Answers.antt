use Rattle.std.proofs.Common.{Option, ap, option_map}
use Rattle.spec_requests.specs.Names.{kind_of}
use Rattle.spec_kinds.specs.declared.table.KindRow.{KindRow}
use Rattle.option_values.proofs.forms.kind_named.Goals as goal

pub returns-in-Some : goal.returns-in-Some
unfolding kind_of
returns-in-Some c = ap (λ (found : Option KindRow). option_map (λ row. row.kind) found) c.in-Some.ensures

pub returns-in-None : goal.returns-in-None
unfolding kind_of
returns-in-None c = ap (λ (found : Option KindRow). option_map (λ row. row.kind) found) c.in-None.ensures
