use Rattle.std.proofs.Common.{rules}
use Rattle.span_ledger.proofs.Indexing.{same_at}
use Rattle.span_ledger.proofs.register.place_of_key.Goals as goal

pub returns-clause-updates : goal.returns-clause-updates
returns-clause-updates c =
    let u = c.in-Ok.ensures.update.0 c.or_insert.result.now in
    (λ q. same_at q _ _ _ (u.0 q) (search rules), search (rules, u.1), λ q other. same_at q _ _ _ (u.2 q other) (search rules), search (rules, u.3))
