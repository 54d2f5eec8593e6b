use Rattle.std.proofs.Common.{arith, ◌∙◌, ◌-◌}
use Rattle.cheby_laws.proofs.entries.next_entry_of_row.Goals as goal

pub summand-requires : goal.summand-requires
summand-requires g c = let rule = g.met.R.Recurrence.rule in rw c.requires.beside_is (rule.beside_within c.args.x c.requires.x_in (c.args.k - 1) (omega arith))

pub next_entry-requires-clause-e_in : goal.next_entry-requires-clause-e_in
next_entry-requires-clause-e_in g c = let rule = g.met.R.Recurrence.rule in rw c.requires.last_is (rule.within c.args.x c.requires.x_in (c.args.k - 1) (omega arith))

pub next_entry-requires-clause-e_ordered : goal.next_entry-requires-clause-e_ordered
next_entry-requires-clause-e_ordered g c = let rule = g.met.R.Recurrence.rule in rw c.requires.last_is (rule.ordered c.args.x c.requires.x_in (c.args.k - 1))

pub next_entry-requires-clause-extra_in : goal.next_entry-requires-clause-extra_in
next_entry-requires-clause-extra_in g c = let rule = g.met.R.Recurrence.rule in rw (c.summand.ensures, c.requires.beside_is) (rule.extra_within _ (rule.beside_within c.args.x c.requires.x_in (c.args.k - 1) (omega arith)))

pub next_entry-requires-clause-before_in : goal.next_entry-requires-clause-before_in
next_entry-requires-clause-before_in g c = let rule = g.met.R.Recurrence.rule in rw c.requires.before_is (rule.within c.args.x c.requires.x_in (c.args.k - 2) (omega arith))

pub next_entry-requires-clause-limit_in : goal.next_entry-requires-clause-limit_in
next_entry-requires-clause-limit_in g c = let rule = g.met.R.Recurrence.rule in rw c.limit.ensures (rule.limit_within c.args.k c.requires.k_in)

pub returns : goal.returns
returns g c =
    let rule = g.met.R.Recurrence.rule in
    (rw (c.limit.ensures, c.summand.ensures, c.requires.beside_is, c.requires.last_is, c.requires.before_is) at c.next_entry.ensures) ∙ rule.step c.args.x c.args.k c.requires.k_from
