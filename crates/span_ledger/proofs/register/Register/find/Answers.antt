use Rattle.std.proofs.Common.{◌∙◌, ap}
use Rattle.std.specs.BTreeMap.{get}
use Rattle.span_ledger.specs.Indexes.{Key, key_cmp}
use Rattle.span_ledger.proofs.Indexing.{found, missing}
use Rattle.span_ledger.proofs.register.Register.find.Goals as goal

pub returns-clause-some : goal.returns-clause-some
returns-clause-some c = rw (← c.self.view_is) (found _ _ _ _ c.args.leaf _ c.self.invariant (c.copied.ensures ∙ (c.get.ensures.value ∙ ap (λ (k : Key). get key_cmp c.self.inside.index k) c.leaf_key.ensures)))

pub returns-clause-none : goal.returns-clause-none
returns-clause-none c = rw (← c.self.view_is) (missing _ _ _ _ c.args.leaf _ c.self.invariant (c.copied.ensures ∙ (c.get.ensures.value ∙ ap (λ (k : Key). get key_cmp c.self.inside.index k) c.leaf_key.ensures)))
