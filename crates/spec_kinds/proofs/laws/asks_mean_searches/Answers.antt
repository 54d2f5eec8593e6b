use Rattle.spec_kinds.proofs.Searching.{search_is}
use Rattle.spec_kinds.proofs.laws.asks_mean_searches.Goals as goal

pub returns : goal.returns
returns c = search_is
