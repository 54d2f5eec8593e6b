use Rattle.spec_stills.proofs.StillMargins.{still_by_steps, still_by_units}
use Rattle.spec_stills.proofs.margin_laws.margins_make_spans_still.Goals as goal

pub returns : goal.returns
returns c = record {
  steps = λ s x g c d is fits begins several ends margin sign fit.
      still_by_steps s x g c d is fits begins ends margin sign fit;
  units = still_by_units;
}
