use Rattle.std.proofs.Common.{◌<◌}
use Rattle.event_models.proofs.kept_rows.KeptRows.oldest_place.Given as goal

abbrev pub invariant-loop-place : goal.invariant-loop-place
invariant-loop-place l = l.oldest < 16
