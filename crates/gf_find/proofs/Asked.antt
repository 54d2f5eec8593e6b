-- What words ask for lies within the limits of the calls that do it.
use Rattle.std.proofs.Common.{◌≡◌, ◌<◌, ◌≤◌, ℕ, List, Ok, arith}
use Rattle.spec_generated.specs.declared.limits.TheConstants.{MAX_GENERATED}
use Rattle.spec_requests.specs.declared.request.Request.TheVariants.{Gen}
use Rattle.spec_requests.specs.declared.limits.TheConstants.{MAX_WORKERS}
use Rattle.spec_requests.specs.Limits.{AreWithinLimits}
use Rattle.spec_requests.specs.Requests.{request_of}
use Rattle.spec_requests.proofs.LimitLemmas.{requests_keep_to_limits}

module _ (words : List (List ℕ)) (blocks seed workers : ℕ) (asked : request_of words ≡ Ok (Gen blocks seed workers)) where
  kept : AreWithinLimits blocks workers
  kept = requests_keep_to_limits words (Gen blocks seed workers) asked

  pub blocks_are_some : 0 < blocks
  blocks_are_some = omega (arith, kept.some_blocks)

  pub blocks_are_within : blocks ≤ MAX_GENERATED
  blocks_are_within = omega (arith, kept.few_blocks)

  pub workers_are_some : 1 ≤ workers
  workers_are_some = kept.some_workers

  pub workers_are_within : workers ≤ MAX_WORKERS
  workers_are_within = kept.few_workers
