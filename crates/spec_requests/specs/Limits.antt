-- What requests keep to.
use Rattle.std.specs.Prelude.{◌≡◌, ℕ, ◌+◌, ◌*◌, ◌≤◌, true, List, length, Option, None, IsSome, pos, ◌≤ℤ◌, unsigned_abs, ⊤}
use Rattle.spec_text.specs.Printed.{AreFrom}
use Rattle.spec_text.specs.declared.decimals.Decimal.{Decimal}
use Rattle.spec_text.specs.declared.limits.TheConstants.{MAX_WORD_BYTES}
use Rattle.spec_ephemeris.specs.Ticks.{IsTick}
use Rattle.spec_events.specs.declared.dir.Dir.TheVariants.{Any}
use Rattle.spec_kinds.specs.Asks.{IsAsk}
use Rattle.spec_scalars.specs.Quads.{IsSmall}
use Rattle.spec_requests.specs.declared.request.FindAsk.{FindAsk}
use Rattle.spec_requests.specs.declared.request.ScalarAsk.{ScalarAsk}
use Rattle.spec_requests.specs.declared.request.Relation.{Relation}
use Rattle.spec_requests.specs.declared.request.Relation.TheVariants.{Less, AtLeast, Within, Outside}
use Rattle.spec_requests.specs.declared.request.Request.{Request}
use Rattle.spec_requests.specs.declared.request.Request.TheVariants.{Find, Cert, Verify, Check, Gen, Set, Scalar}
use Rattle.spec_requests.specs.declared.limits.TheConstants.{MAX_GENERATED_BLOCKS, MAX_WIDTH, MAX_DEPTH, MAX_WORKERS, MAX_SCALAR_TIME}
use Rattle.spec_requests.specs.Options.{has_sets}

-- the numbers of an event as they are given: bytes after the blank, no more than two decimals and a comma have
pub record ArePlain (values : List ℕ) : Type 0 where
  pub bytes : AreFrom 33 values
  pub short : length values ≤ 2 * MAX_WORD_BYTES + 1

-- the event can be asked of an ephemeris, and the numbers lie in their limits
pub record IsWithinLimits (find : FindAsk) : Type 0 where
  pub ask : IsAsk find.ask
  pub values : ArePlain find.values
  pub tick : IsTick find.tick
  pub some_width : pos 1 ≤ℤ find.width
  pub width : find.width ≤ℤ pos MAX_WIDTH
  pub depth : find.depth ≤ MAX_DEPTH
  pub some_workers : 1 ≤ find.workers
  pub workers : find.workers ≤ MAX_WORKERS

-- so many blocks of a generated text, searched by so many workers, lie in their limits
pub record AreWithinLimits (blocks workers : ℕ) : Type 0 where
  pub some_blocks : 1 ≤ blocks
  pub few_blocks : blocks ≤ MAX_GENERATED_BLOCKS
  pub some_workers : 1 ≤ workers
  pub few_workers : workers ≤ MAX_WORKERS

-- a relation has a second reference exactly where it is one to two
abbrev pub HasReferences : Relation → Option Decimal → Type 0
HasReferences Less ref2 = ref2 ≡ None
HasReferences AtLeast ref2 = ref2 ≡ None
HasReferences Within ref2 = IsSome ref2
HasReferences Outside ref2 = IsSome ref2

-- the relation can be asked of an ephemeris: its search wants all turns, of a kind that sets can be made of
pub record IsSetWithinLimits (find : FindAsk) (ref2 : Option Decimal) (relation : Relation) : Type 0 where
  pub search : IsWithinLimits find
  pub all : find.ask.dir ≡ Any
  pub kind : has_sets find.ask.kind ≡ true
  pub references : HasReferences relation ref2

-- the polynomial is one that can be searched for, over times of as many digits as words may have
pub record IsScalarWithinLimits (ask : ScalarAsk) : Type 0 where
  pub small : IsSmall (record { p = ask.p; q = ask.q; r = ask.r })
  pub from : unsigned_abs ask.from ≤ MAX_SCALAR_TIME
  pub to : unsigned_abs ask.to ≤ MAX_SCALAR_TIME
  pub some_width : 1 ≤ ask.plan.width
  pub width : ask.plan.width ≤ MAX_WIDTH
  pub depth : ask.plan.depth ≤ MAX_DEPTH
  pub some_workers : 1 ≤ ask.workers
  pub workers : ask.workers ≤ MAX_WORKERS

-- what is asked for lies in its limits
abbrev pub KeepsToLimits : Request → Type 0
KeepsToLimits (Find find) = IsWithinLimits find
KeepsToLimits (Cert find) = IsWithinLimits find
KeepsToLimits (Verify find cert) = IsWithinLimits find
KeepsToLimits (Check files) = ⊤
KeepsToLimits (Gen blocks seed workers) = AreWithinLimits blocks workers
KeepsToLimits (Set find ref2 relation) = IsSetWithinLimits find ref2 relation
KeepsToLimits (Scalar ask) = IsScalarWithinLimits ask
