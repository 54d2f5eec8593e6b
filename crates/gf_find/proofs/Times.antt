-- The times of an accepted ephemeris have texts, in its ticks too.
use Rattle.std.proofs.Common.{ℕ, ℤ, pos, ◌*ℤ◌, ◌≤ℤ◌, arith}
use Rattle.std.proofs.lemmas.Int.{ints}
use Rattle.spec_numbers.proofs.Order.{le-mul}
use Rattle.spec_ephemeris.specs.declared.limits.TheConstants.{FIRST_TIME, LAST_TIME}
use Rattle.spec_ephemeris.specs.Ticks.{IsInSeconds, in_ticks}
use Rattle.spec_ephemeris.proofs.Ticks.{end_in_ticks}
use Rattle.spec_ephemeris.specs.Ephemeris.{Ephemeris, IsEphemeris, end_of}
use Rattle.spec_searches.proofs.Parts.{no_earlier}
use Rattle.spec_times.specs.TimeWords.{IsTime}
use Rattle.spec_times.specs.Ticks.{IsTimeIn}

end_late : (e : Ephemeris) → IsEphemeris e → IsInSeconds e → FIRST_TIME ≤ℤ end_of e
end_late e checked seconds =
    let after = no_earlier e.start e.header.block_seconds e.blocks checked.header.shortest in
    let first = seconds.first in
    omega (arith, ints, after, first)

-- an ephemeris that counts seconds begins and ends at times that have texts, in its ticks too
in_limits : (tick : ℕ) (t : ℤ) → FIRST_TIME ≤ℤ t → t ≤ℤ LAST_TIME → IsTimeIn tick (t *ℤ pos tick)
in_limits tick t first last =
    record { low = le-mul FIRST_TIME t (pos tick) (omega (arith, ints)) first; high = le-mul t LAST_TIME (pos tick) (omega (arith, ints)) last }

pub start_counted : (tick : ℕ) (e : Ephemeris) → IsInSeconds e → IsTimeIn tick (in_ticks tick e).start
start_counted tick e seconds = in_limits tick e.start seconds.first seconds.last

pub end_counted : (tick : ℕ) (e : Ephemeris) → IsEphemeris e → IsInSeconds e → IsTimeIn tick (end_of (in_ticks tick e))
end_counted tick e checked seconds = rw (end_in_ticks tick e) (in_limits tick (end_of e) (end_late e checked seconds) seconds.end)

pub start_is : (e : Ephemeris) → IsInSeconds e → IsTime e.start
start_is e seconds = record { low = seconds.first; high = seconds.last }

pub end_is : (e : Ephemeris) → IsEphemeris e → IsInSeconds e → IsTime (end_of e)
end_is e checked seconds = record { low = end_late e checked seconds; high = seconds.end }
