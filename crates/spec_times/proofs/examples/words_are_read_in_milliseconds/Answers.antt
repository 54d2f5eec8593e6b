use Rattle.std.proofs.Common.{refl, sym, ap, ◌∙◌, arith, pos}
use Rattle.jiff_core.proofs.SignedLemmas.{signed_arith}
use Rattle.spec_ephemeris.specs.declared.limits.TheConstants.{LAST_TIME}
use Rattle.spec_times.specs.Ticks.{tick_from, tick_of}
use Rattle.spec_times.specs.TimeWords.{shown, time_shown}
use Rattle.spec_times.proofs.Ticks.{shown_second}
use Rattle.spec_times.proofs.Worked.{last, leap_day}
use Rattle.spec_times.proofs.examples.words_are_read_in_milliseconds.Goals as goal

pub returns : goal.returns
unfolding tick_of
returns c =
    let on_leap_day = ap (λ word. time_shown (shown word)) (sym leap_day) ∙ shown_second (pos 5140799) (record { low = omega (arith, signed_arith); high = omega (arith, signed_arith) }) in
    let at_last = ap (λ word. time_shown (shown word)) (sym last) ∙ shown_second LAST_TIME (record { low = omega (arith, signed_arith); high = omega (arith, signed_arith) }) in
    record {
      whole_number = refl;
      fraction = ap (tick_from 1000 500) on_leap_day;
      no_fraction = ap (tick_from 1000 0) on_leap_day;
      in_seconds = refl;
      two_digits = refl;
      after_a_number = refl;
      too_late = ap (tick_from 1000 1) at_last;
      too_many_seconds = refl;
    }
