use Rattle.std.proofs.Common.{◌≡◌, ◌∙◌, ℕ, List, ap, sym, drop, arith}
use Rattle.spec_text.specs.Decimals.{value}
use Rattle.spec_times.specs.TimeWords.{shown, time_shown}
use Rattle.spec_times.specs.Ticks.{before_fraction, ending, tick_from}
use Rattle.std.proofs.lemmas.List.{length-drop, length-take}
use Rattle.window_text.proofs.Forms.{length_of_fraction, rest_is, with_fraction}
use Rattle.window_text.proofs.reading.read_calendar_tick.Goals as goal

pub overflow_sub-word : goal.overflow_sub-word
overflow_sub-word c =
    let long = length_of_fraction c.args.word.now _ c.has_fraction.ensures c.if-has_fraction.true in
    omega arith

pub split_at-requires : goal.split_at-requires
split_at-requires c =
    omega arith

pub slice_bounds-digits_value-count : goal.slice_bounds-digits_value-count
slice_bounds-digits_value-count c =
    let long = length_of_fraction c.args.word.now _ c.has_fraction.ensures c.if-has_fraction.true in
    let back = c.split_at.ensures.back_len in omega arith

pub slice_bounds-digits_value-start : goal.slice_bounds-digits_value-start
slice_bounds-digits_value-start c =
    let long = length_of_fraction c.args.word.now _ c.has_fraction.ensures c.if-has_fraction.true in
    let back = c.split_at.ensures.back_len in omega arith

pub slice_bounds-digits_value-end : goal.slice_bounds-digits_value-end
slice_bounds-digits_value-end c =
    let long = length_of_fraction c.args.word.now _ c.has_fraction.ensures c.if-has_fraction.true in
    let back = c.split_at.ensures.back_len in omega arith

pub digits_value-requires : goal.digits_value-requires
digits_value-requires c =
    let long = length_of_fraction c.args.word.now _ c.has_fraction.ensures c.if-has_fraction.true in
    let back = c.split_at.ensures.back_len in omega (arith, length-drop {A = ℕ}, length-take {A = ℕ})

pub ticks_after_second-requires-clause-tick : goal.ticks_after_second-requires-clause-tick
ticks_after_second-requires-clause-tick c =
    c.requires

pub ticks_after_second-requires-clause-second : goal.ticks_after_second-requires-clause-second
ticks_after_second-requires-clause-second c =
    c.read_calendar_time.ensures.bound

pub ticks_after_second-requires-clause-past : goal.ticks_after_second-requires-clause-past
ticks_after_second-requires-clause-past c =
    c.digits_value.ensures.bound

pub ticks_after_second-requires-else-tick-eq1000-clause-tick : goal.ticks_after_second-requires-else-tick-eq1000-clause-tick
ticks_after_second-requires-else-tick-eq1000-clause-tick c =
    c.requires

pub ticks_after_second-requires-else-tick-eq1000-clause-second : goal.ticks_after_second-requires-else-tick-eq1000-clause-second
ticks_after_second-requires-else-tick-eq1000-clause-second c =
    c.read_calendar_time-else-tick-eq1000.ensures.bound

pub returns-then-has_fraction : goal.returns-then-has_fraction
returns-then-has_fraction c =
    let word = c.args.word.now in
    let back = c.split_at.result.1.now in
    let digits : c.digits_value.result ≡ value (drop 1 (ending word)) = c.digits_value.ensures.value ∙ (ap value (rest_is back 1) ∙ ap (λ (bytes : List ℕ). value (drop 1 bytes)) c.split_at.ensures.back) in
    let second : c.read_calendar_time.result ≡ time_shown (shown (before_fraction word)) = c.read_calendar_time.ensures.time ∙ ap (λ (bytes : List ℕ). time_shown (shown bytes)) c.split_at.ensures.front in
    c.ticks_after_second.ensures ∙ ((λ i. tick_from c.args.tick (digits i) (second i)) ∙ with_fraction c.args.tick word c.if-tick-eq1000.true (sym c.has_fraction.ensures ∙ c.if-has_fraction.true))
