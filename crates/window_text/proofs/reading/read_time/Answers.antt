use Rattle.std.proofs.Common.{◌≡◌, sym, ap, ◌∙◌, ℤ, pos, ◌*ℤ◌, to_z, of_z, FitsSigned, w64, rules}
use Rattle.std.proofs.lemmas.Int.{to_z-of_z}
use Rattle.spec_times.specs.Ticks.{tick_of, tick_or_shown, within_tick_limits}
use Rattle.window_text.proofs.reading.read_time.Goals as goal

pub returns-in-Some : goal.returns-in-Some
unfolding tick_of
returns-in-Some c =
    let fits : FitsSigned w64 c.in-Some.second = search rules in
    let ticks : to_z w64 (of_z w64 c.seconds_in_ticks.result) ≡ c.seconds_in_ticks.result = to_z-of_z w64 _ (record { sfits = c.seconds_in_ticks.type_inv }) in
    let second : to_z w64 (of_z w64 c.in-Some.second) ≡ c.in-Some.second = to_z-of_z w64 c.in-Some.second fits in
    c.check_ticks_in_range.ensures ∙ ap (within_tick_limits c.args.tick) (ticks ∙ c.seconds_in_ticks.ensures ∙ ap (λ (z : ℤ). z *ℤ pos c.args.tick) second)
    ∙ ap (tick_or_shown c.args.tick c.args.word.now) (sym c.in-Some.is ∙ c.read_whole_time.ensures.value)

pub returns-in-None : goal.returns-in-None
unfolding tick_of
returns-in-None c = c.read_calendar_tick.ensures ∙ ap (tick_or_shown c.args.tick c.args.word.now) (sym c.in-None.is ∙ c.read_whole_time.ensures.value)
