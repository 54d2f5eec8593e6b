use Rattle.std.proofs.Common.{◌≡◌, ◌∙◌, ap, to_z, of_z, w64}
use Rattle.std.proofs.lemmas.Int.{to_z-of_z}
use Rattle.spec_times.specs.Calendar.{time_text}
use Rattle.spec_times.specs.Ticks.{fraction_text, past_second, second_of, tick_text}
use Rattle.window_text.proofs.Appended.{two_pieces}
use Rattle.window_text.proofs.printing.add_time_in_ticks.Goals as goal

pub returns : goal.returns
unfolding tick_text
returns c =
    let result : to_z w64 (of_z w64 c.second_of_time.result) ≡ c.second_of_time.result = to_z-of_z w64 _ (record { sfits = c.second_of_time.type_inv }) in
    let time : to_z w64 (of_z w64 c.args.time) ≡ c.args.time = to_z-of_z w64 c.args.time c.ranges.time in
    let second : c.second_of_time.result ≡ second_of c.args.tick c.args.time = c.second_of_time.ensures.second ∙ ap (second_of c.args.tick) time in
    let past : c.ticks_past_second.result ≡ past_second c.args.tick c.args.time = c.ticks_past_second.ensures.past ∙ ap (past_second c.args.tick) time in
    two_pieces c.add_fraction.result _ _ _ (time_text (second_of c.args.tick c.args.time)) (fraction_text c.args.tick (past_second c.args.tick c.args.time))
    (rw (result ∙ second) at c.in_ok-add_time.ensures) (rw past at c.add_fraction.ensures)
