use Rattle.std.proofs.Common.{◌≡◌, ◌++◌, ◌∙◌, to_z, of_z, w64, rules}
use mir.Val.{SFits}
use Rattle.std.proofs.lemmas.Int.{to_z-of_z}
use Rattle.std.specs.Int.{w128}
use Rattle.spec_output.specs.Report.{event_text, limits_text, ticks_text}
use Rattle.window_text.proofs.Appended.{four_pieces}
use Rattle.window_text.proofs.query_lines.add_query_up_to_span.Goals as goal

pub returns : goal.returns
returns c =
    let find = c.args.find.now in
    let fits : SFits w64 find.width = search rules in
    let width : to_z w128 (of_z w128 c.from.result) ≡ find.width = to_z-of_z w128 c.from.result (record { sfits = c.from.type_inv }) ∙ c.from.ensures ∙ to_z-of_z w64 find.width fits in
    four_pieces c.add_tick_rate.result _ _ _ _ _ (event_text c.args.word.now find) (c.args.name.now ++ c.args.wanted.now) (limits_text find.width find.depth find.cut) (ticks_text find.tick) c.in_ok-add_event.ensures c.in_ok-add_name_and_value.ensures (rw width at c.in_ok-add_limits.ensures) c.add_tick_rate.ensures
