use Rattle.std.proofs.Common.{◌≡◌, ◌++◌, ◌∙◌, codes, pos, to_z, of_z, w64, rules}
use mir.Val.{SFits}
use Rattle.std.proofs.lemmas.Int.{to_z-of_z}
use Rattle.std.specs.Int.{w128}
use Rattle.spec_output.specs.Messages.{times}
use Rattle.spec_output.specs.Report.{limits_text, turns_text}
use Rattle.window_text.proofs.Appended.{four_pieces}
use Rattle.window_text.proofs.scalar_lines.add_scalar_line.Goals as goal

pub returns : goal.returns
returns c =
    let ask = c.args.ask.now in
    let width : to_z w128 (of_z w128 c.from.result) ≡ pos ask.plan.width = to_z-of_z w128 c.from.result (record { sfits = c.from.type_inv }) ∙ c.from.ensures in
    let from : SFits w64 ask.from = search rules in
    let to : SFits w64 ask.to = search rules in
    four_pieces c.add_time_pair.result _ _ _ _ _ (codes "SCALAR quad " ++ ask.text) (turns_text ask.plan.dir) (limits_text (pos ask.plan.width) ask.plan.depth ask.plan.cut) (codes " span " ++ times ask.from ask.to) (rw c.as_str.ensures at c.in_ok-add_name_and_value.ensures) (rw c.dir_name.ensures at c.in_ok-add_name_and_value-2.ensures) (rw width at c.in_ok-add_limits.ensures) (rw (to_z-of_z w64 ask.from from, to_z-of_z w64 ask.to to) at c.add_time_pair.ensures)
