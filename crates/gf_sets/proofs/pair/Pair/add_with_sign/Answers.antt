use Rattle.std.proofs.Common.{w64}
use Rattle.std.proofs.lemmas.Int.{to_z-of_z}
use Rattle.std.proofs.lemmas.Result.{on_ok_weaker}
use Rattle.gf_sets.proofs.Pairs.{added_no, added_open, added_yes, by_ends}
use Rattle.gf_sets.proofs.pair.Pair.add_with_sign.Goals as goal

pub returns-in_ok-push_if_any-in-Yes : goal.returns-in_ok-push_if_any-in-Yes
returns-in_ok-push_if_any-in-Yes c =
    let first = to_z-of_z w64 c.args.first c.ranges.first in
    let last = to_z-of_z w64 c.args.last c.ranges.last in
    on_ok_weaker c.push_if_any-in-Yes.result
    (λ added. added_yes c.args.first c.args.last c.args.sign
    c.args.self.now.sure c.args.self.now.maybe c.push_if_any.new.self c.push_if_any-in-Yes.new.self c.in-Yes.is
    (by_ends c.push_if_any.new.self c.args.self.now.sure _ _ c.args.first c.args.last first last c.in_ok-push_if_any-in-Yes.ensures)
    (by_ends c.push_if_any-in-Yes.new.self c.args.self.now.maybe _ _ c.args.first c.args.last first last added))
    c.push_if_any-in-Yes.ensures

pub returns-in-Open : goal.returns-in-Open
returns-in-Open c =
    let first = to_z-of_z w64 c.args.first c.ranges.first in
    let last = to_z-of_z w64 c.args.last c.ranges.last in
    on_ok_weaker c.push_if_any-in-Open.result
    (λ added. added_open c.args.first c.args.last c.args.sign
    c.args.self.now.sure c.args.self.now.maybe c.args.self.now.sure c.push_if_any-in-Open.new.self c.in-Open.is
    (by_ends c.push_if_any-in-Open.new.self c.args.self.now.maybe _ _ c.args.first c.args.last first last added))
    c.push_if_any-in-Open.ensures

pub returns-in-No : goal.returns-in-No
returns-in-No c =
    added_no c.args.first c.args.last c.args.sign c.args.self.now.sure c.args.self.now.maybe c.args.self.now.sure
    c.args.self.now.maybe c.in-No.is
