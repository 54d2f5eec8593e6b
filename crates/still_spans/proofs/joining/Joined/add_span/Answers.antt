use Rattle.std.proofs.Common.{arith, rules, w64, sym, ◌∙◌}
use Rattle.std.proofs.lemmas.Int.{ints, to_z-of_z}
use Rattle.std.proofs.lemmas.List.Elements.{All-push}
use mir.Val.{SFits}
use Rattle.spec_stills.specs.Still.{IsStill}
use Rattle.still_spans.proofs.FollowingShares.{end_after, in_order_after}
use Rattle.still_spans.proofs.joining.Joined.add_span.Goals as goal

pub returns-clause-still : goal.returns-clause-still
returns-clause-still c = λ s still all. rw c.in_ok-push.ensures.items (All-push (IsStill s) c.args.self.now.spans.items c.args.span all still)

pub returns-clause-joined : goal.returns-clause-joined
returns-clause-joined c = λ from joined.
    let later = c.if-span-self.false in
    let several = c.if-span.false in
    let fits : SFits w64 c.args.span.upto = search rules in
    let end = joined.end in
    record {
      order = rw c.in_ok-push.ensures.items (in_order_after from c.args.self.now.spans.items c.args.span joined.order (omega (arith, ints, later, end)) (omega (arith, ints, several)));
      end = to_z-of_z w64 c.args.span.upto fits ∙ rw c.in_ok-push.ensures.items (sym (end_after from c.args.self.now.spans.items c.args.span));
    }
