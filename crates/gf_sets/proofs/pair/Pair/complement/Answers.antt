use Rattle.std.proofs.Common.{◌∙◌, ◌&&◌, not, w64}
use Rattle.std.proofs.lemmas.Int.{to_z-of_z}
use Rattle.spec_sets.specs.Spans.{has, is_between}
use Rattle.gf_sets.proofs.Pairs.{opposite_of}
use Rattle.gf_sets.proofs.pair.Pair.complement.Goals as goal

pub returns-clause-signs : goal.returns-clause-signs
returns-clause-signs c =
    let from = to_z-of_z w64 c.args.from c.ranges.from in
    let to = to_z-of_z w64 c.args.to c.ranges.to in
    λ x are. opposite_of x c.args.from c.args.to c.args.self.now.sure c.args.self.now.maybe c.in_ok-sure.sure c.in_ok-maybe.maybe are
    (λ t. c.in_ok-sure.ensures t ∙ (λ i. is_between (from i) (to i) t && not (has c.args.self.now.maybe t)))
    (λ t. c.in_ok-maybe.ensures t ∙ (λ i. is_between (from i) (to i) t && not (has c.args.self.now.sure t)))
