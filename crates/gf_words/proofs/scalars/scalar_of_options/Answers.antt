use Rattle.std.proofs.Common.{◌∙◌, ap, rules}
use Rattle.std.proofs.lemmas.Int.{to_z-of_z}
use Rattle.std.specs.Int.{w64}
use Rattle.gf_words.specs.declared.scalars.ScalarOptions.{ScalarOptions}
use Rattle.spec_requests.specs.Requests.{plan_of, scalar_of}
use Rattle.gf_words.proofs.scalars.scalar_of_options.Goals as goal

pub returns : goal.returns
unfolding scalar_of plan_of
returns c =
    let p_is = to_z-of_z w64 c.args.options.polynomial.p (search rules) in
    let q_is = to_z-of_z w64 c.args.options.polynomial.q (search rules) in
    let r_is = to_z-of_z w64 c.args.options.polynomial.r (search rules) in
    let from_is = to_z-of_z w64 c.args.options.from (search rules) in
    let to_is = to_z-of_z w64 c.args.options.to (search rules) in
    λ i. record {
      p = (p_is ∙ ap (λ (o : ScalarOptions). o.polynomial.p) c.requires) i;
      q = (q_is ∙ ap (λ (o : ScalarOptions). o.polynomial.q) c.requires) i;
      r = (r_is ∙ ap (λ (o : ScalarOptions). o.polynomial.r) c.requires) i;
      text = (c.in_ok-copy_text.ensures ∙ c.word_or_default.ensures) i;
      from = (from_is ∙ ap (λ (o : ScalarOptions). o.from) c.requires) i;
      to = (to_is ∙ ap (λ (o : ScalarOptions). o.to) c.requires) i;
      plan = record {
        dir = (c.requires i).dir;
        width = (c.from.ensures ∙ ap (λ (o : ScalarOptions). o.limits.width) c.requires) i;
        depth = (c.requires i).limits.depth;
        cut = (c.requires i).limits.cut;
      };
      workers = (c.requires i).limits.workers;
    }
