use Rattle.std.proofs.Common.{◌∙◌, Ok, rules}
use Rattle.std.proofs.lemmas.Int.{to_z-of_z}
use Rattle.std.specs.Int.{w64}
use Rattle.gf_words.specs.Parts.{scalar_of_parts}
use Rattle.gf_words.proofs.Pairs.{all_read, along, first_bad}
use Rattle.gf_words.proofs.scalars.read_scalar_options.Goals as goal

pub returns-in-Ok : goal.returns-in-Ok
returns-in-Ok c =
    let from_is = to_z-of_z w64 c.in-Ok.from (search rules) in
    let to_is = to_z-of_z w64 c.in-Ok.to (search rules) in
    (λ i. Ok (record {
      polynomial = c.in-Ok.polynomial;
      dir = c.unwrap_or.ensures i;
      from = from_is i;
      to = to_is i;
      limits = c.in-Ok.limits;
    }))
    ∙ all_read scalar_of_parts c.in-Ok.ensures
    (along (c.join_parts-sought.ensures ∙ along c.polynomial_option.ensures c.direction_option.ensures) (c.join_parts-manner.ensures ∙ along c.read_times.ensures c.read_limits.ensures))

pub returns-in-Err : goal.returns-in-Err
returns-in-Err c =
    first_bad scalar_of_parts c.in-Err.ensures
    (along (c.join_parts-sought.ensures ∙ along c.polynomial_option.ensures c.direction_option.ensures) (c.join_parts-manner.ensures ∙ along c.read_times.ensures c.read_limits.ensures))
